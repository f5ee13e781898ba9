-- One name fewer is left.
use Rattle.std.proofs.Common.{◌-◌}
use Rattle.closure.proofs.kept_block.+are_named_kept.Given as goal

abbrev pub decreases-are_named_kept : goal.decreases-are_named_kept
decreases-are_named_kept l = 8 - l.number
