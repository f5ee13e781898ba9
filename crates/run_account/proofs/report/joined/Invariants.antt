-- The lines of the calls so far.
use Rattle.std.proofs.Common.{◌≡◌, take}
use Rattle.std.specs.List.{flat_map}
use Rattle.run_account.proofs.report.joined.Given as goal

abbrev pub invariant-loop-own : goal.invariant-loop-own
invariant-loop-own l = l.lines.items ≡ flat_map (λ own. own.items) (take l.own-index l.all)
