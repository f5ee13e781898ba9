-- One command fewer is left.
use Rattle.std.proofs.Common.{length}
use Rattle.closure.proofs.hull_steps.+is_request_covered.Given as goal

abbrev pub decreases-is_request_covered : goal.decreases-is_request_covered
decreases-is_request_covered l = length l.request.now
