use Rattle.std.proofs.Common.{◌≡◌, length}
use Rattle.digits.specs.Reading.{all_of, run_at}
use Rattle.digits.proofs.Values.{with_front}
use Rattle.digits.proofs.reading.runs.Given as goal

abbrev pub invariant-loop-rest : goal.invariant-loop-rest
invariant-loop-rest l = with_front l.found.items (all_of (run_at l.start) l.rest) ≡ all_of (run_at l.start) l.content

abbrev pub decreases-loop-rest : goal.decreases-loop-rest
decreases-loop-rest l = length l.rest
