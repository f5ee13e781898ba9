use Rattle.std.proofs.Common.{◌≡◌, ◌≤◌, length}
use Rattle.digits.specs.Reading.{all_of, position_at}
use Rattle.digits.proofs.Values.{with_front}
use Rattle.digits.proofs.reading.positions.Given as goal

abbrev pub invariant-loop-rest : goal.invariant-loop-rest
invariant-loop-rest l = (length l.rest ≤ l.end) × with_front l.found.items (all_of (position_at l.end) l.rest) ≡ all_of (position_at l.end) l.text

abbrev pub decreases-loop-rest : goal.decreases-loop-rest
decreases-loop-rest l = length l.rest
