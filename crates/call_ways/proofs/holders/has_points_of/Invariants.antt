-- The other entry has each of the points so far.
use Rattle.std.proofs.Common.{ℕ, ◌<◌}
use Rattle.call_ways.specs.Points.{IsPointIn}
use Rattle.call_ways.proofs.holders.has_points_of.Given as goal

abbrev pub invariant-loop-number : goal.invariant-loop-number
invariant-loop-number l = (p : ℕ) → p < l.number → IsPointIn l.entry l.other p
