-- A point that the other entry lacks.
use Rattle.std.proofs.Common.{rules}
use Rattle.closure.proofs.FindingLemmas.{refuted}
use Rattle.call_ways.proofs.holders.has_points_of.Goals as goal

pub returns-then-not-has_point_of : goal.returns-then-not-has_point_of
returns-then-not-has_point_of c = (
  λ bad. absurd (search rules),
  λ all. absurd (refuted c.has_point_of.result c.if-not-has_point_of.true (c.has_point_of.ensures.1 (all c.loop-number.number))),
)
