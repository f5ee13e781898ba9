-- The test whether two lists of alternatives are the same.
use Rattle.std.specs.Prelude.{List, Bool}
use Rattle.std.specs.Cmp.Lexicographic.{pointwise}
use Rattle.std.proofs.Math.Bool.{beq}
use Rattle.mg_model.specs.declared.positions.Position.{Position}

-- two positions accept the same symbols
abbrev pub same_position : Position → Position → Bool
same_position one other = pointwise beq one.accepts other.accepts

-- two lists of alternatives have the same positions, place by place
abbrev pub same_alternatives : List (List Position) → List (List Position) → Bool
same_alternatives one other = pointwise (pointwise same_position) one other
