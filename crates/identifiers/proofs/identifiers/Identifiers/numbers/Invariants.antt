use Rattle.std.proofs.Common.{◌≡◌, ℕ, ◌<◌, ◌++◌, Option, Contains}
use Rattle.identifiers.specs.Class.{size}
use Rattle.identifiers.proofs.HeldLemmas.{listed, held}
use Rattle.identifiers.proofs.identifiers.Identifiers.numbers.Given as goal

-- what was found, and after it what the entries that are left have, is all; and the keys of these have numbers
abbrev pub invariant-loop-key : goal.invariant-loop-key
invariant-loop-key g l =
    (goal.iterator-loop-key g).can_next l.key-iterator ×
    (goal.iterator-loop-key g).is_finite l.key-iterator ×
    (l.found.items ++ listed l.self-inside.class l.key-iterator ≡ held l.self-inside.class 0 l.self-inside.slots.slots) ×
    ((key : ℕ) (slot : Option g.row.T.Denot) → Contains l.key-iterator (key, slot) → key < size l.self-inside.class)
