use Rattle.std.proofs.Common.{◌≡◌, length, vec_capacity}
use Rattle.identifiers.proofs.SettleLemmas.{IsSettling}
use Rattle.identifiers.proofs.identifiers.Identifiers.settle.Given as goal

abbrev pub invariant-loop-key : goal.invariant-loop-key
invariant-loop-key g l =
    (l.self-inside.class ≡ l.initial.self-inside.class) ×
    (vec_capacity l.self-inside.freed ≡ vec_capacity l.initial.self-inside.freed) ×
    IsSettling l.initial.self-inside.slots.slots l.self-inside.slots.slots l.self-inside.freed.items

abbrev pub decreases-loop-key : goal.decreases-loop-key
decreases-loop-key g l = length l.self-inside.freed.items
