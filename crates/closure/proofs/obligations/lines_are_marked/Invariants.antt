-- Line by line.
use Rattle.std.proofs.Common.{◌≡◌, ℕ, ◌<◌, ◌∷◌, []}
use Rattle.configuration.specs.Config.{configuration_of}
use Rattle.closure.specs.Tests.{PairBelowIsMarked}
use Rattle.closure.proofs.obligations.lines_are_marked.Given as goal

-- the lines that were passed are marked with each
abbrev pub invariant-loop-one : goal.invariant-loop-one
invariant-loop-one l =
    (l.one-items ≡ 0 ∷ 1 ∷ 2 ∷ 3 ∷ [])
    × ((i : ℕ) → i < l.one-index → (j : ℕ) → j < 4 → PairBelowIsMarked l.script (configuration_of l.config) l.lines i j)
