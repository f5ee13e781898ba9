-- Line by line.
use Rattle.std.proofs.Common.{◌≡◌, ℕ, ◌<◌, ◌∷◌, []}
use Rattle.configuration.specs.Config.{configuration_of}
use Rattle.closure.specs.Tests.{PairBelowIsMarked}
use Rattle.closure.proofs.obligations.line_is_marked.Given as goal

-- the line is marked with those that were passed
abbrev pub invariant-loop-other : goal.invariant-loop-other
invariant-loop-other l =
    (l.other-items ≡ 0 ∷ 1 ∷ 2 ∷ 3 ∷ [])
    × ((k : ℕ) → k < l.other-index → PairBelowIsMarked l.script (configuration_of l.config) l.lines l.one k)
