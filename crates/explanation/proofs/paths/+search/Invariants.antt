-- What is left, twice, and one more where an ephemeral is chosen; none of the ephemerals so far leads to the line.
use Rattle.std.proofs.Common.{◌+◌, ◌*◌, ◌-◌, ◌<◌, ℕ}
use Rattle.configuration.specs.Config.{configuration_of}
use Rattle.explanation.specs.Paths.{GoesNowhereOver}
use Rattle.explanation.proofs.paths.+search.Given as goal

abbrev pub decreases-path_over : goal.decreases-path_over
decreases-path_over l = 2 * l.left + 1

abbrev pub decreases-path_within : goal.decreases-path_within
decreases-path_within l = 2 * l.left

abbrev pub invariant-path_within-loop-ephemeral : goal.invariant-path_within-loop-ephemeral
invariant-path_within-loop-ephemeral l =
    (n : ℕ) → n < l.ephemeral-index → GoesNowhereOver (configuration_of l.config) l.from n l.to (l.left - 1)
