-- The results of the steps that were passed are in some entry.
use Rattle.closure.specs.Shown.{shown}
use Rattle.closure.specs.Findings.{AreCoveredBelow}
use Rattle.explanation.proofs.uncovered.first_uncovered.Given as goal

abbrev pub invariant-loop-step : goal.invariant-loop-step
invariant-loop-step l = AreCoveredBelow l.cert (shown l.steps) l.step-index
