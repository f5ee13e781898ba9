-- No path goes over fewer crossings.
use Rattle.std.proofs.Common.{◌<◌, ℕ}
use Rattle.configuration.specs.Config.{configuration_of}
use Rattle.explanation.specs.Paths.{GoesNowhere}
use Rattle.explanation.proofs.paths.shortest_path.Given as goal

abbrev pub invariant-loop-left : goal.invariant-loop-left
invariant-loop-left l = (fewer : ℕ) → fewer < l.left → GoesNowhere (configuration_of l.config) l.from l.to fewer
