-- What was found is the nearest of the entries that were passed.
use Rattle.configuration.specs.Config.{configuration_of}
use Rattle.explanation.proofs.NearestSoFar.{IsSoFar}
use Rattle.explanation.proofs.nearest.find_nearest.Given as goal

abbrev pub invariant-loop-place : goal.invariant-loop-place
invariant-loop-place l = IsSoFar l.cert (configuration_of l.config) l.place l.found
