-- None of the lines so far is heard.
use Rattle.configuration.specs.Config.{configuration_of}
use Rattle.mg_model.specs.Paths.{HasPath}
use Rattle.call_ways.proofs.Below.{NoneBelow}
use Rattle.call_ends.proofs.at_rest.hears_any.Given as goal

abbrev pub invariant-loop-place : goal.invariant-loop-place
invariant-loop-place l = NoneBelow (λ j. HasPath (configuration_of l.config) j l.line) l.place
