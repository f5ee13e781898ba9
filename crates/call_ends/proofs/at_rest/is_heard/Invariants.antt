-- It is heard at none of the lines so far.
use Rattle.configuration.specs.Config.{configuration_of}
use Rattle.call_ways.proofs.Below.{NoneBelow}
use Rattle.call_ends.specs.Telephones.{IsHeardAt}
use Rattle.call_ends.proofs.at_rest.is_heard.Given as goal

abbrev pub invariant-loop-place : goal.invariant-loop-place
invariant-loop-place l = NoneBelow (λ j. IsHeardAt (configuration_of l.config) l.line j) l.place
