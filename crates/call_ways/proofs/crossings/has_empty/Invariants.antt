-- None of the configurations so far is so.
use Rattle.call_ways.proofs.Below.{NoneBelow}
use Rattle.call_ways.specs.Crossed.{values_of}
use Rattle.call_ways.specs.Passing.{IsEmpty, IsSoIn}
use Rattle.call_ways.proofs.crossings.has_empty.Given as goal

abbrev pub invariant-loop-config : goal.invariant-loop-config
invariant-loop-config l = NoneBelow (IsSoIn IsEmpty (values_of l.configs)) l.config-index
