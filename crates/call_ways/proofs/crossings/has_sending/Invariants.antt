-- None of the configurations so far is so.
use Rattle.call_ways.proofs.Below.{NoneBelow}
use Rattle.call_ways.specs.Crossed.{values_of}
use Rattle.call_ways.specs.Passing.{IsSending, IsSoIn}
use Rattle.call_ways.proofs.crossings.has_sending.Given as goal

abbrev pub invariant-loop-config : goal.invariant-loop-config
invariant-loop-config l = NoneBelow (IsSoIn IsSending (values_of l.configs)) l.config-index
