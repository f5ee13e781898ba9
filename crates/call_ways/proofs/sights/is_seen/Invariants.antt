-- None of the configurations so far shows it.
use Rattle.call_ways.proofs.Below.{NoneBelow}
use Rattle.call_ways.specs.Seen.{IsSeenAt}
use Rattle.call_ways.proofs.sights.is_seen.Given as goal

abbrev pub invariant-loop-config : goal.invariant-loop-config
invariant-loop-config l = NoneBelow (IsSeenAt l.script l.configs l.sight) l.config-index
