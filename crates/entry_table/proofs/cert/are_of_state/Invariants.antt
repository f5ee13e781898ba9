-- The configurations so far are of the state.
use Rattle.std.proofs.Common.{◌≡◌}
use Rattle.configuration.specs.Config.{configuration_of}
use Rattle.configuration.specs.Packed.{IsPacked}
use Rattle.entry_table.proofs.EachLemmas.{EachBelow}
use Rattle.entry_table.proofs.cert.are_of_state.Given as goal

abbrev pub invariant-loop-config : goal.invariant-loop-config
invariant-loop-config l = record {
  state : EachBelow (λ c. (configuration_of c).state ≡ l.state) l.configs l.config-index;
  packed : EachBelow (λ c. IsPacked c) l.configs l.config-index;
}
