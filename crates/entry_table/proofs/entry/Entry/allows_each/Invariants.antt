-- The configurations so far are allowed.
use Rattle.std.proofs.Common.{◌≡◌}
use Rattle.std.specs.List.{All}
use Rattle.configuration.specs.Config.{configuration_of}
use Rattle.entry_table.specs.Listed.{Allows}
use Rattle.entry_table.proofs.EachLemmas.{EachBelow}
use Rattle.entry_table.proofs.entry.Entry.allows_each.Given as goal

abbrev pub invariant-loop-config : goal.invariant-loop-config
invariant-loop-config l =
    EachBelow (λ c. ((configuration_of c).state ≡ l.self.state) × All (Allows (configuration_of c)) l.self.components) l.configs l.config-index
