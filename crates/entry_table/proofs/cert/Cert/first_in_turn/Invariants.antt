-- None of those that were asked has it.
use Rattle.configuration.specs.Config.{configuration_of}
use Rattle.entry_table.proofs.PlaceLemmas.{NoneListedBefore}
use Rattle.entry_table.proofs.cert.Cert.first_in_turn.Given as goal

abbrev pub invariant-loop-place : goal.invariant-loop-place
invariant-loop-place l = NoneListedBefore l.self (configuration_of l.config) l.place-index
