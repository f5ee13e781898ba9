-- None of those that were asked allows each.
use Rattle.entry_table.specs.WithAll.{PlaceAllowsEach}
use Rattle.entry_table.proofs.PlaceLemmas.{NoneBefore, allowing_is_listed}
use Rattle.entry_table.proofs.cert.Cert.first_with_all_in_turn.Given as goal

abbrev pub invariant-loop-place : goal.invariant-loop-place
invariant-loop-place l =
    NoneBefore l.self l.state (PlaceAllowsEach l.self l.state l.configs) (allowing_is_listed l.self l.state l.configs) l.place-index
