-- None in the states so far.
use Rattle.std.proofs.Common.{◌≡◌, ◌<◌, ℕ, List, [], length, map}
use Rattle.std.specs.List.{slice_index_or}
use Rattle.entry_table.proofs.cert.no_places.Given as goal

abbrev pub invariant-loop-state : goal.invariant-loop-state
invariant-loop-state l = record {
  count : length (map (λ places. places.items) l.found.items) ≡ l._state;
  none : (state : ℕ) (none : List ℕ) → state < l._state → slice_index_or (map (λ places. places.items) l.found.items) state none ≡ [];
}
