-- In each state the places so far with those that are left are all the places.
use Rattle.std.proofs.Common.{◌≡◌, ◌<◌, ◌++◌, ℕ, List, drop, length, map}
use Rattle.std.specs.List.{slice_index_or}
use Rattle.entry_table.specs.Index.{places_from, places_of}
use Rattle.entry_table.proofs.cert.all_places.Given as goal

abbrev pub invariant-loop-place : goal.invariant-loop-place
invariant-loop-place l = record {
  count : length (map (λ places. places.items) l.found.items) ≡ 256;
  places : (state : ℕ) (none : List ℕ) → state < 256
      → slice_index_or (map (λ places. places.items) l.found.items) state none ++ places_from l.place state (drop l.place l.entries) ≡ places_of state l.entries;
}
