-- The sieves of the states so far.
use Rattle.std.proofs.Common.{◌≡◌, ◌<◌, ℕ, length}
use Rattle.std.specs.List.{slice_index_or}
use Rattle.entry_table.specs.Sieves.{Sieves}
use Rattle.entry_table.specs.Index.{places_of}
use Rattle.entry_table.specs.Sieved.{AreSieved}
use Rattle.entry_table.proofs.sieved.all_sieves.Given as goal

abbrev pub invariant-loop-list : goal.invariant-loop-list
invariant-loop-list l = record {
  count : length l.found.items ≡ l.list-index;
  sieved : (state : ℕ) (none : Sieves) → state < l.list-index
      → AreSieved l.entries (places_of state l.entries) (slice_index_or l.found.items state none);
}
