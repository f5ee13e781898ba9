-- The groups so far ask nothing.
use Rattle.std.proofs.Common.{◌≡◌, ℕ, length}
use Rattle.std.specs.List.{slice_index_or}
use Rattle.entry_table.specs.Sieves.{bare}
use Rattle.entry_table.proofs.sieves.Sieves.new.Given as goal

abbrev pub invariant-loop-group : goal.invariant-loop-group
invariant-loop-group l = record {
  count : length l.groups.items ≡ l._group;
  bare : (k : ℕ) → slice_index_or l.groups.items k bare ≡ bare;
}
