-- Each list is left for what it was.
use Rattle.std.proofs.Common.{◌≡◌, ℕ, length}
use Rattle.configuration.specs.Packed.{Words}
use Rattle.entry_table.specs.Sieves.{is_left}
use Rattle.entry_table.proofs.sieves.Sieves.settle.Given as goal

abbrev pub invariant-loop-place : goal.invariant-loop-place
invariant-loop-place l = record {
  left : (number : ℕ) (w : Words) → is_left l.self number w ≡ is_left l.fn.self number w;
  count : l.self.count ≡ l.fn.self.count;
  groups : length l.self.groups ≡ length l.fn.self.groups;
}
