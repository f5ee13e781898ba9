-- The size so far with the product of what is left is the whole product, as far as 64 bits go.
use Rattle.std.proofs.Common.{◌≡◌, ◌-◌, ◌*◌, ◌^◌, ◌≤◌, min, drop}
use Rattle.entry_table.specs.Listed.{size_of}
use Rattle.entry_table.specs.Shown.{shown_all}
use Rattle.entry_table.proofs.entry.product_of.Given as goal

abbrev pub invariant-loop-component : goal.invariant-loop-component
invariant-loop-component l = record {
  fits : l.size ≤ 2 ^ 64 - 1;
  product : min (l.size * size_of (shown_all (drop l.component-index l.components))) (2 ^ 64 - 1)
      ≡ min (size_of (shown_all l.components)) (2 ^ 64 - 1);
}
