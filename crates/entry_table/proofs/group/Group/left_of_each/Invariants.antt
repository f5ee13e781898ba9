-- Those that are left by the configurations so far and have the rest are those that have all.
use Rattle.std.proofs.Common.{◌≡◌, ◌&&◌, ◌<◌, ℕ, drop}
use Rattle.std.specs.List.{list_all}
use Rattle.configuration.specs.Bits.{has}
use Rattle.entry_table.specs.Sieves.{passes_all}
use Rattle.entry_table.proofs.group.Group.left_of_each.Given as goal

abbrev pub invariant-loop-config : goal.invariant-loop-config
invariant-loop-config l =
    (member : ℕ) → member < 64 → (has l.left member && list_all (passes_all l.self member) (drop l.config-index l.configs))
    ≡ (has l.members member && list_all (passes_all l.self member) l.configs)
