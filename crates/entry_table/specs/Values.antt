-- The values of a component, wherever they are kept. No public clause speaks of these words.
use Rattle.std.specs.Prelude.{List, [], ◌∷◌}
use Rattle.entry_table.specs.declared.values.Kept.{Kept}
use Rattle.entry_table.specs.declared.values.Kept.TheVariants.{One, Many}

abbrev pub listed : {T : Type 0} → Kept T → List T
listed (One value) = value ∷ []
listed (Many values) = values.items
