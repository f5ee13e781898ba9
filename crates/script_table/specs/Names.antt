-- The names that stand at places of a script's table. A reader should check that the two predefined events lists and the predefined signals list have their own
-- words, and that a place that the table lacks has no name.
use Rattle.std.specs.Prelude.{ℕ, codes, List, Option, Some, None, option_map, slice_get}
use Rattle.mg_model.specs.declared.commands.EventsName.{EventsName}
use Rattle.mg_model.specs.declared.commands.EventsName.TheVariants.{Empty, Armed, Own}
use Rattle.mg_model.specs.declared.commands.SignalsName.{SignalsName}
use Rattle.mg_model.specs.declared.commands.SignalsName.TheVariants.{Silent, OwnSignals}
use Rattle.mg_model.specs.Script.{Script}

abbrev pub events_named : Script → EventsName → Option (List ℕ)
events_named script Empty = Some (codes "none")
events_named script Armed = Some (codes "armed")
events_named script (Own place) = option_map (λ l. l.name) (slice_get script.lists place)

abbrev pub signals_named : Script → SignalsName → Option (List ℕ)
signals_named script Silent = Some (codes "none")
signals_named script (OwnSignals place) = option_map (λ l. l.name) (slice_get script.signals place)

abbrev pub map_named : Script → ℕ → Option (List ℕ)
map_named script place = option_map (λ m. m.name) (slice_get script.maps place)
