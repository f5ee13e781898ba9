-- Each value of the components so far is there.
use Rattle.std.proofs.Common.{ℕ, ◌<◌, length, map, take, Contains}
use Rattle.std.specs.List.{slice_index_or}
use Rattle.mg_model.specs.Entries.{Component, choices_of, same_choice}
use Rattle.configuration.specs.Config.{configuration_of}
use Rattle.entry_table.specs.Shown.{shown_all}
use Rattle.closure.proofs.block_hull.hull_of.Given as goal

abbrev pub invariant-loop-component : goal.invariant-loop-component
invariant-loop-component l = record {
  first : Contains (map configuration_of l.hull) (configuration_of l.first);
  each : (component : Component) → Contains (take l.component-index (shown_all l.components)) component → (place : ℕ)
      → place < length (choices_of component)
      → Contains (map configuration_of l.hull) ((slice_index_or (choices_of component) place same_choice) (configuration_of l.first));
}
