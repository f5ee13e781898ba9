-- `rest` is the product of what is left, and the choices with the number that is left are still to be made.
use Rattle.std.proofs.Common.{◌≡◌, ◌<◌, map, drop}
use Rattle.mg_model.specs.Entries.{chosen}
use Rattle.configuration.specs.Config.{configuration_of}
use Rattle.entry_table.specs.Listed.{choices_of, size_of}
use Rattle.entry_table.specs.Shown.{shown_all}
use Rattle.entry_table.proofs.entry.choose_all.Given as goal

abbrev pub invariant-loop-component : goal.invariant-loop-component
invariant-loop-component l = record {
  some : 0 < l.rest;
  size : l.rest ≡ size_of (shown_all (drop l.component-index l.components));
  made : chosen (map choices_of (shown_all (drop l.component-index l.components))) l.left (configuration_of l.config)
      ≡ chosen (map choices_of (shown_all l.components)) l.number (configuration_of l.initial.config);
}
