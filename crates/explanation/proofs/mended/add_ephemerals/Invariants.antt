-- All that was added so far has the configuration's value alone; with what is left it is the whole.
use Rattle.std.proofs.Common.{◌≡◌, ◌++◌, drop}
use Rattle.std.specs.List.{flat_map}
use Rattle.configuration.specs.Config.{configuration_of}
use Rattle.entry_table.specs.Shown.{shown_all}
use Rattle.explanation.specs.Alone.{AreOnly, bare_all, ephemeral_components}
use Rattle.explanation.proofs.mended.add_ephemerals.Given as goal

abbrev pub invariant-loop-ephemeral : goal.invariant-loop-ephemeral
invariant-loop-ephemeral l = record {
  only : AreOnly (configuration_of l.config) (shown_all l.components.items);
  adds : bare_all l.components.items ++ flat_map ephemeral_components (drop l.ephemeral-index l.ephemerals)
      ≡ bare_all l.initial.components.items ++ flat_map ephemeral_components l.ephemerals;
}
