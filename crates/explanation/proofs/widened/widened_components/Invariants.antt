-- Each component that was added has the configuration's value, and what all allow; with what is left they make the whole.
use Rattle.std.proofs.Common.{◌≡◌, ◌++◌, drop}
use Rattle.std.specs.List.{All}
use Rattle.configuration.specs.Config.{configuration_of}
use Rattle.mg_model.specs.Entries.{Allows}
use Rattle.entry_table.specs.Shown.{shown_all}
use Rattle.explanation.specs.Alone.{KeepAll, bare_all}
use Rattle.explanation.proofs.Widths.{AreWidenedWith}
use Rattle.explanation.proofs.widened.widened_components.Given as goal

abbrev pub invariant-loop-component : goal.invariant-loop-component
invariant-loop-component l = record {
  have : All (Allows (configuration_of l.config)) (shown_all l.wide.items);
  keep : KeepAll (shown_all l.components) (shown_all l.wide.items);
  sizes : AreWidenedWith (configuration_of l.config) l.components l.component-index l.wide.items;
  which : bare_all l.wide.items ++ bare_all (drop l.component-index l.components) ≡ bare_all l.components;
}
