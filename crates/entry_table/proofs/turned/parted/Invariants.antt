-- Some were parted, and the rest not yet.
use Rattle.std.proofs.Common.{drop}
use Rattle.configuration.specs.Config.{configuration_of}
use Rattle.entry_table.specs.Shown.{shown_all}
use Rattle.entry_table.specs.Turned.{IsParted}
use Rattle.entry_table.proofs.turned.parted.Given as goal

abbrev pub invariant-loop-component : goal.invariant-loop-component
invariant-loop-component l =
    IsParted (shown_all l.components) (configuration_of l.fn.first) (shown_all (drop l.component-index l.components)) (shown_all l.turned.components.items)
    (configuration_of l.turned.base) l.turned.above
