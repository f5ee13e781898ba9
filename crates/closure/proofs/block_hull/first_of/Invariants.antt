-- The components that are left lead to the same.
use Rattle.std.proofs.Common.{◌≡◌, drop}
use Rattle.configuration.specs.Config.{configuration_of}
use Rattle.entry_table.specs.Shown.{shown_all}
use Rattle.closure.specs.Hulls.{first_of}
use Rattle.closure.proofs.block_hull.first_of.Given as goal

abbrev pub invariant-loop-component : goal.invariant-loop-component
invariant-loop-component l =
    first_of (drop l.component-index (shown_all l.components)) (configuration_of l.first) ≡ first_of (shown_all l.components) (configuration_of l.config)
