-- What the components that are left lack makes, with what was counted, what all lack.
use Rattle.std.proofs.Common.{◌≡◌, ◌+◌, ◌≤◌, ℕ, drop}
use Rattle.configuration.specs.Config.{configuration_of}
use Rattle.entry_table.specs.Shown.{shown_all}
use Rattle.explanation.specs.Nearest.{Lack}
use Rattle.explanation.proofs.nearest.lacking.Given as goal

abbrev pub invariant-loop-component : goal.invariant-loop-component
invariant-loop-component l =
    (shown_all l.component-items ≡ l.entry.components)
    × (l.missing ≤ l.component-index)
    × ((rest : ℕ) → Lack (configuration_of l.config) (shown_all (drop l.component-index l.component-items)) rest
    → Lack (configuration_of l.config) (shown_all l.component-items) (l.missing + rest))
