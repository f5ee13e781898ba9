-- The sets so far narrow it.
use Rattle.std.proofs.Common.{take}
use Rattle.entry_table.specs.Regions.{IsRegion}
use Rattle.entry_table.specs.Shown.{shown_all}
use Rattle.entry_table.proofs.regions.region_of.Given as goal

abbrev pub invariant-loop-component : goal.invariant-loop-component
invariant-loop-component l = IsRegion l.region l.fn.state (shown_all (take l.component-index l.components))
