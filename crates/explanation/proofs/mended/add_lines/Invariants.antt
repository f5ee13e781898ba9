-- All that was added so far has the configuration's value alone; with what is left it is the whole.
use Rattle.std.proofs.Common.{◌≡◌, ◌++◌, drop}
use Rattle.std.specs.List.{flat_map}
use Rattle.configuration.specs.Config.{configuration_of}
use Rattle.entry_table.specs.Shown.{shown_all}
use Rattle.explanation.specs.Alone.{AreOnly, bare_all, line_components}
use Rattle.explanation.proofs.mended.add_lines.Given as goal

abbrev pub invariant-loop-line : goal.invariant-loop-line
invariant-loop-line l = record {
  only : AreOnly (configuration_of l.config) (shown_all l.components.items);
  adds : bare_all l.components.items ++ flat_map line_components (drop l.line-index l.lines)
      ≡ bare_all l.initial.components.items ++ flat_map line_components l.lines;
}
