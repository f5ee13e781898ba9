-- All that was added so far has the configuration's value alone; with what is left it is the whole.
use Rattle.std.proofs.Common.{◌≡◌, ◌++◌, drop}
use Rattle.configuration.specs.Config.{configuration_of}
use Rattle.entry_table.specs.Shown.{shown_all}
use Rattle.explanation.specs.Alone.{AreOnly, bare_all, cut_components}
use Rattle.explanation.proofs.mended.add_cuts_from.Given as goal

abbrev pub invariant-loop-sink : goal.invariant-loop-sink
invariant-loop-sink l = record {
  only : AreOnly (configuration_of l.config) (shown_all l.components.items);
  adds : bare_all l.components.items ++ cut_components (drop l.sink-index l.terminations) l.source
      ≡ bare_all l.initial.components.items ++ cut_components l.terminations l.source;
}
