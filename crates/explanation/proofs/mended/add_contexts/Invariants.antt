-- All that was added so far has the configuration's value alone; with what is left it is the whole.
use Rattle.std.proofs.Common.{◌≡◌, ◌++◌, drop, map}
use Rattle.configuration.specs.Config.{configuration_of}
use Rattle.entry_table.specs.Shown.{shown_all}
use Rattle.explanation.specs.Alone.{AreOnly, bare_all, context_component}
use Rattle.explanation.proofs.mended.add_contexts.Given as goal

abbrev pub invariant-loop-context : goal.invariant-loop-context
invariant-loop-context l = record {
  only : AreOnly (configuration_of l.config) (shown_all l.components.items);
  adds : bare_all l.components.items ++ map context_component (drop l.context-index l.contexts)
      ≡ bare_all l.initial.components.items ++ map context_component l.contexts;
}
