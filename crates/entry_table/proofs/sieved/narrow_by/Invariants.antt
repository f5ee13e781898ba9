-- The components so far narrow the list.
use Rattle.std.proofs.Common.{take}
use Rattle.entry_table.specs.Shown.{shown_all}
use Rattle.entry_table.proofs.SievedLemmas.{IsNarrowedBy}
use Rattle.entry_table.proofs.sieved.narrow_by.Given as goal

abbrev pub invariant-loop-component : goal.invariant-loop-component
invariant-loop-component l = IsNarrowedBy l.initial.sieves l.sieves l.number (shown_all (take l.component-index l.component-items))
