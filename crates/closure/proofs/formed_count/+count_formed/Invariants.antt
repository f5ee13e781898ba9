-- The numbers of the values so far are counted.
use Rattle.std.proofs.Common.{◌*◌, ◌≤◌, ◌∷◌, List, length}
use Rattle.mg_model.specs.Entries.{Entry, size_of}
use Rattle.mg_model.specs.Script.{Script}
use Rattle.configuration.specs.Config.{configuration_of}
use Rattle.entry_table.specs.Shown.{shown, shown_all}
use Rattle.closure.specs.Counting.{AreCounted}
use Rattle.closure.proofs.formed_count.+count_formed.Given as goal

-- the components that are left turn below
abbrev pub decreases-count_formed : goal.decreases-count_formed
decreases-count_formed l = length l.components.now

abbrev pub invariant-loop-place : goal.invariant-loop-place
invariant-loop-place l = record {
  few : l.points ≤ l.place * size_of (shown_all l.rest);
  counted : (script : Script) (entries : List Entry)
      → AreCounted (shown l.first ∷ shown_all l.rest) (configuration_of l.config) script entries (l.place * size_of (shown_all l.rest)) l.points;
}
