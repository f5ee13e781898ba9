-- None of the components so far gives it.
use Rattle.std.proofs.Common.{◌≡◌, List, take, Contains}
use Rattle.mg_model.specs.declared.components.Spot.{Spot}
use Rattle.mg_model.specs.Entries.{Component, spots}
use Rattle.entry_table.specs.Shown.{shown_all}
use Rattle.closure.proofs.formed_count.give_place.Given as goal

abbrev pub invariant-loop-component : goal.invariant-loop-component
invariant-loop-component l =
    (component : Component) → Contains (take l.component-index (shown_all l.components)) component → (values : List Spot)
    → component ≡ spots l.termination values → ⊥
