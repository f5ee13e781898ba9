-- An event before those of a history's first association: what the history has at each place.
use Rattle.std.proofs.Common.{◌≡◌, ℕ, suc, [], ◌∷◌, refl}
use Rattle.std.specs.Prelude.{slice_index_or}
use Rattle.mg_model.specs.declared.events.Event.{Event}
use Rattle.mg_model.specs.Shards.{History, with_first}

pub first_with : (event : Event) (history : History) → slice_index_or (with_first event history) 0 [] ≡ event ∷ slice_index_or history 0 []
first_with event [] = refl
first_with event (events ∷ more) = refl

pub later_with : (event : Event) (history : History) (association : ℕ)
    → slice_index_or (with_first event history) (suc association) [] ≡ slice_index_or history (suc association) []
later_with event [] association = refl
later_with event (events ∷ more) association = refl
