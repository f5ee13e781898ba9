-- The steps of a call with the restarts beside them, each where it stands.
use Rattle.std.proofs.Common.{List, [], ◌∷◌, refl, inl, inr}
use Rattle.mg_merge.proofs.Words.{IsPlacing, OfCall, PlanStep, Restart, Restarts}
use Rattle.mg_reports.specs.Among.{Turn, own, beside, own_steps, restarts_beside}

abbrev pub placed_in : List Turn → List PlanStep
placed_in [] = []
placed_in (own step ∷ more) = step ∷ placed_in more
placed_in (beside (OfCall call happens) ∷ more) = placed_in more
placed_in (beside Restart ∷ more) = Restarts ∷ placed_in more

pub are_placed : (turns : List Turn) → IsPlacing (own_steps turns) (restarts_beside turns) (placed_in turns)
unfolding IsPlacing
are_placed [] = (refl, refl)
are_placed (own step ∷ more) = inl (own_steps more, refl, are_placed more)
are_placed (beside (OfCall call happens) ∷ more) = are_placed more
are_placed (beside Restart ∷ more) = inr (restarts_beside more, refl, refl, are_placed more)
