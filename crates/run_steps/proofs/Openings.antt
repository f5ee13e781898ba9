-- Where a call of a plan opens alone, and where an epoch of it does.
use Rattle.std.proofs.Common.{◌≡◌, ◌∙◌, ◌++◌, ℕ, zero, suc, List, [], ◌∷◌, refl, sym, ap}
use Rattle.std.specs.Prelude.{slice_index_or}
use Rattle.std.proofs.lemmas.List.{append_assoc}
use Rattle.mg_model.specs.declared.plans.PlanStep.{PlanStep}
use Rattle.mg_model.specs.declared.plans.PlanStep.TheVariants.{Restarts}
use Rattle.mg_model.specs.Plans.{steps_first, steps_in, steps_later}
use Rattle.mg_model.specs.Script.{Script}
use Rattle.agent.specs.declared.call.Next.{Next}
use Rattle.taken_steps.specs.Opening.{AreEntered, IsEntered}
use Rattle.taken_steps.specs.OpenedCall.{OpenedCall}
use Rattle.run_steps.specs.Telling.{ending}

-- the call that was handed out last, of one
pub entered_alone : (script : Script) (first : OpenedCall) (others : List Next) (next : Next) → AreEntered script (first ∷ []) (others ++ next ∷ [])
    → IsEntered script first next
entered_alone script first [] next are = are.0
entered_alone script first (other ∷ []) next are = absurd are.1
entered_alone script first (other ∷ another ∷ more) next are = absurd are.1

-- ---- epochs

first_step : (epochs : List (List PlanStep)) → steps_first epochs ≡ slice_index_or epochs 0 []
first_step [] = refl
first_step (steps ∷ more) = refl

later_step : (epochs : List (List PlanStep)) (k : ℕ) → slice_index_or (steps_later epochs) k [] ≡ slice_index_or epochs (suc k) []
later_step [] k = refl
later_step (steps ∷ more) k = refl

-- one epoch more
pub epoch_more : (epochs : List (List PlanStep)) (k : ℕ) → steps_in (suc k) epochs ≡ steps_in k epochs ++ (ending k ++ slice_index_or epochs k [])
epoch_more epochs zero = first_step epochs
epoch_more epochs (suc zero) =
    ap (λ (steps : List PlanStep). steps_first epochs ++ Restarts ∷ steps) (first_step (steps_later epochs) ∙ later_step epochs 0)
epoch_more epochs (suc (suc k)) =
    ap (λ (steps : List PlanStep). steps_first epochs ++ Restarts ∷ steps)
    (epoch_more (steps_later epochs) (suc k)
    ∙ ap (λ (steps : List PlanStep). steps_in (suc k) (steps_later epochs) ++ (Restarts ∷ steps)) (later_step epochs (suc k)))
    ∙ sym (append_assoc (steps_first epochs) (Restarts ∷ steps_in (suc k) (steps_later epochs)) (Restarts ∷ slice_index_or epochs (suc (suc k)) []))
