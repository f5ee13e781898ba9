-- Several steps are told, one behind the other, and the epochs of a call.
use Rattle.std.proofs.Common.{◌≡◌, ◌∙◌, ℕ, zero, suc, ◌+◌, ◌<◌, ◌≤◌, ◌++◌, List, [], ◌∷◌, length, take, get_or, take-append-drop, refl, sym, ap, subst, arith}
use Rattle.std.specs.Prelude.{slice_index_or}
use Rattle.std.proofs.lemmas.List.{append-nil, drop_all, take_more}
use Rattle.mg_model.specs.Plans.{steps_in}
use Rattle.mg_model.specs.declared.plans.PlanStep.{PlanStep}
use Rattle.mg_model.specs.declared.plans.PlanStep.TheVariants.{Restarts}
use Rattle.run_steps.specs.Telling.{TellsOn, ending}
use Rattle.run_steps.specs.declared.telling.Telling.{Telling}
use Rattle.run_steps.proofs.GoneSteps.{tells_both}
use Rattle.run_steps.proofs.Openings.{epoch_more}

-- those up to the end are all
pub up_to_end : (steps : List PlanStep) (i : ℕ) → length steps ≤ i → take i steps ≡ steps
up_to_end steps i past =
    sym (append-nil (take i steps)) ∙ ap (λ (rest : List PlanStep). take i steps ++ rest) (sym (drop_all i steps past)) ∙ take-append-drop i steps

-- steps of the plan are the same as others
pub tells_as : (one other : List PlanStep) (s t : Telling) → one ≡ other → TellsOn one s t → TellsOn other s t
tells_as one other s t same tells = subst (λ (own : List PlanStep). TellsOn own s t) same tells

-- one more of some steps
pub tells_next : (steps : List PlanStep) (i : ℕ) (step : PlanStep) (s t u : Telling) → i < length steps → step ≡ get_or steps i step
    → TellsOn (take i steps) s t → TellsOn (step ∷ []) t u → TellsOn (take (i + 1) steps) s u
tells_next steps i step s t u within is first second =
    tells_as (take i steps ++ step ∷ []) (take (i + 1) steps) s u
    (ap (λ (one : PlanStep). take i steps ++ one ∷ []) is ∙ sym (take_more steps i step within))
    (tells_both (take i steps) (step ∷ []) s t u first second)

-- one epoch more
pub tells_epoch : (epochs : List (List PlanStep)) (k : ℕ) (s t u x : Telling) → TellsOn (steps_in k epochs) s t → TellsOn (ending k) t u
    → TellsOn (slice_index_or epochs k []) u x → TellsOn (steps_in (k + 1) epochs) s x
tells_epoch epochs k s t u x before ends steps =
    let next : suc k ≡ k + 1 = omega arith in
    tells_as (steps_in k epochs ++ (ending k ++ slice_index_or epochs k [])) (steps_in (k + 1) epochs) s x
    (sym (epoch_more epochs k) ∙ ap (λ (n : ℕ). steps_in n epochs) next)
    (tells_both (steps_in k epochs) (ending k ++ slice_index_or epochs k []) s t x before
    (tells_both (ending k) (slice_index_or epochs k []) t u x ends steps))

-- what ends before an epoch
pub ending_first : (k : ℕ) → k ≡ 0 → ending k ≡ []
ending_first k is = ap ending is

pub ending_later : (k : ℕ) → (k ≡ 0 → ⊥) → ending k ≡ Restarts ∷ []
ending_later zero other = absurd (other refl)
ending_later (suc k) other = refl
