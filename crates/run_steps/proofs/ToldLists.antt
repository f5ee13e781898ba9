-- One step more is told: what is told of a call then, and which steps of the plan.
use Rattle.std.proofs.Common.{◌≡◌, ◌∙◌, ℕ, ◌+◌, ◌<◌, ◌++◌, List, [], ◌∷◌, length, take, get_or, refl, sym, ap, arith}
use Rattle.std.proofs.lemmas.List.{append_assoc, append-nil, take_more}
use Rattle.mg_model.specs.declared.events.Event.{Event}
use Rattle.mg_model.specs.declared.plans.PlanStep.{PlanStep}
use Rattle.run_steps.specs.CallsTold.{event_told, events_told, idle_told, idle_told_in}
use Rattle.run_steps.specs.Telling.{own_step, own_steps}
use Rattle.run_steps.specs.declared.told_step.ToldStep.{ToldStep}

-- ---- behind others

pub own_more : (told : List ToldStep) (t : ToldStep) → own_steps (told ++ t ∷ []) ≡ own_steps told ++ own_step t.step t.came
own_more [] t = append-nil (own_step t.step t.came)
own_more (first ∷ told) t =
    ap (λ (more : List PlanStep). own_step first.step first.came ++ more) (own_more told t)
    ∙ sym (append_assoc (own_step first.step first.came) (own_steps told) (own_step t.step t.came))

events_more : (number : ℕ) (told : List ToldStep) (t : ToldStep)
    → events_told number (told ++ t ∷ []) ≡ events_told number told ++ event_told number t.call.0 t.came
events_more number [] t = append-nil (event_told number t.call.0 t.came)
events_more number (first ∷ told) t =
    ap (λ (more : List Event). event_told number first.call.0 first.came ++ more) (events_more number told t)
    ∙ sym (append_assoc (event_told number first.call.0 first.came) (events_told number told) (event_told number t.call.0 t.came))

idle_more : (number : ℕ) (told : List ToldStep) (t : ToldStep)
    → idle_told number (told ++ t ∷ []) ≡ idle_told number told + idle_told_in number t.call.0 t.came
idle_more number [] t = omega arith
idle_more number (first ∷ told) t =
    let more = idle_more number told t in omega (arith, more)

-- ---- up to a place

module _ (number : ℕ) (told : List ToldStep) (i : ℕ) (t : ToldStep) (within : i < length told) (is : t ≡ get_or told i t) where
  up_to : take (i + 1) told ≡ take i told ++ t ∷ []
  up_to = take_more told i t within ∙ ap (λ (one : ToldStep). take i told ++ one ∷ []) (sym is)

  pub events_next : events_told number (take (i + 1) told) ≡ events_told number (take i told) ++ event_told number t.call.0 t.came
  events_next = ap (events_told number) up_to ∙ events_more number (take i told) t

  pub idle_next : idle_told number (take (i + 1) told) ≡ idle_told number (take i told) + idle_told_in number t.call.0 t.came
  idle_next = ap (idle_told number) up_to ∙ idle_more number (take i told) t
