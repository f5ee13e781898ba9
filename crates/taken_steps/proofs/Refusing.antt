-- A step whose event is refused is idle, for the reason that was found before.
use Rattle.std.proofs.Common.{◌≡◌, ℕ, ◌+◌, Option, Some, None, Result, Err, refl, sym, subst}
use Rattle.std.specs.Prelude.{IfSome}
use Rattle.mg_names.specs.declared.identifiers.CallNo.{CallNo}
use Rattle.mg_model.specs.declared.events.CallEvent.{CallEvent}
use Rattle.mg_model.specs.declared.events.Event.{Event}
use Rattle.mg_model.specs.declared.events.Event.TheVariants.{OfCall}
use Rattle.mg_model.specs.declared.plans.PlanStep.{PlanStep}
use Rattle.mg_model.specs.Numbers.{plan_calls}
use Rattle.agent.specs.declared.call.Next.{Next}
use Rattle.agent.specs.declared.refusal.Refusal.{Refusal}
use Rattle.planned_calls.specs.Meaning.{IsMeant}
use Rattle.planned_calls.specs.Shards.{IsUnchanged, ShardValue}
use Rattle.planned_calls.specs.Stepping.{IsStep}
use Rattle.planned_calls.specs.Stepped.{Stepped}
use Rattle.taken_steps.specs.Findings.{ComesToIdle}
use Rattle.taken_steps.specs.Reasons.{IsRefusedFor}
use Rattle.taken_steps.specs.Taking.{Comes, IsIdle, is_refused}
use Rattle.taken_steps.specs.declared.came.Came.{Came}
use Rattle.taken_steps.specs.declared.idle.Idle.{Idle}

module _ (v same w : ShardValue) (a b : Next) (number : ℕ) (step : PlanStep) (begins : CallNo) (event : Event) (call : CallNo) (happens : CallEvent)
    (is_next : begins.0 ≡ number + plan_calls) (means : IsMeant v number begins.0 step (Some event)) (unchanged : IsUnchanged v same)
    (is : event ≡ OfCall call happens) where
  abbrev stays : Result Stepped Refusal → Type 0
  stays result = IsStep same w a b (OfCall call happens) result

  pub refused : (result : Result Stepped Refusal) (fault : Refusal) (why : Idle) → stays result → result ≡ Err fault → IsRefusedFor same a call.0 happens why
      → IsIdle v a number step why w b
  refused result fault why stepped failed because =
      let at_fault : stays (Err fault) = subst stays failed stepped in
      is_refused begins is_next call happens (subst (λ (e : Event). IsMeant v number begins.0 step (Some e)) is means) same unchanged because
      at_fault.1.0 at_fault.1.1

  -- where a reason was found
  pub told_idle : (result : Result Stepped Refusal) (fault : Refusal) (found : Option Idle) (told : Came) → stays result → result ≡ Err fault
      → IfSome found (λ why. IsRefusedFor same a call.0 happens why) → ComesToIdle found told → Comes v a number step told w b number
  told_idle result fault None told stepped failed because comes = absurd comes
  told_idle result fault (Some why) told stepped failed because comes =
      subst (λ (t : Came). Comes v a number step t w b number) (sym comes) (refused result fault why stepped failed because, refl)
