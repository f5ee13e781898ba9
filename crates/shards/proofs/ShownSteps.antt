-- The records show the world after a step of an agent: the record of its call as `AgentSteps` says, and every other as before.
use Rattle.std.proofs.Common.{◌≡◌, ◌∙◌, ◌==◌, ℕ, Bool, true, false, Option, Some, None, if◌then◌else◌, refl, sym, ap, subst}
use Rattle.std.specs.Prelude.{is_some}
use Rattle.std.proofs.lemmas.Bool.{eqb-true, eqb-false}
use Rattle.mg_model.proofs.Cases.{at_another, some_is_none, the_some}
use Rattle.mg_model.specs.declared.events.CallEvent.{CallEvent}
use Rattle.mg_model.specs.declared.events.Event.TheVariants.{OfCall}
use Rattle.mg_model.specs.Messages.{Request}
use Rattle.mg_model.specs.Script.{Script}
use Rattle.mg_model.specs.World.{World, agent_steps, sent_in}
use Rattle.mg_safety.proofs.Messages.AgentNumbers.{GoesOn}
use Rattle.mg_safety.proofs.Messages.NumberedWorlds.{IsNumbered}
use Rattle.gateway.specs.GatewayValue.{GatewayValue}
use Rattle.agent.specs.AgentValue.{agent_of}
use Rattle.agent.specs.declared.call.Next.{Next}
use Rattle.shards.proofs.AgentSteps.{is_event, shows_after, stepped_next}
use Rattle.shards.proofs.OtherCalls.{others_added, stays_shown}
use Rattle.shards.specs.Shows.{IsTold, LeadsOn, Shows, ShowsCall, with_record}
use Rattle.shards.specs.CallRecords.{Steps}
use Rattle.shards.specs.declared.call_record.CallRecord.{CallRecord}

-- what holds of the record that was put in the place of a call, and of every other, holds of each
pub each_record : (call_record : ℕ → Option CallRecord) (call : ℕ) (t : CallRecord) (P : ℕ → CallRecord → Type 0) → P call t
    → ((c : ℕ) (s : CallRecord) → (c ≡ call → ⊥) → call_record c ≡ Some s → P c s) → (c : ℕ) (s : CallRecord) → with_record call_record call t c ≡ Some s → P c s
each_record call_record call t P here others c s is = by_test (c == call) refl is
  where
    by_test : (test : Bool) → (c == call) ≡ test → (if test then Some t else call_record c) ≡ Some s → P c s
    by_test true same at = subst (λ (x : CallRecord). P c x) (the_some t s at) (subst (λ n. P n t) (sym (eqb-true c call same)) here)
    by_test false other at = others c s (eqb-false c call other) at

-- a call that was open is open still
pub same_open : (call_record : ℕ → Option CallRecord) (call : ℕ) (s t : CallRecord) → call_record call ≡ Some s → (c : ℕ) → is_some (call_record c) ≡ is_some (with_record call_record call t c)
same_open call_record call s t there c = by_test (c == call) refl
  where
    by_test : (test : Bool) → (c == call) ≡ test → is_some (call_record c) ≡ is_some (if test then Some t else call_record c)
    by_test true same = ap is_some (ap call_record (eqb-true c call same) ∙ there)
    by_test false other = refl

-- a call of which there is no record now had none before
pub none_before : (call_record : ℕ → Option CallRecord) (call : ℕ) (t : CallRecord) (c : ℕ) → with_record call_record call t c ≡ None → (c ≡ call → ⊥) × (call_record c ≡ None)
none_before call_record call t c none = by_test (c == call) refl none
  where
    by_test : (test : Bool) → (c == call) ≡ test → (if test then Some t else call_record c) ≡ None → (c ≡ call → ⊥) × (call_record c ≡ None)
    by_test true same is = absurd (some_is_none t is)
    by_test false other is = (eqb-false c call other, is)

module _ (script : Script) (w : World) (g : GatewayValue) (call_record : ℕ → Option CallRecord) (shows : Shows w g call_record) (numbered : IsNumbered w)
    (call : ℕ) (s t : CallRecord) (there : call_record call ≡ Some s) (old new : Next) (event : CallEvent) (steps : Steps script old event s t new) where
  abbrev after : World
  after = agent_steps w call (agent_of t.agent)

  goes : GoesOn (agent_of s.agent).call (agent_of s.agent).next (agent_of s.agent).lines (agent_of t.agent)
  goes = stepped_next script (agent_of s.agent) steps.brought (agent_of t.agent) steps.steps

  other_shown : (c : ℕ) (x : CallRecord) → (c ≡ call → ⊥) → call_record c ≡ Some x → ShowsCall after c x
  other_shown c x other is =
      stays_shown w after c x (shows.calls c x is) (at_another call c (Some (agent_of t.agent)) (w.agent c) other)
      (λ which. others_added (λ (r : Request). r.call) (λ (r : Request). r.number) c which (sent_in (agent_of t.agent).phase) w.requests
      (λ r among of_it. other (sym of_it ∙ (goes.sent r among).0 ∙ numbered.agents call (agent_of s.agent) (shows.calls call s there).agent)))
      (λ which. refl) (λ n among. among) (λ n among of_it. among) refl

  pub step_shown : Shows after g (with_record call_record call t)
  step_shown = record {
    gateway = shows.gateway;
    open_calls = λ c. shows.open_calls c ∙ same_open call_record call s t there c;
    calls = each_record call_record call t (ShowsCall after) (shows_after script w call s t (shows.calls call s there) numbered goes steps.sent steps.brought steps.steps steps.settled) other_shown;
    no_others = λ c none. let gone = none_before call_record call t c none in
        at_another call c (Some (agent_of t.agent)) (w.agent c) gone.0 ∙ shows.no_others c gone.1;
  }

  pub step_leads_on : IsTold w event → LeadsOn script w (OfCall (record { 0 = call }) event) g (with_record call_record call t)
  step_leads_on told = record {
    after = after;
    occurs = is_event script w call s t (shows.calls call s there) event steps.brought told steps.delivered steps.steps;
    shown = step_shown;
  }
