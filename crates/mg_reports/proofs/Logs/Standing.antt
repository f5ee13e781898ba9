-- A call that is open stands after each of its own steps, or the one does that began on its lines; and an event of another call leaves it open.
use Rattle.std.proofs.Common.{◌≡◌, ◌∙◌, ◌+◌, ℕ, Bool, Option, Some, None, sym, ap, subst, inl, inr}
use Rattle.std.specs.Prelude.{◌==◌, if◌then◌else◌}
use Rattle.mg_model.specs.declared.events.CallEvent.{CallEvent}
use Rattle.mg_model.specs.declared.events.CallEvent.TheVariants as to_call
use Rattle.mg_model.specs.declared.events.Event.{Event}
use Rattle.mg_model.specs.declared.events.Event.TheVariants.{OfCall, Restart}
use Rattle.mg_model.specs.declared.failures.ChosenRefusal.{ChosenRefusal}
use Rattle.mg_model.specs.declared.plans.PlanStep.{PlanStep}
use Rattle.mg_model.specs.declared.plans.PlanStep.TheVariants.{Begins}
use Rattle.mg_model.specs.Agent.{Agent, begun}
use Rattle.mg_model.specs.Messages.{Request}
use Rattle.mg_model.specs.Numbers.{the_call}
use Rattle.mg_model.specs.Plans.{number_begun}
use Rattle.mg_model.specs.Reports.{Progress, StepHappens, after_event}
use Rattle.mg_model.specs.Script.{Script}
use Rattle.mg_model.specs.World.{World, AgentSteps, Begins as IsBegun, Executes, Occurs, OccursTo}
use Rattle.mg_model.proofs.Cases.{at_one}
use Rattle.mg_safety.specs.Laws.{IsRetiredBy}
use Rattle.mg_safety.proofs.Messages.NumberedWorlds.{IsNumbered}
use Rattle.mg_safety.proofs.SmallLaws.CallLaws.{events_keep}
use Rattle.mg_alike.specs.Laws.{IsBeginning}
use Rattle.mg_reports.proofs.Along.{Goes}
use Rattle.mg_reports.proofs.Only.{IsOnly, only_own, only_begun, only_same}
use Rattle.mg_reports.proofs.Meanings.{IsKind, kind_of}

abbrev pub IsOpen : World → ℕ → Type 0
IsOpen w call = (a : Agent) × (w.agent call ≡ Some a)

-- ---- its own events

module _ (w after : World) (call : ℕ) where
  same_open : IsOpen w call → after.agent ≡ w.agent → IsOpen after call
  same_open there same = (there.0, ap (λ (agents : ℕ → Option Agent). agents call) same ∙ there.1)

  step_open : (step : Agent → Option Agent) → AgentSteps w call step after → IsOpen after call
  step_open step s = (s.agent, ap (λ (x : World). x.agent call) s.after_is ∙ at_one call (Some s.agent) (w.agent call))

  execute_open : IsOpen w call → (request : Request) (chosen : Option ChosenRefusal) → Executes w request chosen after → IsOpen after call
  execute_open there request chosen (inl f) = same_open there (ap (λ (x : World). x.agent) f.after_is)
  execute_open there request chosen (inr (inl f)) = same_open there (ap (λ (x : World). x.agent) f.after_is)
  execute_open there request chosen (inr (inr f)) = same_open there (ap (λ (x : World). x.agent) f.1)

  begun_open : (script : Script) (old : ℕ) → IsBegun script w call old after → IsOpen after call
  begun_open script old b = (
    begun script call b.before,
    ap (λ (x : World). x.agent call) b.after_is ∙ at_one call (Some (begun script call b.before)) (if call == old then None else w.agent call),
  )

  own_open : IsOpen w call → (script : Script) (happens : CallEvent) → (IsBeginning happens → ⊥) → OccursTo script w call happens after → IsOpen after call
  own_open there script (to_call.OnLine line event) goes_on (held, o) = same_open there (ap (λ (x : World). x.agent) o.after_is)
  own_open there script (to_call.Execute number chosen) goes_on (request, of, executes) = execute_open there request chosen executes
  own_open there script (to_call.Reply number) goes_on (answer, of, s) = step_open _ s
  own_open there script to_call.Pass goes_on s = step_open _ s
  own_open there script (to_call.Note number) goes_on (sent, of, s) = step_open _ s
  own_open there script to_call.Timer goes_on s = step_open _ s
  own_open there script (to_call.Begin old) goes_on b = absurd (goes_on tt)
  own_open there script (to_call.Hear association) goes_on (past, s) = step_open _ s

-- ---- its own steps

module _ (script : Script) (first : ℕ) (p next : Progress) (step : PlanStep) (numbered : IsNumbered p.world) where
  abbrev number : ℕ
  number = number_begun first (p.begun + 1)

  happened_open : StepHappens script first p step next → IsOpen next.world next.standing
  happened_open x = by_kind (kind_of p.world x.agent number step x.event x.means)
    where
      of : x.agent.call ≡ p.standing
      of = numbered.agents p.standing x.agent x.stands

      at : (q : Progress) → next ≡ q → IsOpen q.world q.standing → IsOpen next.world next.standing
      at q is there = subst (λ (z : Progress). IsOpen z.world z.standing) (sym is) there

      by_kind : IsKind x.agent number step x.event → IsOpen next.world next.standing
      by_kind (inl own) =
          let is : x.event ≡ OfCall (the_call p.standing) own.happens = own.is ∙ ap (λ (n : ℕ). OfCall (the_call n) own.happens) of in
          at (record p { world = x.world; events = p.events + 1 }) (x.after_is ∙ own.counts script first x.agent p x.world)
          (own_open p.world x.world p.standing (x.agent, x.stands) script own.happens own.goes_on
          (subst (λ (e : Event). Occurs script p.world e x.world) is x.occurs))
      by_kind (inr (inl begins)) =
          at (after_event script first x.agent p Begins x.world) (x.after_is ∙ ap (λ (s : PlanStep). after_event script first x.agent p s x.world) begins.0)
          (begun_open p.world x.world number script x.agent.call (subst (λ (e : Event). Occurs script p.world e x.world) begins.1 x.occurs))
      by_kind (inr (inr restarts)) =
          let o : Occurs script p.world Restart x.world = subst (λ (e : Event). Occurs script p.world e x.world) restarts.1 x.occurs in
          at (record p { world = x.world }) (x.after_is ∙ ap (λ (s : PlanStep). after_event script first x.agent p s x.world) restarts.0)
          (same_open p.world x.world p.standing (x.agent, x.stands) (ap (λ (w : World). w.agent) o.1))

  pub still_stands : Goes script first p step next → IsOpen next.world next.standing
  still_stands (inl x) = happened_open x
  still_stands (inr x) = (x.agent, subst (λ (z : Progress). z.world.agent z.standing ≡ Some x.agent) (sym x.after_is) x.stands)

  pub still_only : (keep : ℕ → Bool) → IsOnly keep p.world p.standing → Goes script first p step next → IsOnly keep next.world next.standing
  still_only keep only (inr x) = subst (λ (z : Progress). IsOnly keep z.world z.standing) (sym x.after_is) only
  still_only keep only (inl x) = by_kind (kind_of p.world x.agent number step x.event x.means)
    where
      of : x.agent.call ≡ p.standing
      of = numbered.agents p.standing x.agent x.stands

      at : (q : Progress) → next ≡ q → IsOnly keep q.world q.standing → IsOnly keep next.world next.standing
      at q is there = subst (λ (z : Progress). IsOnly keep z.world z.standing) (sym is) there

      by_kind : IsKind x.agent number step x.event → IsOnly keep next.world next.standing
      by_kind (inl own) =
          let is : x.event ≡ OfCall (the_call p.standing) own.happens = own.is ∙ ap (λ (n : ℕ). OfCall (the_call n) own.happens) of in
          at (record p { world = x.world; events = p.events + 1 }) (x.after_is ∙ own.counts script first x.agent p x.world)
          (only_own script keep p.world x.world p.standing only own.happens (subst (λ (e : Event). Occurs script p.world e x.world) is x.occurs))
      by_kind (inr (inl begins)) =
          at (after_event script first x.agent p Begins x.world) (x.after_is ∙ ap (λ (s : PlanStep). after_event script first x.agent p s x.world) begins.0)
          (only_begun script keep p.world x.world p.standing only number (subst (λ (n : ℕ). IsBegun script p.world number n x.world) of (subst (λ (e : Event). Occurs script p.world e x.world) begins.1 x.occurs)))
      by_kind (inr (inr restarts)) =
          let o : Occurs script p.world Restart x.world = subst (λ (e : Event). Occurs script p.world e x.world) restarts.1 x.occurs in
          at (record p { world = x.world }) (x.after_is ∙ ap (λ (s : PlanStep). after_event script first x.agent p s x.world) restarts.0)
          (only_same script keep p.world x.world p.standing only (ap (λ (w : World). w.agent) o.1))

-- ---- another call's event

-- an event that doesn't begin a call retires none
pub retires_none : (happens : CallEvent) (call : ℕ) → (IsBeginning happens → ⊥) → IsRetiredBy happens call → ⊥
retires_none (to_call.Begin old) call goes_on is = goes_on tt
retires_none happens call goes_on is = is

pub left_open : (script : Script) (w after : World) (who call : ℕ) (happens : CallEvent) → IsNumbered w → OccursTo script w who happens after
    → (who ≡ call → ⊥) → (IsRetiredBy happens call → ⊥) → IsOpen w call → IsOpen after call
left_open script w after who call happens numbered occurs differ stays there =
    let same = events_keep script w after who call happens
    (record { agents = numbered.agents; replies = λ c answer last. (numbered.replies.kept c answer last).0 }) occurs differ stays in
    (there.0, same.agent ∙ there.1)
