-- A step of another call of the plan is an event beside a call, or nothing.
use Rattle.std.proofs.Common.{◌≡◌, ◌<◌, ◌+◌, ℕ, List, length, Option, Some, None, sym, subst, inl, inr}
use Rattle.mg_names.specs.declared.identifiers.CallNo.{CallNo}
use Rattle.mg_model.specs.declared.events.CallEvent.{CallEvent}
use Rattle.mg_model.specs.declared.events.CallEvent.TheVariants as to_call
use Rattle.mg_model.specs.declared.events.Event.{Event}
use Rattle.mg_model.specs.declared.events.Event.TheVariants.{OfCall}
use Rattle.mg_model.specs.declared.plans.PlanStep.{PlanStep}
use Rattle.mg_model.specs.Numbers.{plan_calls, the_call}
use Rattle.mg_model.specs.Plans.{number_begun}
use Rattle.mg_model.specs.Script.{Script}
use Rattle.mg_model.specs.World.{World, Occurs, OccursTo}
use Rattle.mg_safety.specs.Laws.{IsRetiredBy}
use Rattle.mg_safety.proofs.Messages.NamedMessages.{event_numbered}
use Rattle.mg_safety.proofs.Messages.NumberedWorlds.{IsNumbered}
use Rattle.mg_reports.specs.Among.{IsWithin}
use Rattle.mg_reports.specs.Logs.{Counted, StepTaken}
use Rattle.mg_reports.proofs.Among.Within.{is_within, begun_within, never_within}
use Rattle.mg_reports.proofs.Only.{IsOnly, only_beside}
use Rattle.std.proofs.lemmas.Bool.{eqb-true}
use Rattle.std.specs.Prelude.{◌%◌}
use Rattle.mg_reports.proofs.Logs.Standing.{IsOpen, left_open, retires_none}
use Rattle.mg_reports.proofs.Logs.Turns.{GoesOn, StandsAt, event_turn}
use Rattle.mg_reports.proofs.Meanings.{IsKind, kind_of}

module _ (script : Script) (first : ℕ) (small : first < plan_calls) where
  -- its event is of a call within another, on whose lines none begins but of those
  record IsOfAnother (w after : World) : Type 0 where
    who : CallNo
    happens : CallEvent
    occurs : OccursTo script w who.0 happens after
    apart : IsWithin first who.0 → ⊥
    stays : (k : ℕ) → IsRetiredBy happens (number_begun first k) → ⊥

  module _ (w after : World) (c : Counted) (at : StandsAt first w c) (other : ℕ) (differ : other ≡ first → ⊥) (step : PlanStep) (state : ℕ) where
    another : (event : Event) → StepTaken script w other step state (Some event) after → IsOfAnother w after
    another event t = by_kind (kind_of w t.agent next step event t.comes.0)
      where
        next : ℕ
        next = number_begun other (t.begun + 1)

        of : t.agent.call ≡ number_begun other t.begun
        of = at.numbered.agents (number_begun other t.begun) t.agent t.stands

        its_own : IsWithin first t.agent.call → ⊥
        its_own within = never_within first other t.begun t.few differ (subst (λ (n : ℕ). IsWithin first n) of within)

        by_kind : IsKind t.agent next step event → IsOfAnother w after
        by_kind (inl of_it) = record {
          who = the_call t.agent.call;
          happens = of_it.happens;
          occurs = subst (λ (e : Event). Occurs script w e after) of_it.is t.comes.1;
          apart = its_own;
          stays = λ k. retires_none of_it.happens (number_begun first k) of_it.goes_on;
        }
        by_kind (inr (inl begins)) = record {
          who = the_call next;
          happens = to_call.Begin (the_call t.agent.call);
          occurs = subst (λ (e : Event). Occurs script w e after) begins.1 t.comes.1;
          apart = never_within first other (t.begun + 1) t.few differ;
          stays = λ k is. its_own (subst (λ (n : ℕ). IsWithin first n) (sym is) (begun_within first k small));
        }
        by_kind (inr (inr restarts)) = absurd (t.no_restart restarts.0)

    pub stands_beside : (told : Option Event) → StepTaken script w other step state told after → StandsAt first after c
    stands_beside (Some event) t =
        let it = another event t in
        record {
          numbered = event_numbered script w after (OfCall it.who it.happens) at.numbered it.occurs;
          only = only_beside script (is_within first) w after (number_begun first (length c.retired)) at.only it.who.0 it.happens (λ is. it.apart (eqb-true (it.who.0 % plan_calls) first is)) it.occurs;
          stands = left_open script w after it.who.0 (number_begun first (length c.retired)) it.happens at.numbered it.occurs
              (λ is. it.apart (subst (λ (n : ℕ). IsWithin first n) (sym is) (begun_within first (length c.retired) small))) (it.stays (length c.retired)) at.stands;
        }
    stands_beside None t = record {
      numbered = subst IsNumbered (sym t.comes.0) at.numbered;
      only = subst (λ (x : World). IsOnly (is_within first) x (number_begun first (length c.retired))) (sym t.comes.0) at.only;
      stands = subst (λ (x : World). IsOpen x (number_begun first (length c.retired))) (sym t.comes.0) at.stands;
    }

    pub taken_beside : (told : Option Event) → StepTaken script w other step state told after → (end : World) (last : Counted) (steps : List PlanStep) (others : ℕ)
        → GoesOn script first after end c last steps others → GoesOn script first w end c last steps others
    taken_beside (Some event) t end last steps others on =
        let it = another event t in
        event_turn script first small w after c it.who it.happens it.apart it.occurs end last steps others on
    taken_beside None t end last steps others on = subst (λ (x : World). GoesOn script first x end c last steps others) t.comes.0 on
