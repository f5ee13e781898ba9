-- How a call goes among others from what was counted of it: by a step of its own, or with an event of another call or a restart beside it.
use Rattle.std.proofs.Common.{◌≡◌, ◌∙◌, ◌+◌, ◌<◌, arith, ℕ, suc, List, ◌∷◌, length, Option, Some, None, refl, sym, ap, subst, inl, inr}
use Rattle.mg_names.specs.declared.identifiers.CallNo.{CallNo}
use Rattle.mg_model.specs.declared.events.CallEvent.{CallEvent}
use Rattle.mg_model.specs.declared.events.Event.{Event}
use Rattle.mg_model.specs.declared.events.Event.TheVariants.{OfCall, Restart}
use Rattle.mg_model.specs.declared.plans.PlanStep.{PlanStep}
use Rattle.mg_model.specs.declared.plans.PlanStep.TheVariants.{Restarts}
use Rattle.mg_model.specs.Plans.{number_begun}
use Rattle.mg_model.specs.Script.{Script}
use Rattle.mg_model.specs.Shards.{HasIdentifiersLeft}
use Rattle.mg_model.specs.World.{World, Occurs, OccursTo}
use Rattle.mg_safety.proofs.Messages.NumberedWorlds.{IsNumbered}
use Rattle.mg_reports.specs.Among.{Turn, own, beside, GoesAmong, IsWithin, own_steps, restarts_beside}
use Rattle.mg_reports.specs.Logs.{ComesTo, Counted, StepTaken, count_step}
use Rattle.mg_reports.proofs.Along.{Goes}
use Rattle.mg_reports.proofs.Logs.Counts.{as_counted, counts_event, counts_idle}
use Rattle.mg_reports.proofs.Logs.Standing.{IsOpen, still_stands, still_only}
use Rattle.mg_reports.proofs.Only.{IsOnly}
use Rattle.mg_reports.proofs.Among.Within.{is_within, within_begun}
use Rattle.mg_model.specs.Numbers.{plan_calls}

-- the call stands, as it was counted
pub record StandsAt (first : ℕ) (w : World) (c : Counted) : Type 0 where
  pub numbered : IsNumbered w
  pub only : IsOnly (is_within first) w (number_begun first (length c.retired))
  pub stands : IsOpen w (number_begun first (length c.retired))

-- it goes by turns that are these steps and have as many restarts beside them, from what was counted to what is counted at the end, where it stands
pub record GoesOn (script : Script) (first : ℕ) (w end : World) (c last : Counted) (steps : List PlanStep) (others : ℕ) : Type 0 where
  pub turns : List Turn
  pub steps_are : own_steps turns ≡ steps
  pub others_are : restarts_beside turns ≡ others
  pub goes : GoesAmong script first turns (as_counted first w c) (as_counted first end last)
  pub stands : IsOpen end (number_begun first (length last.retired))

same_number : (a b first : ℕ) → number_begun first a ≡ number_begun first b → a ≡ b
same_number a b first e = omega (arith, e)

module _ (script : Script) (first : ℕ) (small : first < plan_calls) where
  -- ---- a step of its own

  module _ (w after : World) (c : Counted) (at : StandsAt first w c) where
    pub own_turn : (step : PlanStep) (d : Counted) → HasIdentifiersLeft w → Goes script first (as_counted first w c) step (as_counted first after d) → (end : World)
        (last : Counted) (steps : List PlanStep) (others : ℕ) → GoesOn script first after end d last steps others → GoesOn script first w end c last (step ∷ steps) others
    unfolding GoesAmong
    own_turn step d left goes end last steps others on = record {
      turns = own step ∷ on.turns;
      steps_are = ap (λ (l : List PlanStep). step ∷ l) on.steps_are;
      others_are = on.others_are;
      goes = (left, (as_counted first after d, (goes, on.goes)));
      stands = on.stands;
    }

    pub stands_own : (step : PlanStep) (d : Counted) → IsNumbered after
        → Goes script first (as_counted first w c) step (as_counted first after d) → StandsAt first after d
    stands_own step d numbered goes =
        record { numbered = numbered; only = still_only script first (as_counted first w c) (as_counted first after d) step at.numbered (is_within first) at.only goes; stands = still_stands script first (as_counted first w c) (as_counted first after d) step at.numbered goes }

    pub restarts_goes : Occurs script w Restart after → Goes script first (as_counted first w c) Restarts (as_counted first after c)
    restarts_goes occurs = inl (record {
      agent = at.stands.0;
      event = Restart;
      world = after;
      stands = at.stands.1;
      means = refl;
      occurs = occurs;
      after_is = refl;
    })

    the_begun : (step : PlanStep) (state : ℕ) (told : Option Event) (t : StepTaken script w first step state told after) → t.begun ≡ length c.retired
    the_begun step state told t = same_number t.begun (length c.retired) first (at.only (number_begun first t.begun) t.agent (within_begun first t.begun small) t.stands)

    pub taken_goes : (step : PlanStep) (state : ℕ) (told : Option Event) → StepTaken script w first step state told after
        → Goes script first (as_counted first w c) step (as_counted first after (count_step script step state told c))
    taken_goes step state (Some event) t =
        let comes = subst (λ (n : ℕ). ComesTo script w t.agent (number_begun first (n + 1)) step (Some event) after) (the_begun step state (Some event) t) t.comes in
        inl (record {
          agent = t.agent;
          event = event;
          world = after;
          stands = subst (λ (n : ℕ). w.agent (number_begun first n) ≡ Some t.agent) (the_begun step state (Some event) t) t.stands;
          means = comes.0;
          occurs = comes.1;
          after_is = sym (counts_event script first t.agent w after c step state event t.no_restart t.of_state);
        })
    taken_goes step state None t =
        let comes = subst (λ (n : ℕ). ComesTo script w t.agent (number_begun first (n + 1)) step None after) (the_begun step state None t) t.comes in
        inr (record {
          agent = t.agent;
          stands = subst (λ (n : ℕ). w.agent (number_begun first n) ≡ Some t.agent) (the_begun step state None t) t.stands;
          no_restart = t.no_restart;
          cannot = comes.1;
          after_is = ap (λ (d : Counted). as_counted first after d) (counts_idle script step state c)
              ∙ ap (λ (x : World). as_counted first x (record c { idle = c.idle + 1 })) comes.0;
        })

  -- ---- what stands beside it

  pub restart_turn : (w after : World) (c : Counted) → Occurs script w Restart after → (end : World) (last : Counted) (steps : List PlanStep) (others : ℕ)
      → GoesOn script first after end c last steps others → GoesOn script first w end c last steps (suc others)
  unfolding GoesAmong
  restart_turn w after c occurs end last steps others on = record {
    turns = beside Restart ∷ on.turns;
    steps_are = on.steps_are;
    others_are = ap (λ (n : ℕ). suc n) on.others_are;
    goes = (tt, (after, (occurs, on.goes)));
    stands = on.stands;
  }

  pub event_turn : (w after : World) (c : Counted) (who : CallNo) (happens : CallEvent) → (IsWithin first who.0 → ⊥) → OccursTo script w who.0 happens after → (end : World)
      (last : Counted) (steps : List PlanStep) (others : ℕ) → GoesOn script first after end c last steps others → GoesOn script first w end c last steps others
  unfolding GoesAmong
  event_turn w after c who happens apart occurs end last steps others on = record {
    turns = beside (OfCall who happens) ∷ on.turns;
    steps_are = on.steps_are;
    others_are = on.others_are;
    goes = (apart, (after, (occurs, on.goes)));
    stands = on.stands;
  }
