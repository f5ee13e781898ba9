-- A step of a call of the plan makes an entry of a log: by what its shard says that it means, and by what becomes of that.
use Rattle.std.proofs.Common.{◌≡◌, ◌∙◌, ◌+◌, ◌*◌, ◌%◌, ◌<◌, ◌++◌, ℕ, [], ◌∷◌, Option, Some, None, Result, Ok, Err, refl, sym, ap, subst, arith}
use Rattle.std.specs.Prelude.{◌/◌}
use Rattle.std.proofs.Math.Nat.{div-add-mod}
use Rattle.std.proofs.lemmas.Nat.{mod_below}
use Rattle.std.proofs.lemmas.List.{append-nil}
use Rattle.mg_names.specs.declared.identifiers.CallNo.{CallNo}
use Rattle.mg_model.specs.declared.events.Event.{Event}
use Rattle.mg_model.specs.declared.plans.PlanStep.{PlanStep}
use Rattle.mg_model.specs.declared.plans.PlanStep.TheVariants.{Restarts}
use Rattle.mg_model.specs.Agent.{Agent}
use Rattle.mg_model.specs.Numbers.{plan_calls}
use Rattle.mg_model.specs.Plans.{number_begun}
use Rattle.mg_model.specs.Reports.{Means}
use Rattle.mg_model.specs.Script.{Script}
use Rattle.mg_model.specs.World.{Occurs, World}
use Rattle.mg_reports.proofs.Placings.{one_event}
use Rattle.mg_reports.specs.Logs.{ComesTo, StepTaken}
use Rattle.agent.specs.declared.call.Next.{Next}
use Rattle.agent.specs.declared.refusal.Refusal.{Refusal}
use Rattle.agent.specs.declared.refusal.Refusal.TheVariants as refusal
use Rattle.shards.specs.CanOccur.{NeverOccurs}
use Rattle.shards.specs.Meaning.{IsMeant, MeansIn}
use Rattle.shards.specs.Shards.{HasHappened, HasSameOpening, IsShard, IsUnchanged, IsWorldOf, ShardValue}
use Rattle.shards.specs.Standings.{TellsStanding}
use Rattle.shards.specs.Stepping.{IsStep}
use Rattle.shards.specs.declared.standing.Standing.{Standing}
use Rattle.shards.specs.declared.stepped.Stepped.{Stepped}
use Rattle.shards.specs.declared.stepped.Stepped.TheVariants.{Done, Begun}
use Rattle.planned_calls.specs.Disagreements.{IsBecause, IsNotTaken, IsUntaken, MeansEvent, counts_otherwise, goes_otherwise}
use Rattle.planned_calls.specs.Taking.{IsTaken, SettlesAs}
use Rattle.planned_calls.specs.declared.fault.RunFault.{RunFault}
use Rattle.planned_calls.specs.declared.planned_call.PlannedCall.{PlannedCall}
use Rattle.planned_calls.proofs.Faults.{because}

-- what stays the same, stays so twice
same_opening : (u v w : ShardValue) → HasSameOpening u v → HasSameOpening v w → HasSameOpening u w
same_opening u v w one other = record {
  script = other.script ∙ one.script;
  first = other.first ∙ one.first;
  stride = other.stride ∙ one.stride;
  calls = other.calls ∙ one.calls;
}

module _ (v0 : ShardValue) (standing : ℕ) (s : Standing) (at : TellsStanding v0 standing (Some s)) (step : PlanStep) (no_restart : step ≡ Restarts → ⊥)
    (begins : ℕ) (number : begins ≡ standing + plan_calls) where
  abbrev first : ℕ
  first = standing % plan_calls

  abbrev begun : ℕ
  begun = standing / plan_calls

  number_is : number_begun first begun ≡ standing
  number_is = div-add-mod standing plan_calls

  next_is : number_begun first (begun + 1) ≡ begins
  next_is =
      let here : 10000 * begun + first ≡ standing = number_is in
      let more : begins ≡ standing + 10000 = number in
      let after : 10000 * (begun + 1) + first ≡ begins = omega (arith, here, more) in
      after

  -- ---- in a world that the shard shows

  module _ (w : World) (shown : IsWorldOf v0 w) where
    abbrev agent : Agent
    agent = (at w shown).agent

    entry : (told : Option Event) (after : World) → ComesTo v0.script w agent begins step told after → StepTaken v0.script w first step s.state told after
    entry told after comes = record {
      few = mod_below standing plan_calls (let some : 0 < 10000 = omega arith in some);
      begun = begun;
      agent = agent;
      stands = ap w.agent number_is ∙ (at w shown).open_call;
      of_state = (at w shown).state;
      no_restart = no_restart;
      comes = subst (λ (n : ℕ). ComesTo v0.script w agent n step told after) (sym next_is) comes;
    }

    meant : (told : Option Event) → IsMeant v0 standing begins step told → MeansIn w (Some agent) begins step told
    meant told means = subst (λ (o : Option Agent). MeansIn w o begins step told) (at w shown).open_call (means w shown)

  -- ---- it means nothing

  pub meant_nothing : (v : ShardValue) → IsMeant v0 standing begins step None → IsUnchanged v0 v
      → IsTaken v0 v first step (record { first = first; state = s.state; event = None })
  meant_nothing v told same = record {
    of_first = refl;
    same = same.same;
    history = same.history ∙ sym (append-nil v0.history);
    worlds = λ w shown. (
      w,
      (entry w shown None w (refl, λ event after means occurs. meant w shown None told event means), same.worlds w shown),
    );
  }

  -- ---- it means an event

  module _ (v w : ShardValue) (event : Event) (told : IsMeant v0 standing begins step (Some event)) (same : IsUnchanged v0 v) where
    occurred : HasHappened v w event → IsTaken v0 w first step (record { first = first; state = s.state; event = Some event })
    occurred is = record {
      of_first = refl;
      same = same_opening v0 v w same.same is.same;
      history = is.history ∙ ap (λ events. events ++ event ∷ []) same.history;
      worlds = λ x shown.
          let led = is.worlds x (same.worlds x shown) in (
            led.0,
            (
              entry x shown (Some event) led.0
                  (meant x shown (Some event) told, subst (λ (s : Script). Occurs s x event led.0) same.same.script led.1.0),
              led.1.1,
            ),
          );
    }

    idle : IsUnchanged v w → NeverOccurs w event → IsTaken v0 w first step (record { first = first; state = s.state; event = None })
    idle stays never = record {
      of_first = refl;
      same = same_opening v0 v w same.same stays.same;
      history = stays.history ∙ same.history ∙ sym (append-nil v0.history);
      worlds = λ x shown. (x, (entry x shown None x (refl, λ other after means occurs. refused x shown other after means occurs), stays.worlds x (same.worlds x shown)));
    }
      where
        refused : (x : World) (shown : IsWorldOf v0 x) (other : Event) (after : World) → Means x (agent x shown) begins step other → Occurs v0.script x other after → ⊥
        refused x shown other after means occurs =
            let is : other ≡ event = one_event x (agent x shown) begins step other event means (meant x shown (Some event) told) in
            never x (stays.worlds x (same.worlds x shown)) after
            (subst (λ (s : Script). Occurs s x event after) (sym (stays.same.script ∙ same.same.script)) (subst (λ (e : Event). Occurs v0.script x e after) is occurs))

    module _ (next after : Next) where
      taken_so : (stepped : Stepped) → IsStep v w next after event (Ok stepped) → HasHappened v w event
      taken_so Done is = is.shard
      taken_so (Begun retired) is = is.0.shard

      pub settled : (done : Result Stepped Refusal) (left : Option Event) → IsStep v w next after event done → SettlesAs w event done (Ok left)
          → IsTaken v0 w first step (record { first = first; state = s.state; event = left })
      settled (Ok stepped) left is told_as =
          subst (λ (o : Option Event). IsTaken v0 w first step (record { first = first; state = s.state; event = o })) (sym told_as) (occurred (taken_so stepped is))
      settled (Err why) left is told_as =
          subst (λ (o : Option Event). IsTaken v0 w first step (record { first = first; state = s.state; event = o })) (sym told_as.0)
          (idle is.1.0 told_as.1.1)

      pub opens_same : (done : Result Stepped Refusal) → IsStep v w next after event done → HasSameOpening v0 w
      opens_same (Ok stepped) is = same_opening v0 v w same.same (taken_so stepped is).same
      opens_same (Err why) is = same_opening v0 v w same.same is.1.0.same

-- ---- why it isn't taken

module _ (v0 v w : ShardValue) (a : PlannedCall) (step : PlanStep) (begins : CallNo) (number : begins.0 ≡ a.standing.0 + plan_calls) (event : Event)
    (told : IsMeant v0 a.standing.0 begins.0 step (Some event)) (same : IsUnchanged v0 v) (kept : IsShard v) (after : Next) where
  abbrev means : MeansEvent v0 a step
  means = record { event = event; begins = begins; number = number; means = told; same = v; unchanged = same; kept = kept }

  untaken : (why : Refusal) → IsStep v w a.next after event (Err why) → IsUntaken w event why → IsNotTaken v0 a step
  untaken refusal.NotEnabled is may = goes_otherwise (record { meant = means; refused = is.0; left = w; stays = is.1.0; may = may })
  untaken (refusal.Behind slot_count) is may = counts_otherwise (record { meant = means; slot_count = slot_count; behind = is.0.0; could = is.0.1 })
  untaken refusal.NoMemory is never = absurd never

  pub not_settled : (done : Result Stepped Refusal) (fault : RunFault) → IsStep v w a.next after event done → SettlesAs w event done (Err fault)
      → IsBecause (IsNotTaken v0 a step) fault
  not_settled (Ok Done) fault is never = absurd never
  not_settled (Ok (Begun retired)) fault is told_as = because ⊥ (IsNotTaken v0 a step) fault (λ never. absurd never) told_as
  not_settled (Err why) fault is told_as = because (IsUntaken w event why) (IsNotTaken v0 a step) fault (untaken why is) told_as
