-- A step more was gone: what was told before it leads to where it began.
use Rattle.std.proofs.Common.{◌≡◌, ◌∙◌, ℕ, ◌++◌, List, [], ◌∷◌, refl, sym, ap, subst}
use Rattle.std.proofs.lemmas.List.{append_assoc, append-nil}
use Rattle.mg_names.specs.declared.identifiers.CallNo.{CallNo}
use Rattle.mg_model.specs.declared.events.Event.{Event}
use Rattle.mg_model.specs.declared.plans.PlanStep.{PlanStep}
use Rattle.mg_model.specs.Script.{Script}
use Rattle.mg_model.specs.World.{Opened}
use Rattle.agent.specs.declared.call.Next.{Next}
use Rattle.taken_steps.specs.Shards.{ShardValue}
use Rattle.taken_steps.specs.Positions.{IsPlaced}
use Rattle.taken_steps.specs.Taking.{Comes}
use Rattle.run_steps.specs.Telling.{Goes, IsFirst, IsGone, IsToldLast, IsToldStep, TellsOn, own_step, own_steps}
use Rattle.taken_steps.specs.declared.came.Came.{Came}
use Rattle.taken_steps.specs.declared.position.Position.{Position}
use Rattle.run_steps.specs.declared.telling.Telling.{Telling}
use Rattle.run_steps.specs.declared.told_step.ToldStep.{ToldStep}
use Rattle.run_steps.proofs.ToldLists.{own_more}

-- one step alone
one_goes : (t : ToldStep) (v w : ShardValue) (a b : Next) (number now : ℕ) → IsToldStep t v a number w b now → Goes (t ∷ []) v a number w b now
unfolding Goes
one_goes t v w a b number now told = (w, (b, (now, (told, (refl, refl, refl)))))

-- behind others
pub goes_on : (before : List ToldStep) (t : ToldStep) (v u w : ShardValue) (a c b : Next) (number k now : ℕ) → Goes before v a number u c k
    → IsToldStep t u c k w b now → Goes (before ++ t ∷ []) v a number w b now
unfolding Goes
goes_on [] t v u w a c b number k now (same_v, same_a, same_n) told =
    one_goes t v w a b number now
    (subst (λ (n : ℕ). IsToldStep t v a n w b now) same_n
    (subst (λ (d : Next). IsToldStep t v d k w b now) same_a
    (subst (λ (x : ShardValue). IsToldStep t x c k w b now) same_v told)))
goes_on (first ∷ more) t v u w a c b number k now (x, (d, (m, (is, goes)))) told =
    (x, (d, (m, (is, goes_on more t x u w d c b m k now goes told))))

-- a step is told behind those that were told before
pub tells_one : (before after : Telling) (t : ToldStep) → after.steps.items ≡ before.steps.items ++ t ∷ []
    → IsToldStep t before.shard before.next before.number.0 after.shard after.next after.number.0 → TellsOn (own_step t.step t.came) before after
tells_one before after t items told = record {
  steps = ap own_steps items ∙ own_more before.steps.items t;
  goes = λ v a number goes.
      subst (λ (steps : List ToldStep). Goes steps v a number after.shard after.next after.number.0) (sym items)
      (goes_on before.steps.items t v before.shard after.shard a before.next after.next number before.number.0 after.number.0 goes told);
}

-- the last one that was told is what was taken where those before it led
pub tells_last : (before taken after : Telling) (step : PlanStep) (c : Came) (place : Position) → taken.steps.items ≡ before.steps.items
    → Comes before.shard before.next before.number.0 step c taken.shard taken.next taken.number.0 → IsPlaced before.shard before.next place
    → IsToldLast step c place taken after → TellsOn (own_step step c) before after
tells_last before taken after step c place same comes placed last =
    subst (λ (own : List PlanStep). TellsOn own before after) (ap (λ (s : PlanStep). own_step s last.told.came) last.step ∙ ap (own_step step) last.came)
    (tells_one before after last.told (last.steps ∙ ap (λ (steps : List ToldStep). steps ++ last.told ∷ []) same) (record {
      comes =
          subst (λ (s : PlanStep). Comes before.shard before.next before.number.0 s last.told.came after.shard after.next after.number.0) (sym last.step)
          (subst (λ (x : Came). Comes before.shard before.next before.number.0 step x after.shard after.next after.number.0) (sym last.came)
          (subst (λ (v : ShardValue). Comes before.shard before.next before.number.0 step c v after.next after.number.0) (sym last.shard)
          (subst (λ (b : Next). Comes before.shard before.next before.number.0 step c taken.shard b after.number.0) (sym last.next)
          (subst (λ (n : CallNo). Comes before.shard before.next before.number.0 step c taken.shard taken.next n.0) (sym last.number) comes))));
      call = ap (λ (n : CallNo). n.0) (last.call ∙ sym last.number);
      before = subst (λ (p : Position). IsPlaced before.shard before.next p) (sym last.before) placed;
      after = subst (λ (v : ShardValue). IsPlaced v after.next last.told.after) (sym last.shard)
          (subst (λ (b : Next). IsPlaced taken.shard b last.told.after) (sym last.next) last.after);
    }))

-- ---- several

pub tells_none : (t : Telling) → TellsOn [] t t
tells_none t = record { steps = sym (append-nil (own_steps t.steps.items)); goes = λ v a number goes. goes }

pub tells_both : (one other : List PlanStep) (s t u : Telling) → TellsOn one s t → TellsOn other t u → TellsOn (one ++ other) s u
tells_both one other s t u first second = record {
  steps = second.steps ∙ ap (λ (steps : List PlanStep). steps ++ other) first.steps ∙ append_assoc (own_steps s.steps.items) one other;
  goes = λ v a number goes. second.goes v a number (first.goes v a number goes);
}

-- ---- a call of the plan

first_goes : (script : Script) (call : Opened) (t : Telling) → IsFirst script call t → Goes t.steps.items t.shard t.next call.call t.shard t.next t.number.0
unfolding Goes
first_goes script call t first =
    subst (λ (steps : List ToldStep). Goes steps t.shard t.next call.call t.shard t.next t.number.0) (sym first.none) (refl, refl, first.number)

-- its steps were told from its opening on
pub gone : (script : Script) (call : Opened) (own : List PlanStep) (s t u : Telling) (history : List Event) → IsFirst script call s → TellsOn own s t
    → TellsOn [] t u → u.shard.history ≡ history → IsGone script call u.steps.items history
gone script call own s t u history first steps rest is = record {
  one = first.one;
  is_one = first.is_one;
  opened = s.shard;
  first = s.next;
  new = first.new;
  entered = first.entered;
  shard = u.shard;
  last = u.next;
  now = u.number.0;
  goes = rest.goes s.shard s.next call.call (steps.goes s.shard s.next call.call (first_goes script call s first));
  history_is = is;
}
