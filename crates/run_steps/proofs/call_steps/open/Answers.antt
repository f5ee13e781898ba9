-- The one call that was handed out is that of the plan.
use Rattle.std.proofs.Common.{◌≡◌, ◌∙◌, ◌++◌, List, [], ◌∷◌, refl, sym, ap, subst}
use Rattle.agent.specs.declared.call.Next.{Next}
use Rattle.mg_model.specs.Plans as plans
use Rattle.taken_steps.specs.Opening.{AreEntered, IsNewShard}
use Rattle.taken_steps.specs.Shards.{ShardValue}
use Rattle.taken_steps.specs.OpenedCall.{OpenedCall}
use Rattle.run_steps.specs.Telling.{IsFirst}
use Rattle.run_steps.specs.declared.telling.Telling.{Telling}
use Rattle.run_steps.proofs.Openings.{entered_alone}
use Rattle.run_steps.proofs.call_steps.open.Goals as goal

pub returns : goal.returns
returns c =
    let script = c.args.checked.now.table in
    let one = c.in_ok-opened_call.field-0 in
    let calls : c.push.new.self.items ≡ one ∷ [] = c.in_ok-push.ensures.items ∙ ap (λ (calls : List OpenedCall). calls ++ one ∷ []) c.new-calls.ensures.items in
    let opened = c.in-Ok.ensures in
    let new : IsNewShard script (one ∷ []) 0 1 c.in-Ok.opened.0 =
    subst (λ (cs : List OpenedCall). IsNewShard script cs 0 1 c.in-Ok.opened.0) calls opened.0 in
    let entered : AreEntered script (one ∷ []) c.in-Ok.opened.1.items =
    subst (λ (cs : List OpenedCall). AreEntered script cs c.in-Ok.opened.1.items) calls opened.1 in record {
      one = one;
      is_one = c.in_ok-opened_call.ensures;
      new = subst (λ (v : ShardValue). IsNewShard script (one ∷ []) 0 1 v) (sym c.shard.view_is) new;
      entered = entered_alone script one c.pop.new.self.items c.in-Some.next
          (subst (λ (ns : List Next). AreEntered script (one ∷ []) ns) c.in-Some.ensures.items entered);
      number = refl;
      none = c.new.ensures.items;
    }
