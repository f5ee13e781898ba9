-- The call isn't held, or is behind: what is told of it is why the step is refused.
use Rattle.std.proofs.Common.{Err, refl, sym, subst}
use Rattle.mg_model.specs.declared.events.Event.{Event}
use Rattle.mg_model.specs.declared.events.Event.TheVariants.{OfCall}
use Rattle.agent.specs.declared.call.Next.{Next}
use Rattle.agent.specs.declared.refusal.Refusal.{Refusal}
use Rattle.agent.specs.declared.refusal.Refusal.TheVariants.{NotEnabled, Behind, NoMemory}
use Rattle.shards.proofs.ShardSteps.{stays_unchanged}
use Rattle.shards.proofs.TakenSteps.{back_as}
use Rattle.shards.specs.Shards.{ShardValue}
use Rattle.shards.specs.Stepping.{IsHeld, IsRefusedStep}
use Rattle.shards.proofs.shard.Shard.step.Goals as goal

refused : (v : ShardValue) (next : Next) (event : Event) (why : Refusal) → IsHeld v next event (Err why) → IsRefusedStep v next event why
refused v next event NotEnabled is = is
refused v next event (Behind slot_count) is = is
refused v next event NoMemory is = absurd is

pub returns-in-Err-clause-stepped : goal.returns-in-Err-clause-stepped
returns-in-Err-clause-stepped c = (
  subst (λ (e : Event). IsRefusedStep c.args.self.now c.args.next e c.in-Err.why) (sym c.in-OfCall.is)
      (refused c.args.self.now c.args.next (OfCall c.in-OfCall.call c.in-OfCall.event) c.in-Err.why c.in-Err.ensures),
  (stays_unchanged c.args.self.now, back_as c.args.next c.args.next refl),
)
