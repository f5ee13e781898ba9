-- What the step means happens, or can't, or it means nothing: each time it makes an entry of a log. And why it isn't taken.
use Rattle.std.proofs.Common.{◌≡◌, ℕ, Option, sym, subst}
use Rattle.mg_model.specs.declared.events.Event.{Event}
use Rattle.mg_model.specs.declared.plans.PlanStep.{PlanStep}
use Rattle.agent.specs.declared.call.Next.{Next}
use Rattle.shards.specs.Meaning.{IsMeant}
use Rattle.shards.specs.Shards.{ShardValue}
use Rattle.shards.specs.Stepping.{IsStep}
use Rattle.planned_calls.specs.Taking.{IsTaken, IsWritten, first_of}
use Rattle.planned_calls.specs.declared.planned_call.TakenStep.{TakenStep}
use Rattle.planned_calls.proofs.SettledSteps.{meant_nothing, not_settled, settled}
use Rattle.planned_calls.proofs.WrittenSteps.{nothing_written, written}
use Rattle.planned_calls.proofs.planned_call.PlannedCall.step.Goals as goal

-- the event that is told is the one that is looked at
means_as : (v : ShardValue) (call next : ℕ) (step : PlanStep) {one other : Option Event} → one ≡ other → IsMeant v call next step one → IsMeant v call next step other
means_as v call next step is means = subst (λ (told : Option Event). IsMeant v call next step told) is means

pub returns-in_default-event-clause-taken : goal.returns-in_default-event-clause-taken
returns-in_default-event-clause-taken c =
    subst (λ (told : TakenStep). IsTaken c.args.shard.now c.meant.new.self (first_of c.args.self) c.args.step.now told) (sym c.new.ensures)
    (meant_nothing c.args.shard.now c.args.self.standing.0 c.in-Some-meant.told.standing c.in-Some-meant.ensures.standing c.args.step.now c.requires
    c.in-Some.begins.0 c.in-Some.ensures.next c.meant.new.self (means_as _ _ _ _ c.in_default-event.is c.in-Some-meant.ensures.meant) c.meant.ensures.unchanged)

pub returns-in-Ok-clause-taken : goal.returns-in-Ok-clause-taken
returns-in-Ok-clause-taken c =
    subst (λ (told : TakenStep). IsTaken c.args.shard.now c.stepped-next.new.shard (first_of c.args.self) c.args.step.now told) (sym c.new-in-Ok.ensures)
    (settled c.args.shard.now c.args.self.standing.0 c.in-Some-meant.told.standing c.in-Some-meant.ensures.standing c.args.step.now c.requires
    c.in-Some.begins.0 c.in-Some.ensures.next c.meant.new.self c.stepped-next.new.shard c.in-Some-event.event (means_as _ _ _ _ c.in-Some-event.is c.in-Some-meant.ensures.meant)
    c.meant.ensures.unchanged c.args.self.next c.stepped-next.result.0 c.stepped-next.result.1 c.in-Ok.event c.stepped-next.ensures c.in-Ok.ensures.settled)

pub returns-in-Err-clause-not_taken : goal.returns-in-Err-clause-not_taken
returns-in-Err-clause-not_taken c =
    not_settled c.args.shard.now c.meant.new.self c.stepped-next.new.shard c.args.self c.args.step.now c.in-Some.begins c.in-Some.ensures.next
    c.in-Some-event.event (means_as _ _ _ _ c.in-Some-event.is c.in-Some-meant.ensures.meant) c.meant.ensures.unchanged c.keeps_its_run.ensures c.stepped-next.result.0 c.stepped-next.result.1
    c.in-Err.fault c.stepped-next.ensures c.in-Err.ensures.settled

pub returns-in_default-event-clause-written : goal.returns-in_default-event-clause-written
returns-in_default-event-clause-written c =
    subst (λ (told : TakenStep). IsWritten c.args.self told.event c.args.self) (sym c.new.ensures) (nothing_written c.args.self)

pub returns-in-Ok-clause-written : goal.returns-in-Ok-clause-written
returns-in-Ok-clause-written c =
    subst (λ (told : TakenStep). IsWritten c.args.self told.event c.settle.new.self) (sym c.new-in-Ok.ensures)
    (written c.meant.new.self c.stepped-next.new.shard c.args.self c.settle.new.self c.in-Some-event.event c.in-Some.begins c.in-Some.ensures.next
    c.stepped-next.result.1 c.in-Ok.event
    (subst (λ (n : Next). IsStep c.meant.new.self c.stepped-next.new.shard c.args.self.next n c.in-Some-event.event c.stepped-next.result.1)
    (sym c.settle.ensures.next) c.stepped-next.ensures)
    c.in-Ok.ensures.settled c.settle.ensures.standing c.in-Ok.ensures.kept)
