-- What is brought is what was sent, and both have to take it.
use Rattle.std.proofs.Common.{◌∙◌, sym, subst}
use Rattle.shards.specs.CallRecords.{IsDelivered}
use Rattle.shards.proofs.PossibleEvents.{possible_step, record_cannot}
use Rattle.shards.proofs.could_happen.could_step.Goals as goal

pub returns-then-not-can_take : goal.returns-then-not-can_take
returns-then-not-can_take c =
    record_cannot c.args.script.now c.args.next.now c.args.event.now c.args.call_record.now c.in-Some.delivery
    (subst (IsDelivered c.args.call_record.now.messages.sent c.args.event.now) c.in-Some.is c.brought.ensures)
    (sym c.can_take.ensures ∙ c.if-not-can_take.true)

pub returns : goal.returns
returns c =
    possible_step c.args.script.now c.args.next.now c.args.event.now c.args.call_record.now c.in-Some.delivery
    (subst (IsDelivered c.args.call_record.now.messages.sent c.args.event.now) c.in-Some.is c.brought.ensures)
    (sym c.can_take.ensures ∙ c.if-not-can_take.false) c.can_take-2.result c.can_take-2.ensures
