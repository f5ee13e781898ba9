-- What is brought is what was sent, and the agent has to take it.
use Rattle.std.proofs.Common.{subst}
use Rattle.shards.specs.CallRecords.{IsDelivered}
use Rattle.shards.proofs.Occurrences.{takeable}
use Rattle.shards.proofs.can_occur.is_takeable.Goals as goal

pub returns : goal.returns
returns c =
    takeable c.args.script.now c.args.event.now c.args.call_record.now c.in-Some.delivery c.can_take.result
    (subst (IsDelivered c.args.call_record.now.messages.sent c.args.event.now) c.in-Some.is c.brought.ensures) c.can_take.ensures
