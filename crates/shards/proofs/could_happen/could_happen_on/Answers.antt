-- The call holds the line, so the event can happen where the gateway says so.
use Rattle.std.proofs.Common.{◌∙◌, sym}
use Rattle.shards.proofs.GatewayLemmas.{held}
use Rattle.shards.proofs.PossibleEvents.{possible_on}
use Rattle.shards.proofs.could_happen.could_happen_on.Goals as goal

pub returns : goal.returns
returns c =
    possible_on c.args.gateway.now c.args.call.0 c.args.line.0 c.args.event c.can_happen.result
    (sym c.holder.ensures ∙ held c.holder.result c.args.call c.if-ne.ensures) c.can_happen.ensures
