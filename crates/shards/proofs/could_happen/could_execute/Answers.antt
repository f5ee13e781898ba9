-- The request is the one that was sent.
use Rattle.std.proofs.Common.{◌∙◌, sym, ap}
use Rattle.std.specs.Prelude.{option_map}
use Rattle.shards.proofs.PossibleEvents.{possible_request}
use Rattle.shards.proofs.could_happen.could_execute.Goals as goal

pub returns : goal.returns
returns c =
    possible_request c.args.gateway.now c.args.call.0 c.args.number c.args.call_record.now c.in-Some.request.now c.can_execute.result
    (sym c.request.ensures ∙ ap (option_map (λ r. r.now)) c.in-Some.is) c.can_execute.ensures
