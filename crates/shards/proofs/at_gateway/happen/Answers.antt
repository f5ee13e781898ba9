-- The note has the number after the others of the call.
use Rattle.std.proofs.Common.{◌∙◌, ◌+◌, length, Option, sym, ap, subst}
use Rattle.mg_model.specs.Gateway.{Happens}
use Rattle.mg_model.specs.Messages.{SentNote}
use Rattle.shards.specs.Messages.{Messages}
use Rattle.gateway.specs.Answers.{note_listed}
use Rattle.gateway.specs.GatewayValue.{gateway_of}
use Rattle.shards.proofs.GatewayLemmas.{held, note_number}
use Rattle.shards.proofs.at_gateway.happen.Goals as goal

pub raise_one-requires-clause-numbered : goal.raise_one-requires-clause-numbered
unfolding gateway_of
raise_one-requires-clause-numbered c =
    note_number (gateway_of c.args.gateway.now) (gateway_of c.happen.new.self) c.args.line.0 c.args.event c.in-Some.note c.args.call.0
    (subst (λ (told : Option SentNote). Happens (gateway_of c.args.gateway.now) c.args.line.0 c.args.event (gateway_of c.happen.new.self) (note_listed told)) c.in-Some.is c.in-Ok-happen.ensures.0)
    (sym c.holder.ensures ∙ held c.holder.result c.args.call c.if-ne.ensures)
    ∙ ap (λ n. n + 1) (c.requires.notes ∙ ap (λ (m : Messages). length m.notes) (sym c.room_for_notes.ensures.same))
