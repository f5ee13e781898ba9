-- The gateway answers the request that was sent, so its reply has a place, and its notes have the numbers after the others of the call.
use Rattle.std.proofs.Common.{◌≡◌, ◌∙◌, ◌+◌, ◌≤◌, length, Some, refl, sym, ap, subst, arith}
use Rattle.std.proofs.lemmas.List.{length-map}
use Rattle.requests.specs.Views.{command_of}
use Rattle.mg_model.proofs.Cases.{the_some}
use Rattle.mg_model.specs.Gateway.{IsExecutedBy, IsKept}
use Rattle.mg_model.specs.Messages.{Request}
use Rattle.shards.specs.Messages.{AreNumberedFrom, Messages, Places, WasSent, note_numbers}
use Rattle.gateway.specs.declared.answer.Answer.TheVariants.{Executed}
use Rattle.gateway.specs.Answers.{IsAnswered}
use Rattle.gateway.specs.GatewayValue.{gateway_of}
use Rattle.shards.proofs.GatewayLemmas.{few_notes, notes_numbered, reply_kept, reply_number}
use Rattle.shards.proofs.RecordLemmas.{found_again, was_sent}
use Rattle.shards.specs.CallRecords.{request_in}
use Rattle.shards.proofs.at_gateway.execute.Goals as goal

pub answer-requires : goal.answer-requires
answer-requires c =
    subst (λ (m : Messages). WasSent m c.in-Executed.reply.number) (sym c.room_for_notes.ensures.same)
    (subst (WasSent c.args.call_record.now.messages.sent) (sym sent.0 ∙ sym (reply_number _ _ _ _ _ _ executed)) sent.1)
  where
    found : request_in c.args.call_record.now (Some c.args.number) ≡ Some c.in-Some-request.sent.now
    found = found_again c.args.call_record.now c.room_for_notes.new.self c.args.number c.request-2.result c.in-Some-request.sent
        c.room_for_notes.ensures.same c.request-2.ensures c.in-Some-request.is

    sent : (c.in-Some-request.sent.now.number ≡ c.args.number) × WasSent c.args.call_record.now.messages.sent c.args.number
    sent = was_sent c.args.call_record.now c.requires.tied c.args.number c.in-Some-request.sent.now found

    executed : IsExecutedBy (gateway_of c.args.gateway.now) c.in-Some-request.sent.now c.args.refusal (gateway_of c.execute.new.self) c.in-Executed.reply c.in-Executed.notes.items
    executed = (subst (IsAnswered c.args.gateway.now c.args.call.0 c.in-Some-request.sent.now c.args.refusal c.execute.new.self) c.in-Executed.is c.execute.ensures).1.0

pub raise-requires-clause-room : goal.raise-requires-clause-room
raise-requires-clause-room c =
    let few : length c.in-Executed.notes.items ≤ length c.in-Some-request.sent.now.commands = few_notes _ _ _ _ _ _ answered.1.0 in
    let same : length c.in-Some-request.sent.now.commands ≡ length c.in-Some.sent.now.commands =
    ap (λ (r : Request). length r.commands) (sym (the_some c.in-Some.sent.now c.in-Some-request.sent.now (sym first_found ∙ found))) in
    let kept : length c.answer.new.self.sent.notes ≡ length c.room_for_notes.new.self.sent.notes = ap (λ (m : Messages). length m.notes) c.answer.ensures.sent in
    let places : c.answer.new.self.places.notes ≡ c.room_for_notes.new.self.places.notes = ap (λ (p : Places). p.notes) c.answer.ensures.places in
    let told : length c.commands-commands.result.now ≡ length c.in-Some.sent.now.commands =
    sym (length-map c.commands-commands.result.now command_of) ∙ ap length c.commands-commands.ensures in
    let room : length c.room_for_notes.new.self.sent.notes + length c.commands-commands.result.now ≤ c.room_for_notes.new.self.places.notes = c.in-Ok.ensures.room in
    omega (arith, few, same, kept, places, told, room)
  where
    first_found : request_in c.args.call_record.now (Some c.args.number) ≡ Some c.in-Some.sent.now
    first_found = found_again c.args.call_record.now c.args.call_record.now.messages c.args.number c.request.result c.in-Some.sent refl c.request.ensures c.in-Some.is

    found : request_in c.args.call_record.now (Some c.args.number) ≡ Some c.in-Some-request.sent.now
    found = found_again c.args.call_record.now c.room_for_notes.new.self c.args.number c.request-2.result c.in-Some-request.sent
        c.room_for_notes.ensures.same c.request-2.ensures c.in-Some-request.is

    answered : IsAnswered c.args.gateway.now c.args.call.0 c.in-Some-request.sent.now c.args.refusal c.execute.new.self
        (Executed c.in-Executed.reply c.in-Executed.notes)
    answered = subst (IsAnswered c.args.gateway.now c.args.call.0 c.in-Some-request.sent.now c.args.refusal c.execute.new.self) c.in-Executed.is c.execute.ensures

pub raise-requires-clause-numbered : goal.raise-requires-clause-numbered
raise-requires-clause-numbered c =
    subst (λ n. AreNumberedFrom (n + 1) (note_numbers c.in-Executed.notes.items))
    (ap (λ call. ((gateway_of c.args.gateway.now).link call).notes) answered.0.1 ∙ c.requires.notes
    ∙ ap (λ (m : Messages). length m.notes) (sym c.room_for_notes.ensures.same) ∙ ap (λ (m : Messages). length m.notes) (sym c.answer.ensures.sent))
    (notes_numbered _ _ _ _ _ _ answered.1.0)
  where
    first_found : request_in c.args.call_record.now (Some c.args.number) ≡ Some c.in-Some.sent.now
    first_found = found_again c.args.call_record.now c.args.call_record.now.messages c.args.number c.request.result c.in-Some.sent refl c.request.ensures c.in-Some.is

    found : request_in c.args.call_record.now (Some c.args.number) ≡ Some c.in-Some-request.sent.now
    found = found_again c.args.call_record.now c.room_for_notes.new.self c.args.number c.request-2.result c.in-Some-request.sent
        c.room_for_notes.ensures.same c.request-2.ensures c.in-Some-request.is

    answered : IsAnswered c.args.gateway.now c.args.call.0 c.in-Some-request.sent.now c.args.refusal c.execute.new.self
        (Executed c.in-Executed.reply c.in-Executed.notes)
    answered = subst (IsAnswered c.args.gateway.now c.args.call.0 c.in-Some-request.sent.now c.args.refusal c.execute.new.self) c.in-Executed.is c.execute.ensures

pub answer-requires-in-Kept : goal.answer-requires-in-Kept
answer-requires-in-Kept c =
    subst (λ (m : Messages). WasSent m c.in-Kept.reply.number) (sym c.room_for_notes.ensures.same)
    (subst (WasSent c.args.call_record.now.messages.sent) (sym sent.0 ∙ sym (reply_kept (gateway_of c.args.gateway.now) c.in-Some-request.sent.now c.in-Kept.reply is_kept)) sent.1)
  where
    found : request_in c.args.call_record.now (Some c.args.number) ≡ Some c.in-Some-request.sent.now
    found = found_again c.args.call_record.now c.room_for_notes.new.self c.args.number c.request-2.result c.in-Some-request.sent
        c.room_for_notes.ensures.same c.request-2.ensures c.in-Some-request.is

    sent : (c.in-Some-request.sent.now.number ≡ c.args.number) × WasSent c.args.call_record.now.messages.sent c.args.number
    sent = was_sent c.args.call_record.now c.requires.tied c.args.number c.in-Some-request.sent.now found

    is_kept : IsKept (gateway_of c.args.gateway.now) c.in-Some-request.sent.now c.in-Kept.reply
    is_kept = (subst (IsAnswered c.args.gateway.now c.args.call.0 c.in-Some-request.sent.now c.args.refusal c.execute.new.self) c.in-Kept.is c.execute.ensures).1.0
