-- None of those that are settled waits.
use Rattle.std.proofs.Common.{◌∙◌, drop, ap}
use Rattle.std.specs.List.{find}
use Rattle.std.proofs.lemmas.List.{take_rest}
use Rattle.mg_model.specs.Reports.{is_waiting}
use Rattle.agent.specs.AgentValue.{agent_of}
use Rattle.shards.proofs.SettledNotes.{found_later}
use Rattle.shards.proofs.meaning.oldest.Goals as goal

pub returns : goal.returns
returns c =
    c.first_waiting.ensures
    ∙ ap (find (is_waiting (agent_of c.args.call_record.now.agent))) (take_rest c.notes-notes.result.now c.args.call_record.now.settled)
    ∙ ap (λ notes. find (is_waiting (agent_of c.args.call_record.now.agent)) (drop c.args.call_record.now.settled notes)) c.notes-notes.ensures.notes
    ∙ found_later (agent_of c.args.call_record.now.agent) c.args.call_record.now.messages.sent.notes c.args.call_record.now.settled c.requires.settled
