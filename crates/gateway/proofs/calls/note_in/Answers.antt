use Rattle.gateway.proofs.CreatedLemmas.{noted_nowhere, noted_there}
use Rattle.gateway.proofs.calls.note_in.Goals as goal

pub returns-in_default : goal.returns-in_default
returns-in_default c = noted_nowhere c.args.entry.now c.args.results.now _ c.in_default.is

pub returns : goal.returns
returns c = noted_there c.args.entry.now c.in-Some.call c.note_created.new.self c.args.results.now c.note_created.result c.in-Some.is c.note_created.ensures.rest
    c.note_created.ensures.kept c.note_created.ensures.noted
