-- The lines are the script's, and the pairs those of the entry's state.
use Rattle.std.proofs.Common.{ap, sym, ◌∙◌}
use Rattle.mg_model.specs.Tables.{state_of}
use Rattle.closure.proofs.MarkLemmas.{all_may_talk}
use Rattle.closure.proofs.marks.may_all_talk.Goals as goal

pub returns : goal.returns
returns c all =
    all_may_talk c.args.script.now c.args.entry.now.state c.lines-lines.result c.talk_of-talk.result.now c.lines-lines.ensures.value c.lines-lines.ensures.few
    (c.talk_of-talk.ensures ∙ ap (λ state. (state_of c.args.script.now state).talk) c.state.ensures)
    (sym c.marks_every_pair.ensures ∙ all)
