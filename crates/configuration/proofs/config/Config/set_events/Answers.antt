-- A line has the list that its field says.
use Rattle.configuration.proofs.LineSetLemmas.{events-set}
use Rattle.configuration.proofs.config.Config.set_events.Goals as goal

pub returns : goal.returns
returns c =
    let put = rw (c.line_place.ensures.value, c.lines_word.ensures.value) at c.put-word.ensures in
    rw c.set_lines_word.ensures (events-set c.args.self.now c.put-word.result c.args.line _ c.args.events c.line_place.ensures.slot put (rw c.events_code.ensures.value c.events_code.ensures.back))
