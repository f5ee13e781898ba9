-- A line plays where its bit is set.
use Rattle.configuration.proofs.LineSetLemmas.{plays-set}
use Rattle.configuration.proofs.config.Config.set_plays.Goals as goal

pub returns : goal.returns
returns c =
    let put = rw (c.line_place.ensures.value, c.lines_word.ensures.value) at c.put-word.ensures in
    rw c.set_lines_word.ensures (plays-set c.args.self.now c.put-word.result c.args.line _ c.args.plays c.line_place.ensures.slot put (rw c.flag_code.ensures.value c.flag_code.ensures.back))
