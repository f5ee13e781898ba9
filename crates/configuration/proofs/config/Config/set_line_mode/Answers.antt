-- A line has the mode that its field says.
use Rattle.configuration.proofs.LineSetLemmas.{line_mode-set}
use Rattle.configuration.proofs.config.Config.set_line_mode.Goals as goal

pub returns : goal.returns
returns c =
    let put = rw (c.line_place.ensures.value, c.lines_word.ensures.value) at c.put-word.ensures in
    rw c.set_lines_word.ensures (line_mode-set c.args.self.now c.put-word.result c.args.line _ c.args.mode c.line_place.ensures.slot put (rw c.mode_code.ensures.value c.mode_code.ensures.back))
