-- A line stands where its field says.
use Rattle.configuration.proofs.LineSetLemmas.{line_spot-set}
use Rattle.configuration.proofs.config.Config.set_line_spot.Goals as goal

pub returns : goal.returns
returns c =
    let put = rw (c.line_place.ensures.value, c.lines_word.ensures.value) at c.put-word.ensures in
    rw c.set_lines_word.ensures (line_spot-set c.args.self.now c.put-word.result c.args.line _ c.args.spot c.line_place.ensures.slot put (rw c.line_spot_code.ensures.value c.line_spot_code.ensures.back))
