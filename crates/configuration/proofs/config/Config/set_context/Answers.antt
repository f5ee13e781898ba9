-- A name stands for what its field says.
use Rattle.configuration.proofs.LineSetLemmas.{context-set}
use Rattle.configuration.proofs.config.Config.set_context.Goals as goal

pub returns : goal.returns
returns c =
    let put = rw (c.context_place.ensures.value, c.lines_word.ensures.value) at c.put-word.ensures in
    rw c.set_lines_word.ensures (context-set c.args.self.now c.put-word.result c.args.context _ c.args.value c.context_place.ensures.slot put (rw c.context_code.ensures.value c.context_code.ensures.back))
