use Rattle.scriptreader.proofs.Signs.{split_is}
use Rattle.scriptreader.proofs.texts.split_once.Goals as goal

pub returns : goal.returns
returns c = split_is c.args.sign c.args.text.now c.split_once.result (c.split_once.ensures.byte c.requires (λ w o h. h))
