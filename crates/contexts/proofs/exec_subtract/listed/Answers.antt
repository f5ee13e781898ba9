use Rattle.contexts.proofs.ListsLemmas.{lists_keys}
use Rattle.contexts.proofs.exec_subtract.listed.Goals as goal

pub returns : goal.returns
returns c = rw c.in_ok-numbers.ensures.keys (lists_keys c.args.set.now c.in_ok-numbers.ensures.ordered)
