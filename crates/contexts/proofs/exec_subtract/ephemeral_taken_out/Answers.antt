use Rattle.contexts.proofs.ListsLemmas.{ephemeral_leaves}
use Rattle.contexts.proofs.exec_subtract.ephemeral_taken_out.Goals as goal

pub returns : goal.returns
returns c = rw (c.in_ok-ephemerals.ensures, c.new.ensures.items) (ephemeral_leaves c.args.number)
