use Rattle.contexts.proofs.ListsLemmas.{line_leaves}
use Rattle.contexts.proofs.exec_subtract.line_taken_out.Goals as goal

pub returns : goal.returns
returns c = rw (c.in_ok-lines.ensures, c.new.ensures.items) (line_leaves c.args.line)
