use Rattle.std.proofs.Common.{refl}
use Rattle.contexts.proofs.ListsLemmas.{lists_same}
use Rattle.contexts.proofs.exec_subtract.taken_out.Goals as goal

pub returns : goal.returns
returns c = record {
  context = refl;
  ephemeral = refl;
  lines = rw (c.in_ok-lines.ensures, c.as_slice.ensures.value) (lists_same _ _ _ c.in_ok-line_set.ensures c.in_ok-numbers.ensures);
  ephemerals = lists_same _ _ _ c.in_ok-ephemeral_set.ensures c.in_ok-ephemerals.ensures;
}
