use Rattle.std.proofs.Common.{sym}
use Rattle.contexts.proofs.ListsLemmas.{lists_same}
use Rattle.gateway.proofs.gateway.Gateway.lines.Goals as goal

pub returns : goal.returns
returns c = rw (← c.self.view_is) (lists_same _ _ _ (λ l. sym (c.self.invariant.lines l)) c.in_ok-lines.ensures)
