use Rattle.std.proofs.Common.{subst, sym}
use Rattle.contexts.specs.BoardValue.{board_of}
use Rattle.line_events.specs.Rows.{row_of}
use Rattle.requests.specs.Connected.{IsMatched}
use Rattle.requests.proofs.CommandLemmas.{matched}
use Rattle.requests.proofs.connections.Connections.exec.Goals as goal

pub invariant_of-self : goal.invariant_of-self
invariant_of-self c =
    matched _ _ _ c.exec.result (row_of c.self.inside.lines.value) c.exec.ensures.executed c.exec.ensures.unchanged
    (subst (λ b. IsMatched (board_of b) (row_of c.self.inside.lines.value)) (sym c.deref_mut.ensures.value) c.self.invariant)
