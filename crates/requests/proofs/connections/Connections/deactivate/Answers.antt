use Rattle.requests.proofs.IdleLemmas.{idle_answered}
use Rattle.requests.proofs.connections.Connections.deactivate.Goals as goal
use Rattle.requests.proofs.connections.Connections.deactivate.Goals.{in-Ok, in-Err-Code, in-Err-NoMemory}

pub returns-clause-board : goal.returns-clause-board
returns-clause-board c = idle_answered _ _ _ c.exec.result _ c.exec.ensures.executed c.exec.ensures.refused c.exec.ensures.unchanged
    (λ e. elim c.match-exec.branch [ in-Ok w ↦ cc (w.in-Ok.is, e) | in-Err-Code w ↦ cc (w.in-Err-Code.is, w.in-Err-Code.field-0-is, e) | in-Err-NoMemory w ↦ w.result-is ])
