-- A write that took all of the line keeps the line's status.
use Rattle.check_lines.proofs.Told.{sent}
use Rattle.check_lines.proofs.telling.send.Goals as goal

pub returns-in-Ok-clause-line : goal.returns-in-Ok-clause-line
returns-in-Ok-clause-line g c = sent _ _ _ _ c.in-Ok.ensures.bytes
