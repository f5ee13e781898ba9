use Rattle.contexts.proofs.PathLemmas.{avoids_nothing}
use Rattle.contexts.proofs.wiring.Wiring.path.Goals as goal

pub returns : goal.returns
returns c = (
  λ h. let way = c.goes.ensures.0 h in record { another = c.if-from-to.false; crossings = way.0; goes = way.2 },
  λ path. c.goes.ensures.1 (path.crossings, avoids_nothing path.crossings, path.goes),
)
