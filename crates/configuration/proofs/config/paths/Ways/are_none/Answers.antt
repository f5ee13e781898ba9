-- A word without a bit.
use Rattle.configuration.proofs.WayLemmas.{none_joined}
use Rattle.configuration.proofs.config.paths.Ways.are_none.Goals as goal

pub returns : goal.returns
returns c holds config ways i j hi hj joined = none_joined config c.args.self.now (rw c.lines.ensures at holds) ways i j hi hj joined
