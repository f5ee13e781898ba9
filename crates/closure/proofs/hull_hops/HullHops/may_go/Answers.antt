-- No path leads out of where media may have arrived.
use Rattle.std.proofs.Common.{◌∙◌, sym}
use Rattle.closure.proofs.HullPaths.{no_path}
use Rattle.closure.proofs.hull_hops.HullHops.may_go.Goals as goal

pub returns : goal.returns
returns c never d inside =
    no_path c.args.self.now d inside c.args.from c.args.to c.next-arrived.result
    (sym c.is_closed.ensures ∙ c.if-not-is_closed.false) (sym c.may_reach.ensures ∙ never)
