-- Of four ephemerals it is looked up which of four their Remotes may name.
use Rattle.closure.proofs.HullPaths.{named_at}
use Rattle.closure.proofs.hull_hops.HullHops.may_name.Goals as goal

pub returns : goal.returns
returns c =
    named_at c.self.inside.hull.now c.args.self.now c.self.inside.names c.args.ephemeral c.args.other c.index.result c.index-2.result
    c.self.invariant.remotes c.self.view_is c.index.ensures.value c.index-2.ensures.value c.index.ensures.small c.index-2.ensures.small
