-- Of four contexts it is looked up whether it may stand there.
use Rattle.std.proofs.Common.{◌∙◌, false, ap}
use Rattle.closure.specs.declared.hull_seen.Seen.{Seen}
use Rattle.closure.specs.Hops.{contexts_of, may_stand, seen_of}
use Rattle.closure.proofs.HullPaths.{at_four}
use Rattle.closure.proofs.hull_hops.HullHops.may_stand.Goals as goal

pub returns : goal.returns
unfolding contexts_of seen_of
returns c =
    at_four (may_stand c.args.self.now c.args.termination.now) c.seen_of.result.contexts c.index.result false
    (ap (λ (seen : Seen). seen.contexts) c.seen_of.ensures) c.index.ensures.small
    ∙ ap (may_stand c.args.self.now c.args.termination.now) c.index.ensures.value
