-- It stands there in each.
use Rattle.std.proofs.Common.{IsTrue, true, rules}
use Rattle.mg_model.specs.Configuration.{Configuration, is_in}
use Rattle.closure.proofs.HullLemmas.{each_passed}
use Rattle.closure.proofs.hull_contexts.does_each_stand.Goals as goal

pub returns : goal.returns
returns c holds =
    each_passed _ _ true (λ (d : Configuration). IsTrue (is_in (d.spot c.args.termination.now) c.args.context)) c.args.hull.now (c.all.ensures holds)
    (λ x e. search rules)
