-- Each is made so.
use Rattle.std.proofs.Common.{rules}
use Rattle.std.proofs.lemmas.Result.{IfOk-weaker}
use Rattle.closure.specs.Placing.{valued_at}
use Rattle.closure.proofs.HullLemmas.{each_given}
use Rattle.closure.proofs.hull_contexts.valued_each.Goals as goal

pub returns : goal.returns
returns c =
    IfOk-weaker c.map.result _ _ (λ m all. each_given _ _ (valued_at c.args.context c.args.exists) c.args.hull.now m all (λ x y e. search rules)) c.map.ensures
