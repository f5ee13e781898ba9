-- One that stands there in each does so in all.
use Rattle.std.proofs.Common.{◌≡◌, List, length, map, IsTrue, Contains, sym, ap, subst, arith}
use Rattle.mg_model.specs.declared.commands.Termination.{Termination}
use Rattle.mg_model.specs.Configuration.{Configuration, is_in}
use Rattle.configuration.specs.Config.{configuration_of}
use Rattle.closure.proofs.HullPlaces.{one_stands}
use Rattle.closure.proofs.hull_contexts.does_one_stand.Goals as goal

pub returns-then-does_each_stand : goal.returns-then-does_each_stand
returns-then-does_each_stand c holds d inside =
    let many : length c.all_terminations-all.result ≡ 8 = ap length c.all_terminations-all.ensures in
    one_stands (map configuration_of c.args.hull.now) c.args.context d inside c.termination-item.result
    (subst (λ (all : List Termination). Contains all c.termination-item.result) c.all_terminations-all.ensures
    (c.loop-termination.termination-index, omega (arith, c.loop-termination-test.true, many), sym c.termination-item.is))
    (subst (λ (t : Termination). (e : Configuration) → Contains (map configuration_of c.args.hull.now) e → IsTrue (is_in (e.spot t) c.args.context))
    (sym c.termination-item.is) (c.does_each_stand.ensures c.if-does_each_stand.true))
