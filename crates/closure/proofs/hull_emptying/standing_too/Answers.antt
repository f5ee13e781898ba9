-- It is so of one termination more; then of all.
use Rattle.std.proofs.Common.{◌≡◌, ◌∙◌, List, length, map, Contains, sym, ap, subst, arith}
use Rattle.std.proofs.lemmas.List.{take_all}
use Rattle.mg_model.specs.declared.commands.Termination.{Termination}
use Rattle.configuration.specs.Config.{configuration_of}
use Rattle.closure.specs.Emptying.{StandsToo}
use Rattle.closure.proofs.ListsSoFar.{few_and_one, none_of_few}
use Rattle.closure.proofs.HullEmptying.{all_stand_too}
use Rattle.closure.proofs.hull_emptying.standing_too.Goals as goal

pub loop-termination-init : goal.loop-termination-init
loop-termination-init c =
    none_of_few (StandsToo (map configuration_of c.args.hull.now) c.args.context (configuration_of c.args.one.now)) c.all_terminations-all.result

pub loop-termination-preserved : goal.loop-termination-preserved
loop-termination-preserved c =
    few_and_one (StandsToo (map configuration_of c.args.hull.now) c.args.context (configuration_of c.stand_too.new.config))
    c.all_terminations-all.result c.loop-termination.termination-index c.termination-item.result (sym c.termination-item.is)
    (omega (arith, c.loop-termination-test.true, c.type_inv.termination-items))
    (λ t has d inside here. c.stand_too.ensures.kept t (c.loop-termination.invariant t has d inside here))
    (subst (StandsToo (map configuration_of c.args.hull.now) c.args.context (configuration_of c.stand_too.new.config))
    (sym c.termination-item.is) c.stand_too.ensures.there)

pub returns : goal.returns
returns c =
    let many : length c.all_terminations-all.result ≡ 8 = ap length c.all_terminations-all.ensures in
    all_stand_too c.args.hull.now c.args.context (configuration_of c.loop-termination.config)
    (subst (λ (all : List Termination). (t : Termination) → Contains all t
    → StandsToo (map configuration_of c.args.hull.now) c.args.context (configuration_of c.loop-termination.config) t)
    (take_all c.loop-termination.termination-index c.all_terminations-all.result
    (omega (arith, c.loop-termination-test.false, many)) ∙ c.all_terminations-all.ensures) c.loop-termination.invariant)
