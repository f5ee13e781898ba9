-- It is so of one termination more; then of all.
use Rattle.std.proofs.Common.{◌≡◌, ◌∙◌, List, length, map, Contains, sym, ap, subst, arith}
use Rattle.std.proofs.lemmas.List.{take_all}
use Rattle.mg_model.specs.declared.commands.Termination.{Termination}
use Rattle.configuration.specs.Config.{configuration_of}
use Rattle.closure.specs.Emptying.{StandsInEach}
use Rattle.closure.proofs.ListsSoFar.{few_and_one, none_of_few}
use Rattle.closure.proofs.HullEmptying.{all_stand_in_each}
use Rattle.closure.proofs.hull_emptying.standing_in_each.Goals as goal

pub loop-termination-init : goal.loop-termination-init
loop-termination-init c =
    none_of_few (StandsInEach (map configuration_of c.args.hull.now) c.args.context (configuration_of c.args.one.now)) c.all_terminations-all.result

pub loop-termination-preserved : goal.loop-termination-preserved
loop-termination-preserved c =
    few_and_one (StandsInEach (map configuration_of c.args.hull.now) c.args.context (configuration_of c.stand_less.new.config))
    c.all_terminations-all.result c.loop-termination.termination-index c.termination-item.result (sym c.termination-item.is)
    (omega (arith, c.loop-termination-test.true, c.type_inv.termination-items))
    (λ t has here. c.loop-termination.invariant t has (c.stand_less.ensures.kept t here))
    (subst (StandsInEach (map configuration_of c.args.hull.now) c.args.context (configuration_of c.stand_less.new.config))
    (sym c.termination-item.is) c.stand_less.ensures.there)

pub returns : goal.returns
returns c =
    let many : length c.all_terminations-all.result ≡ 8 = ap length c.all_terminations-all.ensures in
    all_stand_in_each c.args.hull.now c.args.context c.loop-termination.config
    (subst (λ (all : List Termination). (t : Termination) → Contains all t
    → StandsInEach (map configuration_of c.args.hull.now) c.args.context (configuration_of c.loop-termination.config) t)
    (take_all c.loop-termination.termination-index c.all_terminations-all.result
    (omega (arith, c.loop-termination-test.false, many)) ∙ c.all_terminations-all.ensures) c.loop-termination.invariant)
