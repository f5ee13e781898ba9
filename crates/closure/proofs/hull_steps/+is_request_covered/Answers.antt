-- The request has come to its end, or one command more is refused or done.
use Rattle.std.proofs.Common.{List, map, sym, subst, rules}
use Rattle.mg_model.specs.declared.commands.Command.{Command}
use Rattle.configuration.specs.Config.{configuration_of}
use Rattle.closure.specs.Found.{found}
use Rattle.closure.specs.Placing.{AreHullRequestsCovered}
use Rattle.closure.proofs.HullFound.{all_found}
use Rattle.closure.proofs.HullLemmas.{each_given}
use Rattle.closure.proofs.HullSteps.{request_goes_on, request_refused}
use Rattle.closure.proofs.hull_steps.+is_request_covered.Goals as goal

pub returns-then-is_refused : goal.returns-then-is_refused
returns-then-is_refused t c holds =
    subst (λ (request : List Command). AreHullRequestsCovered c.args.script.now c.args.cert.now (map configuration_of c.args.hull.now) c.args.surviving.now request)
    (sym c.in-Some.ensures.some)
    (request_refused c.args.script.now c.args.cert.now (map configuration_of c.args.hull.now) c.in-Some.command c.take_first.new.self c.args.surviving.now
    (c.is_linked-2.ensures c.if-not-is_linked.false) (c.is_refused.ensures c.if-is_refused.true))

pub returns : goal.returns
returns t c holds =
    subst (λ (request : List Command). AreHullRequestsCovered c.args.script.now c.args.cert.now (map configuration_of c.args.hull.now) c.args.surviving.now request)
    (sym c.in-Some.ensures.some)
    (request_goes_on c.args.script.now c.args.cert.now (map configuration_of c.args.hull.now) c.in-Some.command c.take_first.new.self
    c.args.surviving.now (map configuration_of c.in-Ok.there) (map configuration_of c.in-Some-led_by.after) (c.is_linked-2.ensures c.if-not-is_linked.false)
    (all_found (map configuration_of c.args.hull.now) c.in-Some.command (map configuration_of c.in-Ok.there)
    (each_given _ _ (found c.in-Some.command) c.args.hull.now c.in-Ok.there c.in-Ok.ensures (λ x y e. search rules))) c.in-Some-led_by.ensures
    (c.is_request_covered.ensures holds))
