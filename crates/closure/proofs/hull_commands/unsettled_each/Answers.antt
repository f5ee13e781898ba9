-- All leave a context, or each component goes its way by itself.
use Rattle.std.proofs.Common.{map, sym, subst, rules}
use Rattle.std.proofs.lemmas.Result.{IfOk-weaker}
use Rattle.std.specs.Prelude.{IfOk}
use Rattle.mg_model.specs.declared.commands.Command.{Command}
use Rattle.configuration.specs.Config.{configuration_of}
use Rattle.closure.specs.Emptying.{AreMade}
use Rattle.closure.specs.Placing.{unsettled}
use Rattle.closure.proofs.HullEffects.{each_made}
use Rattle.closure.proofs.HullLemmas.{each_given}
use Rattle.closure.proofs.hull_commands.unsettled_each.Goals as goal

pub returns-in-Some : goal.returns-in-Some
returns-in-Some c =
    subst (λ (command : Command). IfOk c.all_emptied.result (λ m. AreMade c.args.script.now (map configuration_of c.args.hull.now) command (map configuration_of m)))
    (sym c.in-Some.ensures.some) c.all_emptied.ensures

pub returns-in-None : goal.returns-in-None
returns-in-None c =
    IfOk-weaker c.map.result _ _ (λ m all.
    each_made c.args.script.now (map configuration_of c.args.hull.now) c.args.command.now c.in-None.ensures.none (map configuration_of m)
    (each_given _ _ (unsettled c.args.script.now c.args.command.now) c.args.hull.now m all (λ x y e. search rules))) c.map.ensures
