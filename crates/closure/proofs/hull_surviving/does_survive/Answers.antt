-- Somebody stands there, and nobody is taken out.
use Rattle.std.proofs.Common.{◌≡◌, List, true, map, subst, rules}
use Rattle.std.proofs.lemmas.List.{take_all}
use Rattle.std.proofs.lemmas.List.Elements.{All-more}
use Rattle.std.specs.List.{All}
use Rattle.mg_names.specs.declared.context_values.ContextValue.TheVariants.{Live}
use Rattle.mg_model.specs.declared.commands.Command.{Command}
use Rattle.mg_model.specs.Configuration.{Configuration}
use Rattle.configuration.specs.Config.{configuration_of}
use Rattle.closure.specs.Surviving.{SparesAll}
use Rattle.closure.proofs.HullLemmas.{each_passed}
use Rattle.closure.proofs.HullSurviving.{exists_live, context_survives}
use Rattle.closure.proofs.hull_surviving.does_survive.Goals as goal

pub loop-command-preserved : goal.loop-command-preserved
loop-command-preserved c =
    All-more (SparesAll (map configuration_of c.args.hull.now) c.args.name) c.args.commands.now c.loop-command.command-index c.command-item.result
    c.loop-command-test.true c.loop-command.invariant
    (subst (SparesAll (map configuration_of c.args.hull.now) c.args.name) c.command-item.is (c.spares_all.ensures c.if-not-spares_all.false))

pub returns : goal.returns
returns c holds =
    context_survives (map configuration_of c.args.hull.now) c.args.name c.args.commands.now
    (each_passed _ _ true (λ (d : Configuration). d.context c.args.name ≡ Live) c.args.hull.now (c.all.ensures c.if-not-all.false)
    (λ x e. exists_live _ (search rules)))
    (subst (λ (commands : List Command). All (SparesAll (map configuration_of c.args.hull.now) c.args.name) commands)
    (take_all c.loop-command.command-index c.args.commands.now c.loop-command-test.false) c.loop-command.invariant)
