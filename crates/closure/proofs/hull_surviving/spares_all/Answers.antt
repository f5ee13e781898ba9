-- Who stands there isn't who is taken.
use Rattle.std.proofs.Common.{map, sym, subst}
use Rattle.mg_model.specs.declared.commands.Command.{Command}
use Rattle.mg_model.specs.declared.commands.Termination.TheVariants.{Line, Ephemeral}
use Rattle.configuration.specs.Config.{configuration_of}
use Rattle.closure.specs.Surviving.{SparesAll}
use Rattle.closure.proofs.HullSurviving.{is_other, is_other_turned}
use Rattle.closure.proofs.hull_surviving.spares_all.Goals as goal

pub returns-in-AddLine : goal.returns-in-AddLine
returns-in-AddLine c holds =
    subst (λ (command : Command). SparesAll (map configuration_of c.args.hull.now) c.args.name command) (sym c.in-AddLine.is)
    (is_other (map configuration_of c.args.hull.now) c.args.name (Line c.in-AddLine.line) (c.is_nowhere.ensures holds))

pub returns-in-AddEphemeral : goal.returns-in-AddEphemeral
returns-in-AddEphemeral c holds =
    subst (λ (command : Command). SparesAll (map configuration_of c.args.hull.now) c.args.name command) (sym c.in-AddEphemeral.is)
    (is_other (map configuration_of c.args.hull.now) c.args.name (Ephemeral c.in-AddEphemeral.ephemeral) (c.is_nowhere-in-AddEphemeral.ensures holds))

pub returns-in-MoveLine : goal.returns-in-MoveLine
returns-in-MoveLine c holds =
    subst (λ (command : Command). SparesAll (map configuration_of c.args.hull.now) c.args.name command) (sym c.in-MoveLine.is)
    (is_other (map configuration_of c.args.hull.now) c.args.name (Line c.in-MoveLine.line) (c.is_nowhere-in-MoveLine.ensures holds))

pub returns-in-MoveEphemeral : goal.returns-in-MoveEphemeral
returns-in-MoveEphemeral c holds =
    subst (λ (command : Command). SparesAll (map configuration_of c.args.hull.now) c.args.name command) (sym c.in-MoveEphemeral.is)
    (is_other (map configuration_of c.args.hull.now) c.args.name (Ephemeral c.in-MoveEphemeral.ephemeral) (c.is_nowhere-in-MoveEphemeral.ensures holds))

pub returns-in-Subtract : goal.returns-in-Subtract
returns-in-Subtract c holds =
    subst (λ (command : Command). SparesAll (map configuration_of c.args.hull.now) c.args.name command) (sym c.in-Subtract.is)
    (is_other_turned (map configuration_of c.args.hull.now) c.args.name c.in-Subtract.termination (c.is_nowhere-in-Subtract.ensures holds))
