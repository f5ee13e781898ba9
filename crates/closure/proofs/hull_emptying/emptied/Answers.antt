-- All are subtracted of what is put out.
use Rattle.std.proofs.Common.{◌∙◌, ap}
use Rattle.mg_model.specs.declared.commands.Command.TheVariants.{SubtractAll}
use Rattle.closure.specs.Placing.{unsettled}
use Rattle.closure.proofs.hull_emptying.emptied.Goals as goal

pub returns : goal.returns
returns c = c.unsettled.ensures ∙ ap (unsettled c.args.script.now (SubtractAll c.args.context)) c.out_each-out.ensures
