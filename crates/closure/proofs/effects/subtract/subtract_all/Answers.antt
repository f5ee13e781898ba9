-- One by one, the terminations of a context are subtracted together.
use Rattle.std.proofs.Common.{◌∙◌}
use Rattle.configuration.specs.Config.{configuration_of}
use Rattle.configuration.proofs.SlotLemmas.{absent_past_eight}
use Rattle.closure.proofs.SubtractLemmas.{subtracted_all}
use Rattle.closure.proofs.effects.subtract.subtract_all.Goals as goal

pub returns : goal.returns
returns c =
    c.subtract_each.ensures
    ∙ subtracted_all c.args.context (configuration_of c.args.config.now) (absent_past_eight c.args.config.now)
