-- The mode that is set.
use Rattle.std.proofs.Common.{◌∙◌, ap}
use Rattle.mg_names.specs.declared.modes.Mode.{Mode}
use Rattle.mg_model.specs.declared.commands.Termination.TheVariants.{Line}
use Rattle.mg_model.specs.Configuration.{Configuration, with_of}
use Rattle.configuration.specs.Config.{configuration_of}
use Rattle.call_ways.specs.Hearing.{only_out}
use Rattle.call_ways.proofs.hearing.muted.Goals as goal

pub returns : goal.returns
returns c =
    let before : Configuration = configuration_of c.args.config.now in
    c.set_mode.ensures
    ∙ ap (λ (m : Mode). record before { mode = with_of before.mode (Line c.args.line) m }) (c.only_out-mode.ensures ∙ ap only_out c.mode.ensures.value)
