-- Each kind by its own test.
use Rattle.std.proofs.Common.{sym, subst}
use Rattle.configuration.specs.Config.{configuration_of}
use Rattle.entry_table.specs.declared.component.Component.{Component as Code}
use Rattle.entry_table.specs.Shown.{shown, shown_all}
use Rattle.closure.specs.Counting.{KeepsWellformedness}
use Rattle.closure.proofs.formed_count.keeps_wellformedness.Goals as goal

pub returns-in-Modes : goal.returns-in-Modes
returns-in-Modes c holds =
    subst (λ (component : Code). KeepsWellformedness (shown_all c.args.rest.now) (configuration_of c.args.config.now) (shown component)) (sym c.in-Modes.is)
    (c.is_placed.ensures holds)

pub returns-in-Cuts : goal.returns-in-Cuts
returns-in-Cuts c holds =
    subst (λ (component : Code). KeepsWellformedness (shown_all c.args.rest.now) (configuration_of c.args.config.now) (shown component)) (sym c.in-Cuts.is)
    (c.stay_together.ensures holds)
