-- A value is added where the component doesn't allow the configuration's.
use Rattle.std.proofs.Common.{◌≡◌, ◌+◌, not, if◌then◌else◌}
use Rattle.configuration.specs.Config.{configuration_of}
use Rattle.mg_model.specs.Entries.{Component as Listed}
use Rattle.entry_table.specs.Shown.{shown}
use Rattle.entry_table.specs.declared.component.Component.{Component}
use Rattle.explanation.specs.Alone.{IsWidened, count_of}
use Rattle.explanation.proofs.Widths.{if_ok, widened_by}
use Rattle.explanation.proofs.widened.widened_component.Goals as goal

pub returns-clause-counts : goal.returns-clause-counts
returns-clause-counts c =
    let C = configuration_of c.args.config.now in
    let component : Listed = shown c.args.component.now in
    if_ok c.component_with.result
    (λ (wide : Component). count_of (shown wide) ≡ count_of component + (if not c.allows.result then 1 else 0))
    (λ (wide : Component). IsWidened C component (count_of (shown wide)))
    (λ wide is. widened_by C component c.allows.result (count_of (shown wide)) c.allows.ensures is)
    c.component_with.ensures.counts
