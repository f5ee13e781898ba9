-- What the entry has is of the state, and no component lost a value; so it has a point.
use Rattle.std.proofs.Common.{◌∙◌, sym, subst}
use Rattle.std.specs.List.{All}
use Rattle.mg_model.specs.Entries.{Allows, Entry, Includes}
use Rattle.configuration.specs.Config.{configuration_of}
use Rattle.entry_table.specs.Shown.{shown_all}
use Rattle.explanation.proofs.Widths.{some_points}
use Rattle.explanation.proofs.widened.widen.Goals as goal

pub new-requires-clause-some : goal.new-requires-clause-some
new-requires-clause-some c =
    some_points (configuration_of c.args.config.now) (shown_all c.in_ok-components.components.items) c.in_ok-components.ensures.have

pub returns-clause-keeps : goal.returns-clause-keeps
returns-clause-keeps c = λ d is.
    subst (λ (wide : Entry). Includes wide d) (sym c.in_ok-wide.ensures) (
      is.0 ∙ c.requires.state ∙ sym c.state.ensures,
      is.1,
      c.in_ok-components.ensures.keep d (subst (All (Allows d)) (sym c.components.ensures) is.2),
    )
