-- What the entry has is of the state, and no component lost a value; none got one, so there are as many points.
use Rattle.std.proofs.Common.{◌≡◌, ◌∙◌, sym, subst, ap, arith}
use Rattle.std.specs.List.{All}
use Rattle.mg_model.specs.Entries.{Allows, Entry, Includes, size_of}
use Rattle.configuration.specs.Config.{configuration_of}
use Rattle.entry_table.specs.Shown.{shown_all}
use Rattle.explanation.specs.Alone.{HasAllOf}
use Rattle.explanation.proofs.Widths.{as_many, if_ok, some_points}
use Rattle.explanation.proofs.widened.whole.Goals as goal

pub new-requires-clause-some : goal.new-requires-clause-some
new-requires-clause-some c =
    some_points (configuration_of c.args.config.now) (shown_all c.in_ok-components.components.items) c.in_ok-components.ensures.have

pub new-requires-clause-within : goal.new-requires-clause-within
new-requires-clause-within c =
    let C = configuration_of c.args.config.now in
    let all : All (Allows C) (shown_all c.components.result.now) = subst (All (Allows C)) (sym c.components.ensures) c.requires.2 in
    let same = as_many C (shown_all c.components.result.now) (size_of (shown_all c.in_ok-components.components.items)) all c.in_ok-components.ensures.sizes in
    let before = ap size_of c.components.ensures in
    omega (arith, same, before, c.size-size.ensures.size, c.size-size.type_inv)

pub returns-clause-keeps : goal.returns-clause-keeps
returns-clause-keeps c =
    if_ok c.new.result
    (λ (copy : Entry). copy ≡ record { state = c.state.result; lines = c.lines.result; components = shown_all c.in_ok-components.components.items })
    (λ (copy : Entry). HasAllOf copy c.args.entry.now)
    (λ copy is d has.
    subst (λ (e : Entry). Includes e d) (sym is) (
      has.0 ∙ sym c.state.ensures,
      has.1,
      c.in_ok-components.ensures.keep d (subst (All (Allows d)) (sym c.components.ensures) has.2),
    ))
    c.new.ensures
