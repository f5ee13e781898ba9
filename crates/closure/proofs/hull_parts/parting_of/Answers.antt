-- An entry that allows each of one configuration allows that, and so each of its components does.
use Rattle.std.proofs.Common.{List, Contains, refl, subst, sym, zero, arith}
use Rattle.std.proofs.lemmas.List.Elements.{All-contains}
use Rattle.std.specs.List.{All}
use Rattle.mg_model.specs.Entries.{Allows}
use Rattle.configuration.specs.Config.{configuration_of}
use Rattle.configuration.specs.Packed.{Words}
use Rattle.entry_table.specs.Shown.{shown}
use Rattle.closure.proofs.hull_parts.parting_of.Goals as goal

pub returns-clause-parts : goal.returns-clause-parts
returns-clause-parts c =
    let one = c.in_ok-one.one.now in
    let entry = c.in_ok-entry.entry.now in
    let allowed : All (Allows (configuration_of one)) entry.components =
    (c.in_ok-entry.ensures.allows one
    (subst (λ (words : List Words). Contains words one) (sym c.from_ref.ensures.value) (zero, omega arith, refl))).1 in (
      All-contains (Allows (configuration_of one)) entry.components (shown c.in_ok-component.component.now) allowed c.in_ok-component.ensures.0,
      c.in_ok-component.ensures.1,
    )
