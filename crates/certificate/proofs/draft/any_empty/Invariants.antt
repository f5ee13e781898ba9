-- No component so far is empty.
use Rattle.std.proofs.Common.{◌≡◌, length, drop}
use Rattle.std.specs.Prelude.{◌==◌}
use Rattle.std.specs.List.{list_any}
use Rattle.entry_table.specs.Listed.{choices_of}
use Rattle.entry_table.specs.Shown.{shown_all}
use Rattle.certificate.proofs.draft.any_empty.Given as goal

abbrev pub invariant-loop-component : goal.invariant-loop-component
invariant-loop-component l =
    list_any (λ component. length (choices_of component) == 0) (shown_all (drop l.component-index l.components))
    ≡ list_any (λ component. length (choices_of component) == 0) (shown_all l.components)
