-- Components without their values: one more behind some.
use Rattle.std.proofs.Common.{◌≡◌, ◌∙◌, ◌++◌, ◌∷◌, [], List, map, ap}
use Rattle.std.proofs.lemmas.List.{map-append}
use Rattle.entry_table.specs.declared.component.Component as declared
use Rattle.entry_table.specs.Shown.{shown, shown_all}
use Rattle.explanation.specs.Alone.{bare, bare_all}

pub bare_more : (xs : List declared.Component) (x : declared.Component) → bare_all (xs ++ x ∷ []) ≡ bare_all xs ++ bare (shown x) ∷ []
bare_more xs x = ap (map bare) (map-append shown xs (x ∷ [])) ∙ map-append bare (shown_all xs) (shown x ∷ [])
