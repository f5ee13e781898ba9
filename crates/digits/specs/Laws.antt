-- The statement of the law of the grammar.
use Rattle.std.specs.Prelude.{◌≡◌, ℕ, List}
use Rattle.mg_model.specs.declared.positions.Position.{Position}
use Rattle.digits.specs.Grammar.{IsMap}

-- a text writes at most one list of alternatives
abbrev pub IsUnambiguous : Type 0
IsUnambiguous = (text : List ℕ) (one other : List (List Position)) → IsMap text one → IsMap text other → one ≡ other
