-- What a fault says of the text that was refused, in the words of the grammar.
use Rattle.std.specs.Prelude.{◌≡◌, ℕ, List, false}
use Rattle.mg_model.specs.declared.positions.Position.{Position}
use Rattle.digits.specs.declared.fault.MapFault.{MapFault}
use Rattle.digits.specs.declared.fault.MapFault.TheVariants.{Empty, BadSymbol, BadRange, TooLong, NoMemory}
use Rattle.digits.specs.Grammar.{IsMap}
use Rattle.digits.specs.Reading.{fits}

-- the text isn't of the grammar
abbrev pub IsNoMap : List ℕ → Type 0
IsNoMap text = (alternatives : List (List Position)) → IsMap text alternatives → ⊥

-- the text is of the grammar, and what it writes is beyond the limits of this profile
pub record IsTooLong (text : List ℕ) : Type 0 where
  pub alternatives : List (List Position)
  pub is_map : IsMap text alternatives
  pub too_long : fits alternatives ≡ false

-- where memory ran out, nothing is known of the text
abbrev pub IsRefused : List ℕ → MapFault → Type 0
IsRefused text Empty = IsNoMap text
IsRefused text (BadSymbol at) = IsNoMap text
IsRefused text (BadRange at) = IsNoMap text
IsRefused text TooLong = IsTooLong text
IsRefused text NoMemory = Unit {0}
