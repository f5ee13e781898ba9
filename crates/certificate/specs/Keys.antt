-- What stands at the keys of a certificate's objects, as a shape reads it. A reader should check which keys may be left
-- out, and that an object with another key than those of its shape has a bad key.
use Rattle.std.specs.Prelude.{◌≡◌, ℕ, List, [], ◌∷◌, Bool, true, false, ◌&&◌, Option, Some, option_map, Result, Ok, Err}
use Rattle.std.specs.Option.{option_map_or}
use Rattle.serde_json.specs.Data.{Data, Items, no_items, item, Members, no_members, member}
use Rattle.serde_json.specs.Find.{get, as_array, as_object}
use Rattle.typed_values.specs.declared.missing.Missing.{Missing}
use Rattle.typed_values.specs.declared.missing.Missing.TheVariants.{Nothing, Memory}
use Rattle.typed_values.specs.Names.{is_among}
use Rattle.typed_values.specs.Shape.{◌>>=◌, needed_at, optional_at, listed_at}

module _ {A : Type 0} (shape : Data → Option A) where
  -- each item of an array
  abbrev pub items_of : Items → Option (List A)
  items_of no_items = Some []
  items_of (item d ds) = shape d >>= λ x. items_of ds >>= λ xs. Some (x ∷ xs)

  -- an array
  abbrev pub list_of : Data → Option (List A)
  list_of d = as_array d >>= items_of

  -- a member of an object whose keys are free
  abbrev pub row_of : List ℕ × Data → Option (List ℕ × A)
  row_of m = option_map (λ x. (m.0, x)) (shape m.1)

  -- each member of an object whose keys are free
  abbrev pub rows_of : Members → Option (List (List ℕ × A))
  rows_of no_members = Some []
  rows_of (member key d ms) = row_of (key, d) >>= λ row. rows_of ms >>= λ rows. Some (row ∷ rows)

  -- an object whose keys are free
  abbrev pub table_of : Data → Option (List (List ℕ × A))
  table_of d = as_object d >>= rows_of

  -- the value at a key that has to be there
  abbrev pub needed : List ℕ → Data → Option A
  needed key d = needed_at shape (get key d)

  -- the value at a key that may be left out
  abbrev pub optional : List ℕ → Data → Option (Option A)
  optional key d = optional_at shape (get key d)

  -- the object with free keys at a key, empty where it is left out
  abbrev pub tabled : List ℕ → Data → Option (List (List ℕ × A))
  tabled key d = listed_at table_of (get key d)

-- each key is one of these
abbrev pub are_keys : List (List ℕ) → Members → Bool
are_keys keys no_members = true
are_keys keys (member key d ms) = is_among key keys && are_keys keys ms

-- an object that has no other keys than these
abbrev pub has_only : List (List ℕ) → Data → Bool
has_only keys d = option_map_or (are_keys keys) (as_object d) false

-- a bad key where the test does not hold
abbrev pub Expects : Result (Unit {0}) Missing → Bool → Type 0
Expects (Ok x) test = test ≡ true
Expects (Err Nothing) test = test ≡ false
Expects (Err Memory) test = ⊥
