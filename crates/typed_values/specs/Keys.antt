-- What stands at the keys of a TOML table, as a shape reads it. A reader should check which keys may be left out, and
-- that a table with another key than those of its shape has a bad key.
use Rattle.std.specs.Prelude.{ℕ, List, [], ◌∷◌, Bool, true, ◌&&◌, Option, Some}
use Rattle.toml.specs.Data.{Data, Items, no_items, item, Members, no_members, member, get_member, as_array}
use Rattle.typed_values.specs.Names.{is_among}
use Rattle.typed_values.specs.Shape.{◌>>=◌, needed_at, optional_at, listed_at}

module _ {A : Type 0} (shape : Data → Option A) where
  -- each item of an array
  abbrev pub items_of : Items → Option (List A)
  items_of no_items = Some []
  items_of (item d ds) = shape d >>= λ x. items_of ds >>= λ xs. Some (x ∷ xs)

  -- an array
  abbrev pub list_of : Data → Option (List A)
  list_of d = as_array d >>= items_of

  -- the value at a key that has to be there
  abbrev pub needed : List ℕ → Members → Option A
  needed key members = needed_at shape (get_member key members)

  -- the value at a key that may be left out
  abbrev pub optional : List ℕ → Members → Option (Option A)
  optional key members = optional_at shape (get_member key members)

  -- the array at a key, empty where it is left out
  abbrev pub listed : List ℕ → Members → Option (List A)
  listed key members = listed_at list_of (get_member key members)

-- the table has no other keys than these
abbrev pub has_only : List (List ℕ) → Members → Bool
has_only keys no_members = true
has_only keys (member key d ms) = is_among key keys && has_only keys ms
