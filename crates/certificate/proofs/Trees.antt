-- A tree's arrays and objects beside the lists of the code.
use Rattle.std.proofs.Common.{◌≡◌, ◌∙◌, ℕ, List, [], ◌∷◌, Option, Some, map, refl, sym, ap, Bor, String, Global, string_bytes}
use Rattle.std.specs.Prelude.{◌&&◌}
use Rattle.std.specs.List.{list_all}
use Rattle.std.specs.Map.{keys_of}
use Rattle.serde_json.specs.Data.{Data}
use Rattle.std.specs.Map.Iter.{deref_pair}
use Rattle.serde_json.specs.Find.{as_array, as_object}
use Rattle.serde_json.specs.View.{view, items_view, members_view}
use Rattle.serde_json.specs.declared.value.Value.{Value}
use Rattle.typed_values.specs.Names.{is_among}
use Rattle.typed_values.specs.Shape.{each, ◌>>=◌}
use Rattle.certificate.specs.Keys.{items_of, row_of, rows_of, list_of, table_of, are_keys}

pub keys_checked : (keys : List (List ℕ)) (es : List (String Global × Value))
    → list_all (λ key. is_among (string_bytes key) keys) (keys_of es) ≡ are_keys keys (members_view es)
keys_checked keys [] = refl
keys_checked keys (e ∷ es) = ap (λ b. is_among (string_bytes e.0) keys && b) (keys_checked keys es)

-- a member of the code as a member of the tree
abbrev pub member_seen : String Global × Value → List ℕ × Data
member_seen e = (string_bytes e.0, view e.1)

module _ {A : Type 0} (shape : Data → Option A) where
  pub items_each : (vs : List Value) → items_of shape (items_view vs) ≡ each (λ v. shape (view v)) vs
  items_each [] = refl
  items_each (v ∷ vs) = ap (λ o. shape (view v) >>= λ x. o >>= λ xs. Some (x ∷ xs)) (items_each vs)

  pub rows_each : (es : List (String Global × Value)) → rows_of shape (members_view es) ≡ each (λ e. row_of shape (member_seen e)) es
  rows_each [] = refl
  rows_each (e ∷ es) = ap (λ o. row_of shape (member_seen e) >>= λ row. o >>= λ rows. Some (row ∷ rows)) (rows_each es)

  -- an array is read item by item
  pub list_read : (d : Data) (vs : List Value) (o : Option (List A)) → Some (items_view vs) ≡ as_array d
      → each (λ v. shape (view v)) vs ≡ o → list_of shape d ≡ o
  list_read d vs o is read = ap (λ a. a >>= items_of shape) (sym is) ∙ items_each vs ∙ read

  each-deref : (ps : List (Bor (String Global) × Bor Value)) → each (λ e. row_of shape (member_seen e)) (map deref_pair ps) ≡ each (λ p. row_of shape (member_seen (deref_pair p))) ps
  each-deref [] = refl
  each-deref (p ∷ ps) = ap (λ o. row_of shape (member_seen (deref_pair p)) >>= λ x. o >>= λ xs. Some (x ∷ xs)) (each-deref ps)

  -- an object with free keys is read member by member
  pub table_read : (d : Data) (es : List (String Global × Value)) (ps : List (Bor (String Global) × Bor Value)) (o : Option (List (List ℕ × A)))
      → as_object d ≡ Some (members_view es) → map deref_pair ps ≡ es
      → each (λ p. row_of shape (member_seen (deref_pair p))) ps ≡ o → table_of shape d ≡ o
  table_read d es ps o is same read =
      ap (λ m. m >>= rows_of shape) is ∙ rows_each es ∙ ap (each (λ e. row_of shape (member_seen e))) (sym same) ∙ each-deref ps ∙ read
