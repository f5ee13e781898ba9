-- Reading the items of an array one after the other, and the keys of a table.
use Rattle.std.proofs.Common.{◌≡◌, ℕ, List, [], ◌∷◌, ◌++◌, map, Option, Some, None, refl, sym, ap, ◌∙◌, String, Global, Bor, string_bytes}
use Rattle.std.proofs.lemmas.List.{append-nil}
use Rattle.std.specs.Prelude.{◌&&◌}
use Rattle.std.specs.List.{list_all}
use Rattle.std.specs.Map.Iter.{deref_pair}
use Rattle.toml.specs.Data.{Data, Items, no_items, item}
use Rattle.toml.specs.declared.value.Value.{Value}
use Rattle.toml.specs.View.{members_view}
use Rattle.typed_values.specs.declared.missing.Missing.{Missing}
use Rattle.typed_values.specs.declared.missing.Missing.TheVariants.{Nothing, Memory}
use Rattle.typed_values.specs.Names.{is_among}
use Rattle.typed_values.specs.Shape.{◌>>=◌, Misses}
use Rattle.typed_values.proofs.Fronts.{with_front, regroup}
use Rattle.typed_values.specs.Keys.{items_of, has_only}

pub item_goes_on : {A : Type 0} (shape : Data → Option A) (front : List A) (d : Data) (ds : Items) (x : A) (total : Option (List A))
    → shape d ≡ Some x → with_front front (items_of shape (item d ds)) ≡ total → with_front (front ++ x ∷ []) (items_of shape ds) ≡ total
item_goes_on shape front d ds x total e so_far =
    let one : with_front front (items_of shape (item d ds)) ≡ with_front front (items_of shape ds >>= λ xs. Some (x ∷ xs)) = rw e refl in
    sym (regroup front x (items_of shape ds)) ∙ (sym one ∙ so_far)

pub item_misses : {A : Type 0} (shape : Data → Option A) (e : Missing) (front : List A) (d : Data) (ds : Items) (total : Option (List A))
    → Misses e (shape d) → with_front front (items_of shape (item d ds)) ≡ total → Misses e total
item_misses shape Memory front d ds total h so_far = tt
item_misses shape Nothing front d ds total h so_far =
    let one : with_front front (items_of shape (item d ds)) ≡ None = rw h refl in
    sym so_far ∙ one

pub items_done : {A : Type 0} (shape : Data → Option A) (front : List A) (total : Option (List A)) → with_front front (items_of shape no_items) ≡ total → total ≡ Some front
items_done shape front total so_far = sym so_far ∙ ap (λ ys. Some ys) (append-nil front)

-- the keys of the entries are the keys of the table
pub only-entries : (keys : List (List ℕ)) (ps : List (Bor (String Global) × Bor Value))
    → has_only keys (members_view (map deref_pair ps)) ≡ list_all (λ p. is_among (string_bytes p.0.now) keys) ps
only-entries keys [] = refl
only-entries keys (p ∷ ps) = ap (λ b. is_among (string_bytes p.0.now) keys && b) (only-entries keys ps)
