-- What a table of names finds, before and after a name is added.
use Rattle.std.proofs.Common.{◌≡◌, ℕ, suc, ◌+◌, List, [], ◌∷◌, ◌++◌, length, Bool, true, false, cond, Option, Some, refl, sym, ap, ◌∙◌, arith}
use Rattle.std.specs.Prelude.{◌||◌, is_some, map}
use Rattle.std.specs.List.{list_any, position_from}
use Rattle.std.specs.Str.{bytes_eq}
use Rattle.std.specs.Borrow.{Bor}
use Rattle.std.specs.BTreeMap.{BTreeMap, UpdatesBy, get_by}
use Rattle.std.specs.Cmp.Lexicographic.{slice_cmp}
use Rattle.std.specs.Ordering.{nat_cmp}
use Rattle.std.proofs.lemmas.Iterator.Adapters.{position_from-zero}
use Rattle.std.proofs.lemmas.List.{map-append}
use Rattle.std.proofs.lemmas.Map.Text.{btree_map_updates_str}
use Rattle.std.proofs.lemmas.Slice.Eq.{bytes_eq-Decides}
use Rattle.typed_values.specs.Names.{is_among}
use Rattle.scriptreader.specs.Places.{ArePlacesIn}
use Rattle.script_table.specs.Table.{place_of}
use Rattle.scriptreader.proofs.BooleanTests.{or_left, or_right}

-- ---- whether there is a place

abbrev either : Bool → Bool → Bool
either a b = a || b

some_or : (b : Bool) (first : ℕ) (later : Option ℕ) → is_some (cond b (Some first) later) ≡ (b || is_some later)
some_or true first later = refl
some_or false first later = refl

some_from : (test : List ℕ → Bool) (first : ℕ) (names : List (List ℕ)) → is_some (position_from test first names) ≡ list_any test names
some_from test first [] = refl
some_from test first (name ∷ names) = some_or (test name) first (position_from test (first + 1) names) ∙ ap (either (test name)) (some_from test (first + 1) names)

pub placed : (name : List ℕ) (names : List (List ℕ)) → is_some (place_of name names) ≡ is_among name names
placed name names = ap (λ (place : Option ℕ). is_some place) (position_from-zero (λ other. bytes_eq name other) names) ∙ some_from (λ other. bytes_eq name other) 0 names

-- ---- the places after one more name

-- a text that is equal to the name is at none of the names that the name isn't among
differs : (text name other : List ℕ) → bytes_eq name text ≡ true → bytes_eq name other ≡ false → bytes_eq text other ≡ false
differs text name other same e = ap (λ (t : List ℕ). bytes_eq t other) (sym ((bytes_eq-Decides name text).0 same)) ∙ e

turned : (text name : List ℕ) (b : Bool) → bytes_eq name text ≡ b → bytes_eq text name ≡ b
turned text name true e = (bytes_eq-Decides text name).1 (sym ((bytes_eq-Decides name text).0 e))
turned text name false e = by (bytes_eq text name) refl
  where
    by : (b : Bool) → bytes_eq text name ≡ b → bytes_eq text name ≡ false
    by false is = is
    by true is = absurd (let back : bytes_eq name text ≡ true = (bytes_eq-Decides name text).1 (sym ((bytes_eq-Decides text name).0 is)) in
        let both : true ≡ false = sym back ∙ e in cc)

from_other : (text name : List ℕ) (first : ℕ) (names : List (List ℕ)) → bytes_eq name text ≡ false
    → position_from (λ other. bytes_eq text other) first (names ++ name ∷ []) ≡ position_from (λ other. bytes_eq text other) first names
from_other text name first [] e = rw (turned text name false e) refl
from_other text name first (other ∷ names) e = ap (λ (later : Option ℕ). cond (bytes_eq text other) (Some first) later) (from_other text name (first + 1) names e)

from_same : (text name : List ℕ) (first : ℕ) (names : List (List ℕ)) → is_among name names ≡ false → bytes_eq name text ≡ true
    → position_from (λ other. bytes_eq text other) first (names ++ name ∷ []) ≡ Some (first + length names)
from_same text name first [] new e = rw (turned text name true e) (let none : first ≡ first + 0 = omega arith in ap (λ n. Some n) none)
from_same text name first (other ∷ names) new e =
    let here : bytes_eq text other ≡ false = differs text name other e (or_left (bytes_eq name other) (is_among name names) new) in
    let later = from_same text name (first + 1) names (or_right (bytes_eq name other) (is_among name names) new) e in
    let sum : (first + 1) + length names ≡ first + suc (length names) = omega arith in
    rw here (later ∙ ap (λ (n : ℕ). Some n) sum)

pub placed_last : (name : List ℕ) (names : List (List ℕ)) → is_among name names ≡ false
    → (text : List ℕ) → place_of text (names ++ name ∷ []) ≡ cond (bytes_eq name text) (Some (length names)) (place_of text names)
placed_last name names new text = position_from-zero (λ other. bytes_eq text other) (names ++ name ∷ []) ∙ by (bytes_eq name text) refl
  where
    by : (b : Bool) → bytes_eq name text ≡ b
        → position_from (λ other. bytes_eq text other) 0 (names ++ name ∷ []) ≡ cond (bytes_eq name text) (Some (length names)) (place_of text names)
    by true e = rw e (let all : 0 + length names ≡ length names = omega arith in from_same text name 0 names new e ∙ ap (λ n. Some n) all)
    by false e = rw e (from_other text name 0 names e ∙ sym (position_from-zero (λ other. bytes_eq text other) names))

-- ---- the table with one more name

same_length : (names : List (Bor (List ℕ))) → length (map (λ t. t.now) names) ≡ length names
same_length [] = refl
same_length (name ∷ names) = ap (λ n. suc n) (same_length names)

-- a new name that is put behind the names, and into the table with their number, has its place
pub placed_more : (names more : List (Bor (List ℕ))) (name : Bor (List ℕ)) (old new : BTreeMap (Bor (List ℕ)) ℕ) (place : ℕ)
    → ArePlacesIn (map (λ t. t.now) names) old → is_among name.now (map (λ t. t.now) names) ≡ false → place ≡ length names
    → UpdatesBy (λ x y. slice_cmp nat_cmp x.now y.now) (λ k. slice_cmp nat_cmp name.now k.now) old new (Some place) → more ≡ names ++ name ∷ []
    → ArePlacesIn (map (λ t. t.now) more) new
placed_more names more name old new place are absent last put is text =
    let texts : map (λ t. t.now) more ≡ map (λ t. t.now) names ++ name.now ∷ [] = ap (λ (xs : List (Bor (List ℕ))). map (λ t. t.now) xs) is ∙ map-append (λ t. t.now) names (name ∷ []) in
    let number : place ≡ length (map (λ t. t.now) names) = last ∙ sym (same_length names) in
    let found : get_by (λ key. slice_cmp nat_cmp text key.now) new ≡ cond (bytes_eq name.now text) (Some (length (map (λ t. t.now) names))) (place_of text (map (λ t. t.now) names))
    = btree_map_updates_str name.now old new (Some place) put text
    ∙ (ap (λ (n : ℕ). cond (bytes_eq name.now text) (Some n) (get_by (λ key. slice_cmp nat_cmp text key.now) old)) number
    ∙ ap (λ (o : Option ℕ). cond (bytes_eq name.now text) (Some (length (map (λ t. t.now) names))) o) (are text)) in
    found ∙ (sym (placed_last name.now (map (λ t. t.now) names) absent text) ∙ ap (λ (ts : List (List ℕ)). place_of text ts) (sym texts))
