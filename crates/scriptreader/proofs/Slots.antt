-- The place of a name is below the number of names, and different names have different places.
use Rattle.std.proofs.Common.{◌≡◌, ◌<◌, ℕ, List, [], length, Bool, true, false, nat_lt, get_or, refl, sym, ap, ◌∙◌, eqb-true, Option, Some}
use Rattle.std.specs.Prelude.{◌==◌}
use Rattle.std.specs.Str.{bytes_eq}
use Rattle.std.proofs.lemmas.List.Quantifiers.{position-Some}
use Rattle.std.proofs.lemmas.Option.{option_and_then_some}
use Rattle.std.proofs.lemmas.Slice.Eq.{bytes_eq-Decides}
use Rattle.typed_values.specs.Shape.{◌>>=◌, only_if}
use Rattle.script_table.specs.Table.{place_of}
use Rattle.scriptreader.specs.Meaning.{slot_for}

-- what is there after a step was there after the step before it
pub bound : {A B P : Type 0} (o : Option A) (f : A → Option B) (y : B) → (o >>= f) ≡ Some y → ((x : A) → o ≡ Some x → f x ≡ Some y → P) → P
bound o f y e k = option_and_then_some f o y e k

-- what is there only if a test holds
pub kept : {A : Type 0} (b : Bool) (o : Option A) (y : A) → only_if b o ≡ Some y → o ≡ Some y
kept true o y e = e
kept false o y e = absurd cc

slot_place : (names : List (List ℕ)) (name : List ℕ) (i : ℕ) → slot_for names name ≡ Some i → place_of name names ≡ Some i
slot_place names name i e =
    bound (place_of name names) (λ place. only_if (nat_lt place 4) (Some place)) i e (λ place at small. at ∙ kept (nat_lt place 4) (Some place) i small)

pub slot_within : (names : List (List ℕ)) (name : List ℕ) (i : ℕ) → slot_for names name ≡ Some i → i < length names
slot_within names name i e = (position-Some (λ other. bytes_eq name other) names i [] (slot_place names name i e)).0

slot_name : (names : List (List ℕ)) (name : List ℕ) (i : ℕ) → slot_for names name ≡ Some i → name ≡ get_or names i []
slot_name names name i e =
    (bytes_eq-Decides name (get_or names i [])).0 (position-Some (λ other. bytes_eq name other) names i [] (slot_place names name i e)).1

-- different names have different places
pub slots_apart : (names : List (List ℕ)) (a b : List ℕ) (i j : ℕ) → slot_for names a ≡ Some i → slot_for names b ≡ Some j → (a ≡ b → ⊥) → i == j ≡ false
slots_apart names a b i j at there differ = decided (i == j) refl
  where
    decided : (same : Bool) → (i == j) ≡ same → (i == j) ≡ false
    decided false e = e
    decided true e =
        absurd (differ (slot_name names a i at ∙ (ap (λ (n : ℕ). get_or names n []) (eqb-true i j e) ∙ sym (slot_name names b j there))))
