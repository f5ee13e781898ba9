-- What is added behind a list, if it is.
use Rattle.std.proofs.Common.{◌≡◌, ◌∙◌, ◌+◌, ◌++◌, ◌∷◌, [], List, Bool, true, false, not, if◌then◌else◌, length, map, refl, sym, ap, subst, rules, length-append}
use Rattle.mg_model.specs.Configuration.{is_null}
use Rattle.mg_model.specs.declared.components.Spot.{Spot}
use Rattle.mg_model.specs.declared.components.Spot.TheVariants.{Null}
use Rattle.std.specs.List.{All}
use Rattle.std.specs.Prelude.{Contains}
use Rattle.std.proofs.lemmas.List.{map-append}
use Rattle.std.proofs.lemmas.List.Elements.{All-append, All-push, Contains-append_left, Contains-push}

pub all_with : {X : Type 0} (P : X → Type 0) (xs : List X) (holds : Bool) (x : X) → All P xs → (holds ≡ true → P x)
    → All P (xs ++ (if holds then x ∷ [] else []))
all_with P xs true x all is = All-push P xs x all (is refl)
all_with P xs false x all is = All-append P xs [] all (search rules)

-- what is told by its negation
pub not_true : (told b : Bool) → told ≡ b → not told ≡ true → b ≡ false
not_true true b same e = absurd (search rules)
not_true false b same e = sym same

pub not_null : (spot : Spot) (told : Bool) → told ≡ is_null spot → not told ≡ true → spot ≡ Null → ⊥
not_null spot true same e n = absurd (search rules)
not_null spot false same e n = absurd (let bad : false ≡ true = same ∙ ap is_null n in search rules)

-- a value is among those that it was added to, or was there
pub has_with : {X : Type 0} (xs : List X) (wanted : Bool) (x : X) → (wanted ≡ false → Contains xs x)
    → Contains (xs ++ (if wanted then x ∷ [] else [])) x
has_with xs true x is = Contains-push xs x
has_with xs false x is = Contains-append_left xs [] x (is refl)

pub among_all : {X : Type 0} (all xs own : List X) (wanted : Bool) (x v : X) → all ≡ xs ++ (if wanted then x ∷ [] else []) → xs ≡ own → x ≡ v
    → (wanted ≡ false → Contains own v) → Contains all v
among_all {X = X} all xs own wanted x v are same is has =
    subst (λ (ys : List X). Contains ys v) (sym are)
    (subst (λ (y : X). Contains (xs ++ (if wanted then y ∷ [] else [])) v) (sym is)
    (subst (λ (ys : List X). Contains (ys ++ (if wanted then v ∷ [] else [])) v) (sym same) (has_with own wanted v has)))

-- what was there is there still
pub kept_with : {X : Type 0} (xs : List X) (wanted : Bool) (x y : X) → Contains xs y → Contains (xs ++ (if wanted then x ∷ [] else [])) y
kept_with xs wanted x y has = Contains-append_left xs (if wanted then x ∷ [] else []) y has

-- so many values make one more choice where one was added
pub counted_with : {X Y : Type 0} (f : X → Y) (xs : List X) (wanted : Bool) (x : X)
    → length (map f (xs ++ (if wanted then x ∷ [] else []))) ≡ length (map f xs) + (if wanted then 1 else 0)
counted_with f xs true x = ap length (map-append f xs (x ∷ [])) ∙ length-append (map f xs) (f x ∷ [])
counted_with f xs false x = ap length (map-append f xs []) ∙ length-append (map f xs) []
