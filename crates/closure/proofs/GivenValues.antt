-- What a component makes of a configuration as it is given a value.
use Rattle.std.proofs.Common.{◌≡◌, ◌⊎◌, inl, inr, ℕ, zero, suc, ◌==◌, ◌&&◌, ◌<◌, ◌∷◌, [], Bool, true, false, if◌then◌else◌, List, length, map, refl, ap, arith, Contains}
use Rattle.std.specs.List.{slice_index_or}
use Rattle.mg_model.specs.declared.commands.Termination.{Termination}
use Rattle.mg_model.specs.declared.commands.Termination.TheVariants.{Line, Ephemeral}
use Rattle.mg_model.specs.Configuration.{is_same}
use Rattle.mg_model.specs.Entries.{Choice, same_choice}

-- ---- choices

-- a choice among values is one of them, or none
pub choice_at : {A : Type 0} (P : Choice → Type 0) (make : A → Choice) (values : List A) (place : ℕ) → P same_choice → ((v : A) → P (make v))
    → P (slice_index_or (map make values) place same_choice)
choice_at P make [] place none each = none
choice_at P make (v ∷ values) zero none each = each v
choice_at P make (v ∷ values) (suc place) none each = choice_at P make values place none each

-- a choice at a place within the values is one of them
pub value_at : {A : Type 0} (P : Choice → Type 0) (make : A → Choice) (values : List A) (place : ℕ) → place < length (map make values)
    → ((v : A) → Contains values v → P (make v)) → P (slice_index_or (map make values) place same_choice)
value_at P make [] place within each = absurd (omega (arith, within))
value_at P make (v ∷ values) zero within each = each v (0, omega arith, refl)
value_at P make (v ∷ values) (suc place) within each =
    value_at P make values place (omega (arith, within)) (λ w has. each w (suc has.0, omega (arith, has.1), has.2))

-- ---- a setting that is given a value

-- in both, where they are one
pub alike : {A : Type 0} (here : Bool) (v x y : A) → x ≡ y → (if here then v else x) ≡ (if here then v else y)
alike true v x y same = refl
alike false v x y same = same

-- in both configurations
pub both_given : {A : Type 0} (Q : A → Type 0) (here : Bool) (v x y : A) → (x ≡ y) ⊎ Q x
    → ((if here then v else x) ≡ (if here then v else y)) ⊎ Q (if here then v else x)
both_given Q true v x y was = inl refl
both_given Q false v x y was = was

-- in each its own
pub given_here : {A : Type 0} (Q : A → Type 0) (here : Bool) (v w x y : A) → (here ≡ true → Q v) → (x ≡ y) ⊎ Q x
    → ((if here then v else x) ≡ (if here then w else y)) ⊎ Q (if here then v else x)
given_here Q true v w x y free was = inr (free refl)
given_here Q false v w x y free was = was

-- one of two is, and any is as good
pub one_given : {A : Type 0} (Q : Type 0) (here : Bool) (v x y : A) → (here ≡ true → Q) → (x ≡ y) ⊎ Q → ((if here then v else x) ≡ y) ⊎ Q
one_given Q true v x y free was = inr (free refl)
one_given Q false v x y free was = was

pub other_given : {A : Type 0} (Q : Type 0) (here : Bool) (v x y : A) → (here ≡ true → Q) → (x ≡ y) ⊎ Q → (x ≡ (if here then v else y)) ⊎ Q
other_given Q true v x y free was = inr (free refl)
other_given Q false v x y free was = was

pub same_termination : (t u : Termination) → is_same t u ≡ true → t ≡ u
same_termination (Line i) (Line j) same = ap (λ (n : ℕ). Line n) (grind (arith, same))
same_termination (Line i) (Ephemeral j) same = absurd (cc (same))
same_termination (Ephemeral i) (Line j) same = absurd (cc (same))
same_termination (Ephemeral i) (Ephemeral j) same = ap (λ (n : ℕ). Ephemeral n) (grind (arith, same))

pub same_number : (m n : ℕ) → (m == n) ≡ true → m ≡ n
same_number m n same = grind (arith, same)

pub both_true : (a b : Bool) → (a && b) ≡ true → (a ≡ true) × (b ≡ true)
both_true true true both = (refl, refl)
both_true true false both = absurd (cc (both))
both_true false b both = absurd (cc (both))
