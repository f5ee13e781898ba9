-- Lists: what stands in a list of none, of one and of more, what is first, and what stands in lists that are joined; and a test that is passed too.
use Rattle.std.proofs.Common.{◌≡◌, ◌∙◌, ◌<◌, ◌++◌, ℕ, zero, suc, get_or, Bool, true, false, List, [], ◌∷◌, refl, sym, subst, ap, arith, inl, inr}
use Rattle.std.specs.Prelude.{◌||◌, ◌⊎◌, Contains}
use Rattle.std.specs.List.{list_any, flat_map}
use Rattle.std.proofs.lemmas.Bool.{or_left, or_right}
use Rattle.std.proofs.lemmas.List.Elements.{Contains-append_cases, Contains-append_left, Contains-append_right}

pub none_in : {A : Type 0} (x : A) → Contains [] x → ⊥
none_in x among = let below : among.0 < 0 = among.1 in omega (arith, below)

pub only_one : {A : Type 0} (x y : A) → Contains (x ∷ []) y → x ≡ y
only_one x y among = at_first among.0 among.1 among.2
  where
    at_first : (i : ℕ) → i < 1 → get_or (x ∷ []) i y ≡ y → x ≡ y
    at_first zero within is = is
    at_first (suc i) within is = absurd (let below : suc i < 1 = within in omega (arith, below))

pub first_in : {A : Type 0} (x : A) (xs : List A) → Contains (x ∷ xs) x
first_in x xs = (0, omega arith, refl)

pub only_here : {A : Type 0} (x : A) → Contains (x ∷ []) x
only_here x = first_in x []

pub nothing_in : {A : Type 0} (x : A) (xs : List A) → xs ≡ [] → Contains xs x → ⊥
nothing_in x xs e among = none_in x (subst (λ ys. Contains ys x) e among)

pub first_or_later : {A : Type 0} (y : A) (ys : List A) (x : A) → Contains (y ∷ ys) x → (y ≡ x) ⊎ Contains ys x
first_or_later y ys x there = elim (Contains-append_cases (y ∷ []) ys x there) [
  | inl first ↦ inl (only_one y x first)
  | inr later ↦ inr later
]

pub later_in : {A : Type 0} (y : A) (ys : List A) (x : A) → Contains ys x → Contains (y ∷ ys) x
later_in y ys x there = Contains-append_right (y ∷ []) ys x there

-- ---- what is joined

pub in_joined : {X A : Type 0} (f : X → List A) (xs : List X) (x : X) (a : A) → Contains xs x → Contains (f x) a → Contains (flat_map f xs) a
in_joined f [] x a there among = absurd (none_in x there)
in_joined f (y ∷ ys) x a there among = go (first_or_later y ys x there) (in_joined f ys x a)
  where
    go : (y ≡ x) ⊎ Contains ys x → (Contains ys x → Contains (f x) a → Contains (flat_map f ys) a) → Contains (f y ++ flat_map f ys) a
    go (inl is) on = Contains-append_left (f y) (flat_map f ys) a (subst (λ z. Contains (f z) a) (sym is) among)
    go (inr later) on = Contains-append_right (f y) (flat_map f ys) a (on later among)

-- where one test implies another, a list that passes the first passes the other
pub any_too : {A : Type 0} (p q : A → Bool) → ((x : A) → p x ≡ true → q x ≡ true) → (xs : List A) → list_any p xs ≡ true → list_any q xs ≡ true
any_too p q too [] e = e
any_too p q too (x ∷ xs) e = at (any_too p q too xs) (p x) refl
  where
    at : (list_any p xs ≡ true → list_any q xs ≡ true) → (test : Bool) → p x ≡ test → list_any q (x ∷ xs) ≡ true
    at later true first = or_left (q x) (list_any q xs) (too x first)
    at later false first = or_right (q x) (list_any q xs) (later (sym (ap (λ t. t || list_any p xs) first) ∙ e))
