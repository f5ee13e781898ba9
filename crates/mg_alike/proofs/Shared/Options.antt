-- Options that are alike, sets that are alike, and lists that are alike element by element.
use Rattle.std.proofs.Common.{◌≡◌, ℕ, Bool, true, false, List, [], ◌∷◌, Option, Some, None, is_some, refl, subst, inl, inr, ◌==◌, ◌||◌, ◌⊎◌, Contains}
use Rattle.std.proofs.Common.{if◌then◌else◌}
use Rattle.mg_merge.proofs.Words.{bound_if, eq-eqb, eqb-true, false_not_true, first_in, first_or_later, is_listed, later_in, list_any, none_in, or_left}
use Rattle.mg_merge.proofs.Words.{or_right, same_test}
use Rattle.mg_alike.proofs.Words.{IsOneToOne, OptionsAlike, SetsAlike}

-- ---- options

module _ (pairs : ℕ → ℕ → Bool) where
  pub bound_same : (o p : Option ℕ) → OptionsAlike pairs o p → is_some p ≡ is_some o
  bound_same None None alike = refl
  bound_same (Some x) (Some y) alike = refl
  bound_same _ _ alike = absurd alike

  pub where_alike : (test : Bool) (o p f g : Option ℕ) → OptionsAlike pairs o p → OptionsAlike pairs f g
      → OptionsAlike pairs (if test then o else f) (if test then p else g)
  where_alike true o p f g first second = first
  where_alike false o p f g first second = second

  -- names that are bound anew where a test holds
  pub bound_if_alike : (create : Bool) (c d : ℕ → Option ℕ) (name : ℕ) (o p : Option ℕ) → ((j : ℕ) → OptionsAlike pairs (c j) (d j)) → OptionsAlike pairs o p
      → (j : ℕ) → OptionsAlike pairs (bound_if create c name o j) (bound_if create d name p j)
  bound_if_alike true c d name o p before new j = where_alike (j == name) o p (c j) (d j) new (before j)
  bound_if_alike false c d name o p before new j = before j

-- what is alike stays so where more is renamed
pub options_more : (pairs more : ℕ → ℕ → Bool) → ((x y : ℕ) → pairs x y ≡ true → more x y ≡ true) → (o p : Option ℕ) → OptionsAlike pairs o p
    → OptionsAlike more o p
options_more pairs more also None None alike = tt
options_more pairs more also (Some x) (Some y) alike = also x y alike
options_more pairs more also _ _ alike = absurd alike

-- ---- sets

listed_here : (numbers : List ℕ) (n : ℕ) → Contains numbers n → list_any (λ other. other == n) numbers ≡ true
listed_here [] n there = absurd (none_in n there)
listed_here (m ∷ more) n there = go (first_or_later m more n there) (listed_here more n)
  where
    go : (m ≡ n) ⊎ Contains more n → (Contains more n → list_any (λ other. other == n) more ≡ true) → list_any (λ other. other == n) (m ∷ more) ≡ true
    go (inl is) on = or_left (m == n) (list_any (λ other. other == n) more) (eq-eqb m n is)
    go (inr later) on = or_right (m == n) (list_any (λ other. other == n) more) (on later)

found : (numbers : List ℕ) (n : ℕ) → list_any (λ other. other == n) numbers ≡ true → Contains numbers n
found [] n e = absurd (false_not_true e)
found (m ∷ more) n e = go (m == n) refl e (found more n)
  where
    go : (test : Bool) → (m == n) ≡ test → (test || list_any (λ other. other == n) more) ≡ true
        → (list_any (λ other. other == n) more ≡ true → Contains more n) → Contains (m ∷ more) n
    go true is e on = subst (Contains (m ∷ more)) (eqb-true m n is) (first_in m more)
    go false is e on = later_in m more n (on e)

-- a number is listed in the one set where what it stands for is listed in the other
pub listed_same : (pairs : ℕ → ℕ → Bool) → IsOneToOne pairs → (xs ys : List ℕ) → SetsAlike pairs xs ys → (o p : Option ℕ) → OptionsAlike pairs o p
    → is_listed ys p ≡ is_listed xs o
listed_same pairs one xs ys sets None None alike = refl
listed_same pairs one xs ys sets (Some x) (Some y) alike = same_test (is_listed ys (Some y)) (is_listed xs (Some x))
    (λ e. let it = sets.back y (found ys y e) in listed_here xs x (subst (Contains xs) (one.back it.0 x y it.1 alike) it.2))
    (λ e. let it = sets.onward x (found xs x e) in listed_here ys y (subst (Contains ys) (one.onward x it.0 y it.1 alike) it.2))
listed_same pairs one xs ys sets _ _ alike = absurd alike

pub sets_more : (pairs more : ℕ → ℕ → Bool) → ((x y : ℕ) → pairs x y ≡ true → more x y ≡ true) → (xs ys : List ℕ) → SetsAlike pairs xs ys
    → SetsAlike more xs ys
sets_more pairs more also xs ys sets = record {
  onward = λ x there. let it = sets.onward x there in (it.0, also x it.0 it.1, it.2);
  back = λ y there. let it = sets.back y there in (it.0, also it.0 y it.1, it.2);
}
