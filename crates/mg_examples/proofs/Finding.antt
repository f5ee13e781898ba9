-- What stands in a list: first or later, or in a list of two; and what is found in it by a test.
use Rattle.std.proofs.Common.{◌≡◌, ◌∙◌, ◌<◌, suc, Bool, true, false, List, [], ◌∷◌, length, Some, refl, sym, ap, subst, arith, true≢false, inl, inr}
use Rattle.std.specs.Prelude.{◌⊎◌, Contains, find}
use Rattle.mg_model.proofs.Cases.{none_is_some, the_some, where_true, where_false}
use Rattle.mg_model.proofs.Single.{none_in, only_one, first_in, first_or_later}

pub later_in : {A : Type 0} (x y : A) (xs : List A) → Contains xs y → Contains (x ∷ xs) y
later_in x y xs among = let below : among.0 < length xs = among.1 in (suc among.0, omega (arith, below), among.2)

-- what holds of both holds of each of them
pub of_both : {A : Type 0} (P : A → Type 0) (x y z : A) → P x → P y → Contains (x ∷ y ∷ []) z → P z
of_both P x y z first second among = at (first_or_later x (y ∷ []) z among)
  where
    at : (x ≡ z) ⊎ Contains (y ∷ []) z → P z
    at (inl same) = subst P same first
    at (inr later) = subst P (only_one y z later) second

-- what is found stands in the list and passes the test
pub found_in : {A : Type 0} (test : A → Bool) (y : A) (xs : List A) → find test xs ≡ Some y → Contains xs y × (test y ≡ true)
found_in test y [] e = absurd (none_is_some y e)
found_in test y (x ∷ xs) e = at (test x) refl (found_in test y xs)
  where
    at : (b : Bool) → test x ≡ b → (find test xs ≡ Some y → Contains xs y × (test y ≡ true)) → Contains (x ∷ xs) y × (test y ≡ true)
    at true is later =
        let same = the_some x y (sym (where_true (test x) (Some x) (find test xs) is) ∙ e) in
        (subst (Contains (x ∷ xs)) same (first_in x xs), subst (λ z. test z ≡ true) same is)
    at false is later =
        let more = later (sym (where_false (test x) (Some x) (find test xs) is) ∙ e) in
        (later_in x y xs more.0, more.1)

-- the only one that passes the test is found
pub finds_only : {A : Type 0} (test : A → Bool) (y : A) → test y ≡ true → (xs : List A) → Contains xs y
    → ((z : A) → Contains xs z → test z ≡ true → z ≡ y) → find test xs ≡ Some y
finds_only test y passes [] among only = absurd (none_in y among)
finds_only test y passes (x ∷ xs) among only =
    at (test x) refl (λ later. finds_only test y passes xs later (λ z there. only z (later_in x z xs there)))
  where
    at : (b : Bool) → test x ≡ b → (Contains xs y → find test xs ≡ Some y) → find test (x ∷ xs) ≡ Some y
    at true is rest = where_true (test x) (Some x) (find test xs) is ∙ ap Some (only x (first_in x xs) is)
    at false is rest = where_false (test x) (Some x) (find test xs) is ∙ either (first_or_later x xs y among)
      where
        either : (x ≡ y) ⊎ Contains xs y → find test xs ≡ Some y
        either (inl same) = absurd (true≢false (sym passes ∙ sym (ap test same) ∙ is))
        either (inr later) = rest later
