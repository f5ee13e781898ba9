-- Whether a number below a bound passes a test.
use Rattle.std.proofs.Common.{◌≡◌, ◌∙◌, ◌<◌, ◌≤◌, ℕ, zero, suc, Bool, true, false, Option, Some, None, refl, ap, subst, arith, inl, inr, ◌||◌, ◌⊎◌}
use Rattle.mg_merge.proofs.Words.{cases_lt, eqb-true, false_not_true, is_number, or_left, or_right, same_itself}

abbrev pub any_below : (ℕ → Bool) → ℕ → Bool
any_below p zero = false
any_below p (suc n) = p n || any_below p n

pub any_there : (p : ℕ → Bool) (n i : ℕ) → i < n → p i ≡ true → any_below p n ≡ true
any_there p zero i within is = absurd (let less : i < 0 = within in omega (arith, less))
any_there p (suc n) i within is = go (cases_lt i n) (any_there p n i)
  where
    go : (i < n) ⊎ (n ≤ i) → (i < n → p i ≡ true → any_below p n ≡ true) → (p n || any_below p n) ≡ true
    go (inl below) on = or_right (p n) (any_below p n) (on below is)
    go (inr above) on =
        let less : i < suc n = within in
        let one : i ≡ n = omega (arith, less, above) in
        or_left (p n) (any_below p n) (subst (λ (k : ℕ). p k ≡ true) one is)

pub any_found : (p : ℕ → Bool) (n : ℕ) → any_below p n ≡ true → (i : ℕ) × (p i ≡ true)
any_found p zero e = absurd (false_not_true e)
any_found p (suc n) e = go (p n) refl e (any_found p n)
  where
    go : (test : Bool) → p n ≡ test → (test || any_below p n) ≡ true → (any_below p n ≡ true → (i : ℕ) × (p i ≡ true)) → (i : ℕ) × (p i ≡ true)
    go true is e on = (n, is)
    go false is e on = on e

pub number_is : (o : Option ℕ) (x : ℕ) → is_number o x ≡ true → o ≡ Some x
number_is None x e = absurd (false_not_true e)
number_is (Some i) x e = ap (λ (n : ℕ). Some n) (eqb-true i x e)

pub is_its : (o : Option ℕ) (x : ℕ) → o ≡ Some x → is_number o x ≡ true
is_its o x e = ap (λ (p : Option ℕ). is_number p x) e ∙ same_itself x
