-- How many elements of a list pass a test, read by index with an element past the end that doesn't pass. Two lists that agree in the
-- test at each index have one count, and a change at one index changes the count by one.
use Rattle.std.proofs.Common.{◌≡◌, ◌≢◌, ℕ, zero, suc, ◌+◌, ◌<◌, ◌≤◌, Bool, true, false, cond, List, [], ◌∷◌, get_or, count_by, refl, sym, ap, ◌∙◌, inl, inr, arith}
use Rattle.std.proofs.lemmas.Bool.{cases_Bool, cond-true, cond-false, false≢true}
use Rattle.std.proofs.lemmas.List.Sums.{sum_by-cons}

one-true : (b : Bool) → b ≡ true → ◌≡◌ {A = ℕ} (cond b 1 0) 1
one-true b is = cond-true b 1 0 is

one-false : (b : Bool) → b ≡ false → ◌≡◌ {A = ℕ} (cond b 1 0) 0
one-false b is = cond-false b 1 0 is

at_most_one : (b : Bool) → cond b 1 0 ≤ 1
at_most_one true = omega arith
at_most_one false = omega arith

module _ {X : Type 0} where
  pub count-cons : (p : X → Bool) (x : X) (rest : List X) → count_by p (x ∷ rest) ≡ cond (p x) 1 0 + count_by p rest
  count-cons p x rest = sum_by-cons (λ y. cond (p y) 1 0) x rest

  -- none passes
  pub count_none : (p : X → Bool) (xs : List X) (d : X) → ((k : ℕ) → p (get_or xs k d) ≡ false) → count_by p xs ≡ 0
  count_none p [] d none = refl
  count_none p (x ∷ rest) d none = omega (arith, count-cons p x rest, one-false (p x) (none 0), count_none p rest d (λ k. none (suc k)))

  pub none_counted : (p : X → Bool) (xs : List X) (d : X) (k : ℕ) → p d ≡ false → count_by p xs ≡ 0 → p (get_or xs k d) ≡ false
  none_counted p [] d k past count = past
  none_counted p (x ∷ rest) d zero past count =
      elim (cases_Bool (p x)) [
        | inl passes ↦ absurd (omega (arith, count-cons p x rest, one-true (p x) passes, count))
        | inr fails ↦ fails
      ]
  none_counted p (x ∷ rest) d (suc k) past count = none_counted p rest d k past (omega (arith, count-cons p x rest, count))

  -- one that passes is counted
  pub counted : (p : X → Bool) (xs : List X) (d : X) (k : ℕ) → p d ≡ false → p (get_or xs k d) ≡ true → 1 ≤ count_by p xs
  counted p [] d k past passes = absurd (false≢true (sym past ∙ passes))
  counted p (x ∷ rest) d zero past passes = omega (arith, count-cons p x rest, one-true (p x) passes)
  counted p (x ∷ rest) d (suc k) past passes = omega (arith, count-cons p x rest, counted p rest d k past passes)

  -- the lists agree in the test at each index
  pub count_same : (p : X → Bool) (xs ys : List X) (d : X) → p d ≡ false → ((k : ℕ) → p (get_or xs k d) ≡ p (get_or ys k d)) → count_by p xs ≡ count_by p ys
  count_same p [] ys d past same = sym (count_none p ys d (λ k. sym (same k) ∙ past))
  count_same p (x ∷ xs) [] d past same = count_none p (x ∷ xs) d (λ k. same k ∙ past)
  count_same p (x ∷ xs) (y ∷ ys) d past same =
      let here : ◌≡◌ {A = ℕ} (cond (p x) 1 0) (cond (p y) 1 0) = ap (λ b. cond b 1 0) (same 0) in
      omega (arith, here, count-cons p x xs, count-cons p y ys, count_same p xs ys d past (λ k. same (suc k)))

  -- the second list has one more that passes, at this index, and they agree elsewhere
  pub count_more : (p : X → Bool) (xs ys : List X) (d : X) (at : ℕ) → p d ≡ false → p (get_or xs at d) ≡ false → p (get_or ys at d) ≡ true →
      ((k : ℕ) → k ≢ at → p (get_or xs k d) ≡ p (get_or ys k d)) → count_by p ys ≡ count_by p xs + 1
  count_more p xs [] d at past was is same = absurd (false≢true (sym past ∙ is))
  count_more p [] (y ∷ ys) d zero past was is same =
      let rest : count_by p ys ≡ 0 = count_none p ys d (λ k. sym (same (suc k) (λ e. omega (arith, e))) ∙ past) in
      omega (arith, rest, count-cons p y ys, one-true (p y) is)
  count_more p [] (y ∷ ys) d (suc at) past was is same =
      let here = one-false (p y) (sym (same 0 (λ e. omega (arith, e))) ∙ past) in
      let rest = count_more p [] ys d at past was is (λ k differs. same (suc k) (λ e. differs (omega (arith, e)))) in
      omega (arith, here, rest, count-cons p y ys)
  count_more p (x ∷ xs) (y ∷ ys) d zero past was is same =
      let rest = count_same p xs ys d past (λ k. same (suc k) (λ e. omega (arith, e))) in
      omega (arith, rest, count-cons p x xs, count-cons p y ys, one-false (p x) was, one-true (p y) is)
  count_more p (x ∷ xs) (y ∷ ys) d (suc at) past was is same =
      let here : ◌≡◌ {A = ℕ} (cond (p x) 1 0) (cond (p y) 1 0) = ap (λ b. cond b 1 0) (same 0 (λ e. omega (arith, e))) in
      let rest = count_more p xs ys d at past was is (λ k differs. same (suc k) (λ e. differs (omega (arith, e)))) in
      omega (arith, here, rest, count-cons p x xs, count-cons p y ys)

  -- what passes one test passes just one of two others
  pub count_split : (p q r : X → Bool) (xs : List X) → ((x : X) → cond (p x) 1 0 ≡ cond (q x) 1 0 + cond (r x) 1 0) → count_by p xs ≡ count_by q xs + count_by r xs
  count_split p q r [] split = refl
  count_split p q r (x ∷ xs) split = omega (arith, split x, count-cons p x xs, count-cons q x xs, count-cons r x xs, count_split p q r xs split)

  -- those that pass are at indexes below this, so that there are no more of them
  pub count_within : (p : X → Bool) (xs : List X) (d : X) (size : ℕ) → ((k : ℕ) → p (get_or xs k d) ≡ true → k < size) → count_by p xs ≤ size
  count_within p [] d size within = omega arith
  count_within p (x ∷ rest) d zero within =
      let here : p x ≡ false =
      elim (cases_Bool (p x)) [
        | inl passes ↦ let below = within 0 passes in absurd (omega (arith, below))
        | inr fails ↦ fails
      ] in
      let later = count_within p rest d 0 (λ k passes. let below = within (suc k) passes in absurd (omega (arith, below))) in
      omega (arith, later, count-cons p x rest, one-false (p x) here)
  count_within p (x ∷ rest) d (suc size) within =
      let later = count_within p rest d size (λ k passes. let below = within (suc k) passes in omega (arith, below)) in
      omega (arith, later, count-cons p x rest, at_most_one (p x))

  -- where there are as many as indexes, each passes
  pub each_passes : (p : X → Bool) (xs : List X) (d : X) (size k : ℕ) → ((j : ℕ) → p (get_or xs j d) ≡ true → j < size) → size ≤ count_by p xs → k < size → p (get_or xs k d) ≡ true
  each_passes p [] d size k within full below = absurd (omega (arith, full, below))
  each_passes p (x ∷ rest) d zero k within full below = absurd (omega (arith, below))
  each_passes p (x ∷ rest) d (suc size) zero within full below =
      elim (cases_Bool (p x)) [
        | inl passes ↦ passes
        | inr fails ↦
            let later = count_within p rest d size (λ j passes. let h = within (suc j) passes in omega (arith, h)) in
            absurd (omega (arith, later, full, count-cons p x rest, one-false (p x) fails))
      ]
  each_passes p (x ∷ rest) d (suc size) (suc k) within full below =
      each_passes p rest d size k (λ j passes. let h = within (suc j) passes in omega (arith, h)) (omega (arith, full, count-cons p x rest, at_most_one (p x))) (omega (arith, below))

  -- where each below this passes, there are as many
  pub all_counted : (p : X → Bool) (xs : List X) (d : X) (size : ℕ) → p d ≡ false → ((k : ℕ) → k < size → p (get_or xs k d) ≡ true) → size ≤ count_by p xs
  all_counted p xs d zero past all = omega arith
  all_counted p [] d (suc size) past all = absurd (false≢true (sym past ∙ all 0 (omega arith)))
  all_counted p (x ∷ rest) d (suc size) past all =
      let later = all_counted p rest d size past (λ k below. all (suc k) (omega (arith, below))) in
      omega (arith, later, count-cons p x rest, one-true (p x) (all 0 (omega arith)))
