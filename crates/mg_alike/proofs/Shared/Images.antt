-- Rising lists: of the numbers that stand for those of a list, and two of the same members, which are one.
use Rattle.std.proofs.Common.{◌≡◌, ◌∙◌, ◌<◌, ◌≤◌, ℕ, Bool, true, false, List, [], ◌∷◌, refl, sym, subst, arith, inl, inr, ◌==◌, ◌⊎◌, ◌↔◌, Contains, ap}
use Rattle.mg_merge.proofs.Words.{IsRising, cases_lt, eqb-false, eqb-true, first_in, first_or_later, later_in, none_in}

-- a rising list of these members
pub record IsListed (has : ℕ → Type 0) : Type 0 where
  pub numbers : List ℕ
  pub rising : IsRising numbers
  pub exactly : (n : ℕ) → Contains numbers n ↔ has n

-- a number that is put into a rising list
put : (x : ℕ) (xs : List ℕ) → IsRising xs → IsListed (λ n. (x ≡ n) ⊎ Contains xs n)
put x [] rising = record {
  numbers = x ∷ [];
  rising = ((λ y there. absurd (none_in y there)), tt);
  exactly = λ n. (
    first_or_later x [] n,
    λ either. elim either [
      | inl is ↦ subst (Contains (x ∷ [])) is (first_in x [])
      | inr later ↦ absurd (none_in n later)
    ],
  );
}
put x (y ∷ ys) rising = go (cases_lt x y) (put x ys rising.1)
  where
    go : (x < y) ⊎ (y ≤ x) → IsListed (λ n. (x ≡ n) ⊎ Contains ys n) → IsListed (λ n. (x ≡ n) ⊎ Contains (y ∷ ys) n)
    go (inl below) later = record {
      numbers = x ∷ y ∷ ys;
      rising = (
        (λ n there. elim (first_or_later y ys n there) [
          | inl is ↦ subst (λ (k : ℕ). x < k) is below
          | inr after ↦ (let more : y < n = rising.0 n after in omega (arith, below, more))
        ]),
        rising,
      );
      exactly = λ n. (
        first_or_later x (y ∷ ys) n,
        λ either. elim either [
          | inl is ↦ subst (Contains (x ∷ y ∷ ys)) is (first_in x (y ∷ ys))
          | inr after ↦ later_in x (y ∷ ys) n after
        ],
      );
    }
    go (inr above) later = by_equal (x == y) refl
      where
        by_equal : (test : Bool) → (x == y) ≡ test → IsListed (λ n. (x ≡ n) ⊎ Contains (y ∷ ys) n)
        by_equal true e = record {
          numbers = y ∷ ys;
          rising = rising;
          exactly = λ n. (
            λ there. inr there,
            λ either. elim either [
              | inl is ↦ subst (Contains (y ∷ ys)) (sym (eqb-true x y e) ∙ is) (first_in y ys)
              | inr there ↦ there
            ],
          );
        }
        by_equal false e = record {
          numbers = y ∷ later.numbers;
          rising = (
            (λ n there. elim ((later.exactly n).0 there) [
              | inl is ↦ (let other = eqb-false x y e in let more : y < x = strictly other in subst (λ (k : ℕ). y < k) is more)
              | inr after ↦ rising.0 n after
            ]),
            later.rising,
          );
          exactly = λ n. (
            λ there. elim (first_or_later y later.numbers n there) [
              | inl is ↦ inr (subst (Contains (y ∷ ys)) is (first_in y ys))
              | inr after ↦ elim ((later.exactly n).0 after) [
                | inl is ↦ inl is
                | inr there ↦ inr (later_in y ys n there)
              ]
            ],
            λ either. elim either [
              | inl is ↦ later_in y later.numbers n ((later.exactly n).1 (inl is))
              | inr there ↦ elim (first_or_later y ys n there) [
                | inl is ↦ subst (Contains (y ∷ later.numbers)) is (first_in y later.numbers)
                | inr after ↦ later_in y later.numbers n ((later.exactly n).1 (inr after))
              ]
            ],
          );
        }
          where
            strictly : (x ≡ y → ⊥) → y < x
            strictly other = elim (cases_lt y x) [
              | inl less ↦ less
              | inr more ↦ absurd (other (omega (arith, above, more)))
            ]

-- the numbers for which those of a list stand
pub image : (pairs : ℕ → ℕ → Bool) (xs : List ℕ) → ((x : ℕ) → Contains xs x → (y : ℕ) × (pairs x y ≡ true))
    → ((x y z : ℕ) → pairs x y ≡ true → pairs x z ≡ true → y ≡ z) → IsListed (λ n. (x : ℕ) × Contains xs x × (pairs x n ≡ true))
image pairs [] partner one = record {
  numbers = [];
  rising = tt;
  exactly = λ n. ((λ there. absurd (none_in n there)), (λ some. absurd (none_in some.0 some.1)));
}
image pairs (x ∷ xs) partner one = go (partner x (first_in x xs)) (image pairs xs (λ n there. partner n (later_in x xs n there)) one)
  where
    go : (y : ℕ) × (pairs x y ≡ true) → IsListed (λ n. (z : ℕ) × Contains xs z × (pairs z n ≡ true)) → IsListed (λ n. (z : ℕ) × Contains (x ∷ xs) z × (pairs z n ≡ true))
    go (y, is) rest =
        let all = put y rest.numbers rest.rising in
        record {
          numbers = all.numbers;
          rising = all.rising;
          exactly = λ n. (
            λ there. elim ((all.exactly n).0 there) [
              | inl same ↦ (x, first_in x xs, subst (λ (k : ℕ). pairs x k ≡ true) same is)
              | inr later ↦ (let z = (rest.exactly n).0 later in (z.0, later_in x xs z.0 z.1, z.2))
            ],
            λ some. (all.exactly n).1 (elim (first_or_later x xs some.0 some.1) [
              | inl first ↦ inl (one x y n is (subst (λ (k : ℕ). pairs k n ≡ true) (sym first) some.2))
              | inr later ↦ inr ((rest.exactly n).1 (some.0, later, some.2))
            ]),
          );
        }

-- ---- two rising lists of the same members are one

same_first : (x y : ℕ) (xs ys : List ℕ) → IsRising (x ∷ xs) → IsRising (y ∷ ys) → (x ≡ y) ⊎ Contains xs y → (y ≡ x) ⊎ Contains ys x → x ≡ y
same_first x y xs ys first second (inl is) there = is
same_first x y xs ys first second (inr later) (inl is) = sym is
same_first x y xs ys first second (inr later) (inr also) =
    absurd (let above : x < y = first.0 y later in let below : y < x = second.0 x also in omega (arith, above, below))

-- what is later in the one list is later in the other
later_too : (x y : ℕ) (xs ys : List ℕ) → x ≡ y → IsRising (x ∷ xs) → (n : ℕ) → Contains xs n → (y ≡ n) ⊎ Contains ys n → Contains ys n
later_too x y xs ys same rising n there (inl is) =
    absurd (let above : x < n = rising.0 n there in let one : x ≡ n = same ∙ is in omega (arith, above, one))
later_too x y xs ys same rising n there (inr later) = later

pub rising_same : (xs ys : List ℕ) → IsRising xs → IsRising ys → ((n : ℕ) → Contains xs n ↔ Contains ys n) → xs ≡ ys
rising_same [] [] first second same = refl
rising_same [] (y ∷ ys) first second same = absurd (none_in y ((same y).1 (first_in y ys)))
rising_same (x ∷ xs) [] first second same = absurd (none_in x ((same x).0 (first_in x xs)))
rising_same (x ∷ xs) (y ∷ ys) first second same =
    ap (λ (n : ℕ). n ∷ xs) one
    ∙ ap (λ (more : List ℕ). y ∷ more) (rising_same xs ys first.1 second.1 (λ n. (
      λ there. later_too x y xs ys one first n there (first_or_later y ys n ((same n).0 (later_in x xs n there))),
      λ there. later_too y x ys xs (sym one) second n there (first_or_later x xs n ((same n).1 (later_in y ys n there))),
    )))
  where
    one : x ≡ y
    one = same_first x y xs ys first second (first_or_later x xs y ((same y).1 (first_in y ys))) (first_or_later y ys x ((same x).0 (first_in x xs)))
