-- Each shard asked by itself: where all agree, the histories of all are what the calls went through, and where one doesn't, they aren't.
use Rattle.std.proofs.Common.{◌≡◌, ◌∙◌, ◌+◌, ◌<◌, ◌≤◌, ◌⊎◌, inl, inr, ℕ, zero, suc, Bool, true, false, List, [], ◌∷◌, length, refl, sym, ap, subst, arith}
use Rattle.std.specs.Prelude.{◌%◌, slice_index_or}
use Rattle.std.specs.List.{AllZip, list_any, range_with_len}
use Rattle.std.proofs.Math.Bool.{beq}
use Rattle.std.proofs.lemmas.Bool.{cases_lt, true≢false}
use Rattle.std.proofs.lemmas.List.{get_or_past}
use Rattle.mg_model.specs.declared.events.Event.{Event}
use Rattle.run_account.specs.Comparing.{Agree, AgreesIn, Differ, DiffersIn, IsCompared}
use Rattle.run_account.specs.Runs.{within}
use Rattle.run_account.proofs.AgreedTrails.{alone_in_all}

-- ---- answers, place by place

-- whether there is a no among answers
abbrev pub has_no : List Bool → Bool
has_no answers = list_any (λ (answer : Bool). beq answer false) answers

module _ (R : ℕ → Bool → Type 0) where
  each_answers_yes : (a n : ℕ) (answers : List Bool) → AllZip R (range_with_len a n) answers → has_no answers ≡ false → (k : ℕ) → k < n → R (a + k) true
  each_answers_yes a zero answers all none k below = absurd (omega (arith, below))
  each_answers_yes a (suc n) [] all none k below = absurd all
  each_answers_yes a (suc n) (false ∷ more) all none k below = absurd (true≢false none)
  each_answers_yes a (suc n) (true ∷ more) (one, all) none zero below = subst (λ (place : ℕ). R place true) (let same : a ≡ a + zero = omega arith in same) one
  each_answers_yes a (suc n) (true ∷ more) (one, all) none (suc k) below =
      subst (λ (place : ℕ). R place true) (let same : a + 1 + k ≡ a + suc k = omega arith in same)
      (each_answers_yes (a + 1) n more all none k (omega (arith, below)))

  one_answers_no : (a n : ℕ) (answers : List Bool) → AllZip R (range_with_len a n) answers → has_no answers ≡ true → (k : ℕ) × R k false
  one_answers_no a zero [] all some = absurd (true≢false (sym some))
  one_answers_no a zero (answer ∷ more) all some = absurd all
  one_answers_no a (suc n) [] all some = absurd all
  one_answers_no a (suc n) (false ∷ more) (one, all) some = (a, one)
  one_answers_no a (suc n) (true ∷ more) (one, all) some = one_answers_no (a + 1) n more all some

-- ---- the shards put together

module _ (count : ℕ) (histories trails : List (List Event)) where
  abbrev at : ℕ → List Event
  at place = slice_index_or histories place []

  -- what the answer of the shard at a place says
  abbrev pub Answers : ℕ → Bool → Type 0
  Answers place agrees = IsCompared count place (at place) trails agrees

  -- where all histories agree, that of a shard does
  one_agrees : Agree count histories trails → (place : ℕ) → AgreesIn count place (at place) trails
  one_agrees agree place = record {
    whole = λ number own. agree.whole number
        ∙ alone_in_all number place histories (λ i other. agree.own number i (λ same. other (sym same ∙ own)));
    own = λ number other. agree.own number place other;
  }

  one_differs : (place : ℕ) → DiffersIn count place (at place) trails → Differ count histories trails
  one_differs place (inl not) = inl (λ agree. not (one_agrees agree place))
  one_differs place (inr other) = inr other

  -- where there are so many, and each agrees, all do
  all_agree : length histories ≡ count → 0 < count → ((place : ℕ) → place < count → AgreesIn count place (at place) trails) → Agree count histories trails
  all_agree all some each = record {
    whole = λ number.
        let place = number % count in
        let below : place < count = omega (arith, some) in
        (each place below).whole number refl
        ∙ sym (alone_in_all number place histories (λ i other. own_alone number i (λ same. other (sym same))));
    own = own_alone;
  }
    where
      own_alone : (number place : ℕ) → (number % count ≡ place → ⊥) → within number (at place) ≡ []
      own_alone number place other = by_place (cases_lt place count)
        where
          by_place : (place < count) ⊎ (count ≤ place) → within number (at place) ≡ []
          by_place (inl below) = (each place below).own number other
          by_place (inr past) = ap (within number) (get_or_past histories place [] (omega (arith, all, past)))

  -- ---- by their answers

  pub no_noes : length histories ≡ count → 0 < count → (n : ℕ) → n ≡ count → (answers : List Bool) → AllZip Answers (range_with_len 0 n) answers
      → has_no answers ≡ false → Agree count histories trails
  no_noes all some n many answers each none =
      all_agree all some (λ place below. subst (λ (k : ℕ). Answers k true) (let same : 0 + place ≡ place = omega arith in same)
      (each_answers_yes Answers 0 n answers each none place (omega (arith, many, below))))

  pub some_no : (n : ℕ) (answers : List Bool) → AllZip Answers (range_with_len 0 n) answers → has_no answers ≡ true → Differ count histories trails
  some_no n answers each some = let found = one_answers_no Answers 0 n answers each some in one_differs found.0 found.1
