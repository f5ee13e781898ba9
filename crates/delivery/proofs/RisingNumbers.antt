-- Numbers in rising order: whether one is among them, one more at its place, and one out.
use Rattle.std.proofs.Common.{arith, zero, suc, Ok, Err, ◌≡◌, ◌∙◌, ◌<◌, ◌≤◌, ◌+◌, ◌==◌, ◌||◌, ℕ, Bool, true, false, inl, inr, List, ◌∷◌, length, get_or, refl, sym, ap, subst}
use Rattle.std.specs.Prelude.{if◌then◌else◌, not}
use Rattle.std.specs.List.{insert, remove, list_any}
use Rattle.std.specs.List.Sorted.{IsBinarySearchResult}
use Rattle.std.specs.Ordering.{nat_cmp}
use Rattle.std.proofs.lemmas.Bool.{cases_eq, cases_lt, eq-eqb}
use Rattle.std.proofs.lemmas.Bool.Decides.{nat_tests}
use Rattle.std.proofs.lemmas.List.{get_or_default}
use Rattle.std.proofs.lemmas.List.Edits.{length-insert, get_or-insert_below, get_or-insert_at, get_or-insert_above, length-remove, get_or-remove_below, get_or-remove_above}
use Rattle.std.proofs.lemmas.List.Folds.{list_any_at, list_any_none}
use Rattle.std.proofs.lemmas.List.Sorted.{list_any-IsPermutation, searched, IsPermutation-insert, IsPermutation-remove}
use Rattle.mg_model.specs.Members.{is_among}
use Rattle.delivery.specs.Rising.{Rises}

differs : (n m : ℕ) → (n ≡ m → ⊥) → (n == m) ≡ false
differs n m other = grind (arith, nat_tests)

pub among : (xs : List ℕ) (i n : ℕ) → i < length xs → get_or xs i 0 ≡ n → is_among xs n ≡ true
among xs i n within same = list_any_at (λ m. n == m) xs i 0 within (eq-eqb n (get_or xs i 0) (sym same))

pub not_among : (xs : List ℕ) (n : ℕ) → ((k : ℕ) → k < length xs → get_or xs k 0 ≡ n → ⊥) → is_among xs n ≡ false
not_among xs n other =
    list_any_none (λ m. n == m) xs (λ k d within. differs n (get_or xs k d) (λ same. other k within (get_or_default xs k 0 d within ∙ sym same)))

-- a number is less than those from a place on, and greater than those before it
pub not_there : (xs : List ℕ) (place n : ℕ) → ((k : ℕ) → k < place → get_or xs k 0 < n) → ((k : ℕ) → place ≤ k → k < length xs → n < get_or xs k 0)
    → is_among xs n ≡ false
not_there xs place n before behind = not_among xs n differ
  where
    differ : (k : ℕ) → k < length xs → get_or xs k 0 ≡ n → ⊥
    differ k within same = elim (cases_lt k place) [
      | inl lt ↦ omega (arith, before k lt, same)
      | inr ge ↦ omega (arith, behind k ge within, same)
    ]

pub with_one_more : (xs : List ℕ) (place n m : ℕ) → is_among (insert xs place n) m ≡ (if m == n then true else is_among xs m)
with_one_more xs place n m =
    sym (list_any-IsPermutation (λ x. m == x) (n ∷ xs) (insert xs place n) (IsPermutation-insert xs place n)) ∙ by_test (m == n)
  where
    by_test : (same : Bool) → (same || is_among xs m) ≡ (if same then true else is_among xs m)
    by_test true = refl
    by_test false = refl

pub rises_with : (xs : List ℕ) (place n : ℕ) → Rises xs → place ≤ length xs → ((k : ℕ) → k < place → get_or xs k 0 < n)
    → ((k : ℕ) → place ≤ k → k < length xs → n < get_or xs k 0) → Rises (insert xs place n)
rises_with xs place n rises within before behind i j lt below = elim (cases_lt j place) [
  | inl j_before ↦ (
      let at_i = get_or-insert_below xs place n 0 i (omega (arith, lt, j_before)) within in
      let at_j = get_or-insert_below xs place n 0 j j_before within in
      omega (arith, at_i, at_j, rises i j lt (omega (arith, j_before, within))))
  | inr j_behind ↦ at_or_behind j_behind
]
  where
    many : length (insert xs place n) ≡ length xs + 1
    many = length-insert xs place n within

    at_or_behind : place ≤ j → get_or (insert xs place n) i 0 < get_or (insert xs place n) j 0
    at_or_behind j_behind = elim (cases_lt place j) [
      | inl past ↦ past_it past
      | inr here ↦ (
          let same : j ≡ place = omega (arith, here, j_behind) in
          let at_j : get_or (insert xs place n) j 0 ≡ n = ap (λ k. get_or (insert xs place n) k 0) same ∙ get_or-insert_at xs place n 0 within in
          let at_i = get_or-insert_below xs place n 0 i (omega (arith, lt, same)) within in
          omega (arith, at_i, at_j, before i (omega (arith, lt, same))))
    ]
      where
        past_it : place < j → get_or (insert xs place n) i 0 < get_or (insert xs place n) j 0
        past_it past = behind_by (pred_of j past)
          where
            pred_of : (k : ℕ) → place < k → (p : ℕ) × (k ≡ p + 1)
            pred_of zero h = elim h [ ]
            pred_of (suc p) h = (p, omega arith)

            behind_by : (p : ℕ) × (j ≡ p + 1) → get_or (insert xs place n) i 0 < get_or (insert xs place n) j 0
            behind_by (p, is) =
                let place_le : place ≤ p = omega (arith, past, is) in
                let p_within : p < length xs = omega (arith, below, many, is) in
                let at_j : get_or (insert xs place n) j 0 ≡ get_or xs p 0 =
                ap (λ k. get_or (insert xs place n) k 0) is ∙ get_or-insert_above xs place n 0 p place_le within in
                elim (cases_lt i place) [
                  | inl i_before ↦ (
                      let at_i = get_or-insert_below xs place n 0 i i_before within in
                      omega (arith, at_i, at_j, before i i_before, behind p place_le p_within))
                  | inr i_behind ↦ elim (cases_lt place i) [
                    | inl i_past ↦ (
                        let (q, is_q) = pred_of i i_past in
                        let at_i : get_or (insert xs place n) i 0 ≡ get_or xs q 0 =
                        ap (λ k. get_or (insert xs place n) k 0) is_q ∙ get_or-insert_above xs place n 0 q (omega (arith, i_past, is_q)) within in
                        omega (arith, at_i, at_j, rises q p (omega (arith, lt, is, is_q)) p_within))
                    | inr i_here ↦ (
                        let same : i ≡ place = omega (arith, i_here, i_behind) in
                        let at_i : get_or (insert xs place n) i 0 ≡ n = ap (λ k. get_or (insert xs place n) k 0) same ∙ get_or-insert_at xs place n 0 within in
                        omega (arith, at_i, at_j, behind p place_le p_within))
                  ]
                ]

pub without : (xs : List ℕ) (place n m : ℕ) → Rises xs → place < length xs → get_or xs place 0 ≡ n
    → is_among (remove xs place) m ≡ (if m == n then false else is_among xs m)
without xs place n m rises within same = elim (cases_eq m n) [
  | inl is_n ↦ (
      not_among (remove xs place) m (λ k below is. differ k (omega (arith, below, length-remove xs place within)) (is ∙ is_n))
      ∙ ap (λ (b : Bool). if b then false else is_among xs m) (sym (eq-eqb m n is_n)))
  | inr other ↦ (
      ap (λ (b : Bool). b || is_among (remove xs place) m) (sym (differs m n other))
      ∙ sym (list_any-IsPermutation (λ x. m == x) xs (n ∷ remove xs place) (IsPermutation-remove xs place n within (sym same ∙ get_or_default xs place 0 n within)))
      ∙ ap (λ (b : Bool). if b then false else is_among xs m) (sym (differs m n other)))
]
  where
    differ : (k : ℕ) → k + 1 < length xs → get_or (remove xs place) k 0 ≡ n → ⊥
    differ k below is = elim (cases_lt k place) [
      | inl lt ↦ (
          let at_k = get_or-remove_below xs place 0 k lt within in
          omega (arith, at_k, is, same, rises k place lt within))
      | inr ge ↦ (
          let at_k = get_or-remove_above xs place 0 k ge within in
          omega (arith, at_k, is, same, rises place (k + 1) (omega (arith, ge)) below))
    ]

pub rises_without : (xs : List ℕ) (place : ℕ) → Rises xs → place < length xs → Rises (remove xs place)
rises_without xs place rises within i j lt below = elim (cases_lt i place) [
  | inl i_before ↦ elim (cases_lt j place) [
    | inl j_before ↦ (
        let at_i = get_or-remove_below xs place 0 i i_before within in
        let at_j = get_or-remove_below xs place 0 j j_before within in
        omega (arith, at_i, at_j, rises i j lt (omega (arith, j_before, within))))
    | inr j_behind ↦ (
        let at_i = get_or-remove_below xs place 0 i i_before within in
        let at_j = get_or-remove_above xs place 0 j j_behind within in
        omega (arith, at_i, at_j, rises i (j + 1) (omega (arith, lt)) (omega (arith, below, fewer))))
  ]
  | inr i_behind ↦ (
      let at_i = get_or-remove_above xs place 0 i i_behind within in
      let at_j = get_or-remove_above xs place 0 j (omega (arith, i_behind, lt)) within in
      omega (arith, at_i, at_j, rises (i + 1) (j + 1) (omega (arith, lt)) (omega (arith, below, fewer))))
]
  where
    fewer : length (remove xs place) + 1 ≡ length xs
    fewer = length-remove xs place within

-- ---- what a search tells

never_falls : (xs : List ℕ) → Rises xs → (i j : ℕ) → i ≤ j → j < length xs → get_or xs i 0 ≤ get_or xs j 0
never_falls xs rises i j le below = elim (cases_lt i j) [
  | inl lt ↦ omega (arith, rises i j lt below)
  | inr ge ↦ (
      let same : i ≡ j = omega (arith, le, ge) in
      omega (arith, ap (λ k. get_or xs k 0) same))
]

pub found_at : (xs : List ℕ) (i n : ℕ) → Rises xs → IsBinarySearchResult (λ y. nat_cmp y n) xs (Ok i) → (i < length xs) × (get_or xs i 0 ≡ n)
found_at xs i n rises position = searched xs n (Ok i) position (never_falls xs rises)

pub place_for : (xs : List ℕ) (i n : ℕ) → Rises xs → IsBinarySearchResult (λ y. nat_cmp y n) xs (Err i)
    → (i ≤ length xs) × ((k : ℕ) → k < i → get_or xs k 0 < n) × ((k : ℕ) → i ≤ k → k < length xs → n < get_or xs k 0)
place_for xs i n rises position = searched xs n (Err i) position (never_falls xs rises)

pub found_among : (xs : List ℕ) (i n : ℕ) → Rises xs → IsBinarySearchResult (λ y. nat_cmp y n) xs (Ok i) → is_among xs n ≡ true
found_among xs i n rises position = let at = found_at xs i n rises position in among xs i n at.0 at.1

pub lacks : (xs : List ℕ) (i n : ℕ) → Rises xs → IsBinarySearchResult (λ y. nat_cmp y n) xs (Err i) → is_among xs n ≡ false
lacks xs i n rises position = let at = place_for xs i n rises position in not_there xs i n at.1 at.2

-- a number more that is there already, and one out that isn't
pub with_same : (xs : List ℕ) (n m : ℕ) → is_among xs n ≡ true → is_among xs m ≡ (if m == n then true else is_among xs m)
with_same xs n m there = elim (cases_eq m n) [
  | inl same ↦ ap (is_among xs) same ∙ there ∙ ap (λ (b : Bool). if b then true else is_among xs m) (sym (eq-eqb m n same))
  | inr other ↦ ap (λ (b : Bool). if b then true else is_among xs m) (sym (differs m n other))
]

pub lacking : (xs : List ℕ) (n m : ℕ) → is_among xs n ≡ false → is_among xs m ≡ (if m == n then false else is_among xs m)
lacking xs n m none = elim (cases_eq m n) [
  | inl same ↦ ap (is_among xs) same ∙ none ∙ ap (λ (b : Bool). if b then false else is_among xs m) (sym (eq-eqb m n same))
  | inr other ↦ ap (λ (b : Bool). if b then false else is_among xs m) (sym (differs m n other))
]
