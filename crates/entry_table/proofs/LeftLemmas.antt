-- Which lists are left, by their groups and their places there.
use Rattle.std.proofs.Common.{◌≡◌, ◌∙◌, ℕ, zero, suc, ◌+◌, ◌-◌, ◌*◌, ◌/◌, ◌%◌, ◌^◌, ◌<◌, ◌≤◌, ◌==◌, nat_lt, Bool, true, false, ◌&&◌, not, ◌||◌, List, [], ◌∷◌, ◌++◌, length, set, get_or-set_other, get_or-set_same, ap, ap₂, refl, subst, sym, arith}
use Rattle.std.specs.Int.{trailing_zeros, w64}
use Rattle.std.specs.Prelude.{IfSome, IfNone, Option, Some, None}
use Rattle.std.specs.List.{list_all, slice_index_or}
use Rattle.std.proofs.lemmas.Bool.{lt-ltb, le-ltb, ltb-true, ltb-false, eqb-true, eqb-false, eq-eqb, ne_eqb}
use Rattle.std.proofs.lemmas.Nat.Bits.{bit_at-trailing_zeros}
use Rattle.configuration.specs.Bits.{has}
use Rattle.configuration.specs.Codes.{flag_at}
use Rattle.configuration.specs.Packed.{Words}
use Rattle.configuration.proofs.AgreementLemmas.{everything}
use Rattle.configuration.proofs.BitLemmas.{has_bit, has_none}
use Rattle.entry_table.proofs.SieveLemmas.{regrouped}
use Rattle.entry_table.specs.Sieves.{Group, Sieves, IsFirstLeft, IsFirstLeftForEach, bare, is_left, is_left_for_each, is_like, passes_all}

within : (a b n : ℕ) → nat_lt (a + b) n ≡ nat_lt b (n - a)
within a b n = by_test (nat_lt b (n - a)) refl
  where
    by_test : (t : Bool) → nat_lt b (n - a) ≡ t → nat_lt (a + b) n ≡ nat_lt b (n - a)
    by_test true e = let less = ltb-true b (n - a) e in lt-ltb (a + b) n (omega (arith, less)) ∙ sym e
    by_test false e = let more = ltb-false b (n - a) e in le-ltb (a + b) n (omega (arith, more)) ∙ sym e

-- the list at a place of a group
at_group : (sieves : Sieves) (i b : ℕ) (w : Words) → b < 64
    → is_left sieves (64 * i + b) w ≡ (nat_lt b (sieves.count - 64 * i) && passes_all (slice_index_or sieves.groups i bare) b w)
unfolding is_left
at_group sieves i b w below =
    let place : (64 * i + b) / 64 ≡ i = omega arith in
    let member : (64 * i + b) % 64 ≡ b = omega arith in
    ap₂ (λ p m. nat_lt (64 * i + b) sieves.count && passes_all (slice_index_or sieves.groups p bare) m w) place member
    ∙ ap (λ t. t && passes_all (slice_index_or sieves.groups i bare) b w) (within (64 * i) b sieves.count)

alike_all : {X : Type 0} (f g : X → Bool) → ((x : X) → f x ≡ g x) → (xs : List X) → list_all f xs ≡ list_all g xs
alike_all f g same [] = refl
alike_all f g same (x ∷ xs) = ap₂ (λ a b. a && b) (same x) (alike_all f g same xs)

module _ (sieves : Sieves) (ws : List Words) where
  -- each of some words at the list at a place of a group
  each_at_group : (i b : ℕ) → b < 64 → is_left_for_each sieves ws (64 * i + b)
      ≡ (nat_lt b (sieves.count - 64 * i) && list_all (passes_all (slice_index_or sieves.groups i bare) b) ws)
  unfolding is_left_for_each
  each_at_group i b below =
      ap (λ t. t && list_all (is_left sieves (64 * i + b)) ws) (within (64 * i) b sieves.count) ∙ by_test (nat_lt b (sieves.count - 64 * i)) refl
    where
      by_test : (t : Bool) → nat_lt b (sieves.count - 64 * i) ≡ t
          → (t && list_all (is_left sieves (64 * i + b)) ws) ≡ (t && list_all (passes_all (slice_index_or sieves.groups i bare) b) ws)
      by_test true e =
          alike_all (is_left sieves (64 * i + b)) (passes_all (slice_index_or sieves.groups i bare) b)
          (λ w. at_group sieves i b w below ∙ ap (λ t. t && passes_all (slice_index_or sieves.groups i bare) b w) e) ws
      by_test false e = refl

  -- there are no more than these
  past : (number : ℕ) → sieves.count ≤ number → is_left_for_each sieves ws number ≡ false
  unfolding is_left_for_each
  past number h = ap (λ t. t && list_all (is_left sieves number) ws) (le-ltb number sieves.count h)

  -- none of the groups before a place has a list that is left
  abbrev pub NoneBefore : ℕ → Type 0
  NoneBefore i = (number : ℕ) → number < 64 * i → is_left_for_each sieves ws number ≡ false

  -- a word has the bits of those of a group that are left
  abbrev pub AreLeft : ℕ → ℕ → Type 0
  AreLeft i left =
      (b : ℕ) → b < 64 → has left b ≡ (nat_lt b (sieves.count - 64 * i) && list_all (passes_all (slice_index_or sieves.groups i bare) b) ws)

  -- at or above a place
  from : (i number : ℕ) (t : Bool) → nat_lt number (64 * i) ≡ t → NoneBefore i
      → ((b : ℕ) → number ≡ 64 * i + b → is_left_for_each sieves ws (64 * i + b) ≡ false) → is_left_for_each sieves ws number ≡ false
  from i number true e before here = before number (ltb-true number (64 * i) e)
  from i number false e before here =
      let above = ltb-false number (64 * i) e in
      let is : number ≡ 64 * i + (number - 64 * i) = omega (arith, above) in
      ap (λ n. is_left_for_each sieves ws n) is ∙ here (number - 64 * i) is

  pub none_more : (i left : ℕ) → left ≡ 0 → AreLeft i left → NoneBefore i → NoneBefore (i + 1)
  none_more i left nothing are before number below =
      from i number (nat_lt number (64 * i)) refl before (λ b is.
      let small : b < 64 = omega arith in
      each_at_group i b small ∙ sym (are b small) ∙ ap (λ x. has x b) nothing ∙ has_none b)

  pub none_at_all : (i : ℕ) → sieves.count ≤ 64 * i → NoneBefore i → (number : ℕ) → is_left_for_each sieves ws number ≡ false
  none_at_all i enough before number =
      from i number (nat_lt number (64 * i)) refl before (λ b is. past (64 * i + b) (omega arith))

  pub first_found : (i left : ℕ) → (left ≡ 0 → ⊥) → left < 2 ^ 64 → AreLeft i left → NoneBefore i
      → IsFirstLeftForEach sieves ws (64 * i + trailing_zeros w64 left)
  first_found i left some fits are before =
      let low = bit_at-trailing_zeros w64 left (omega arith) fits in
      let lowest = trailing_zeros w64 left in
      let small : lowest < 64 = low.0 in
      record {
        left = each_at_group i lowest small ∙ sym (are lowest small) ∙ has_bit left lowest ∙ ap flag_at low.1;
        before = λ other below.
            from i other (nat_lt other (64 * i)) refl before (λ b is.
            let less : b < lowest = omega arith in
            each_at_group i b (omega arith) ∙ sym (are b (omega arith)) ∙ has_bit left b ∙ ap flag_at (low.2 b less));
      }

-- what is left for each of one is left for it
pub each_of_one : (sieves : Sieves) (w : Words) (number : ℕ) → is_left_for_each sieves (w ∷ []) number ≡ is_left sieves number w
unfolding is_left_for_each is_left
each_of_one sieves w number = once (nat_lt number sieves.count) (passes_all (slice_index_or sieves.groups (number / 64) bare) (number % 64) w)
  where
    once : (t p : Bool) → (t && ((t && p) && true)) ≡ (t && p)
    once true true = refl
    once true false = refl
    once false p = refl

first_of_one : (sieves : Sieves) (w : Words) (number : ℕ) → IsFirstLeftForEach sieves (w ∷ []) number → IsFirstLeft sieves w number
first_of_one sieves w number first = record {
  left = sym (each_of_one sieves w number) ∙ first.left;
  before = λ other below. sym (each_of_one sieves w other) ∙ first.before other below;
}

pub first_for_one : (sieves : Sieves) (w : Words) (ws : List Words) (found : Option ℕ) → ws ≡ w ∷ []
    → IfSome found (IsFirstLeftForEach sieves ws) → IfSome found (IsFirstLeft sieves w)
first_for_one sieves w ws (Some number) one first =
    first_of_one sieves w number (subst (λ (xs : List Words). IsFirstLeftForEach sieves xs number) one first)
first_for_one sieves w ws None one first = first

pub none_for_one : (sieves : Sieves) (w : Words) (ws : List Words) (found : Option ℕ) → ws ≡ w ∷ []
    → IfNone found ((number : ℕ) → is_left_for_each sieves ws number ≡ false) → IfNone found ((number : ℕ) → is_left sieves number w ≡ false)
none_for_one sieves w ws (Some number) one none = none
none_for_one sieves w ws None one none =
    λ number. sym (each_of_one sieves w number) ∙ ap (λ (xs : List Words). is_left_for_each sieves xs number) (sym one) ∙ none number

-- ---- one list is narrowed

module _ (count : ℕ) (groups : List Group) (k : ℕ) (group : Group) (w : Words) where
  abbrev old : Sieves
  old = record { count = count; groups = groups }

  abbrev new : Sieves
  new = record { count = count; groups = set groups k group }

  pub same_group : (number : ℕ) (more : Bool) → k < length groups → number / 64 ≡ k
      → passes_all group (number % 64) w ≡ (passes_all (slice_index_or groups k bare) (number % 64) w && more)
      → is_left new number w ≡ (is_left old number w && more)
  unfolding is_left
  same_group number more inside place is =
      let there = nat_lt number count in
      let m = number % 64 in
      ap (λ p. there && passes_all (slice_index_or (set groups k group) p bare) m w) place
      ∙ ap (λ g. there && passes_all g m w) (get_or-set_same groups k group bare inside) ∙ ap (λ b. there && b) is
      ∙ regrouped there (passes_all (slice_index_or groups k bare) m w) more
      ∙ ap (λ p. (there && passes_all (slice_index_or groups p bare) m w) && more) (sym place)

  pub other_group : (number : ℕ) → (number / 64 ≡ k → ⊥) → is_left new number w ≡ is_left old number w
  unfolding is_left
  other_group number other =
      ap (λ g. nat_lt number count && passes_all g (number % 64) w) (get_or-set_other groups k (number / 64) group bare other)

  module _ (member : ℕ) (allowed : Bool) (inside : k < length groups)
      (is : (m : ℕ) → m < 64 → passes_all group m w ≡ (passes_all (slice_index_or groups k bare) m w && (not (m == member) || allowed))) where
    member_of : (number : ℕ) → number / 64 ≡ k → is_left new number w ≡ (is_left old number w && (not (number % 64 == member) || allowed))
    member_of number place =
        let small : number % 64 < 64 = omega arith in
        same_group number (not (number % 64 == member) || allowed) inside place (is (number % 64) small)

    pub narrowed_here : (number : ℕ) → number / 64 ≡ k → number % 64 ≡ member → is_left new number w ≡ (is_left old number w && allowed)
    narrowed_here number place same =
        member_of number place ∙ ap (λ t. is_left old number w && (not t || allowed)) (eq-eqb (number % 64) member same)

    pub narrowed_others : (number other : ℕ) → number / 64 ≡ k → number % 64 ≡ member → (other ≡ number → ⊥)
        → is_left new other w ≡ is_left old other w
    narrowed_others number other place same apart = by_test (other / 64 == k) refl
      where
        and_true : (b : Bool) → (b && true) ≡ b
        and_true true = refl
        and_true false = refl

        by_test : (t : Bool) → (other / 64 == k) ≡ t → is_left new other w ≡ is_left old other w
        by_test true e =
            let there : other / 64 ≡ k = eqb-true (other / 64) k e in
            let different : other % 64 ≡ member → ⊥ = λ one. absurd (omega arith) in
            member_of other there ∙ ap (λ t. is_left old other w && (not t || allowed)) (ne_eqb (other % 64) member different)
            ∙ and_true (is_left old other w)
        by_test false e = other_group other (eqb-false (other / 64) k e)

  -- of the lists that there are, each is asked what it was
  pub settled : (members : ℕ) → k < length groups → ((b : ℕ) → b < 64 → has members b ≡ nat_lt b (count - 64 * k))
      → ((m : ℕ) → m < 64 → has members m ≡ true → passes_all group m w ≡ passes_all (slice_index_or groups k bare) m w)
      → (number : ℕ) → is_left new number w ≡ is_left old number w
  unfolding is_left
  settled members inside are same number = by_test (number / 64 == k) refl
    where
      by_count : (t : Bool) → nat_lt number count ≡ t → number / 64 ≡ k
          → (t && passes_all (slice_index_or (set groups k group) (number / 64) bare) (number % 64) w)
          ≡ (t && passes_all (slice_index_or groups (number / 64) bare) (number % 64) w)
      by_count true e place =
          let less = ltb-true number count e in
          let small : number % 64 < 64 = omega arith in
          let within : number % 64 < count - 64 * k = omega (arith, less, place) in
          ap (λ p. passes_all (slice_index_or (set groups k group) p bare) (number % 64) w) place
          ∙ ap (λ g. passes_all g (number % 64) w) (get_or-set_same groups k group bare inside)
          ∙ same (number % 64) small (are (number % 64) small ∙ lt-ltb (number % 64) (count - 64 * k) within)
          ∙ ap (λ p. passes_all (slice_index_or groups p bare) (number % 64) w) (sym place)
      by_count false e place = refl

      by_test : (t : Bool) → (number / 64 == k) ≡ t → is_left new number w ≡ is_left old number w
      by_test true e = by_count (nat_lt number count) refl (eqb-true (number / 64) k e)
      by_test false e = other_group number (eqb-false (number / 64) k e)

-- one group more that asks nothing
pub bare_more : (groups : List Group) → ((k : ℕ) → slice_index_or groups k bare ≡ bare) → (k : ℕ)
    → slice_index_or (groups ++ bare ∷ []) k bare ≡ bare
bare_more [] is zero = refl
bare_more [] is (suc k) = refl
bare_more (group ∷ groups) is zero = is zero
bare_more (group ∷ groups) is (suc k) = bare_more groups (λ j. is (suc j)) k

-- where nothing is asked each list is left
pub left_of_bare : (sieves : Sieves) → ((k : ℕ) → slice_index_or sieves.groups k bare ≡ bare) → (number : ℕ) (w : Words)
    → is_left sieves number w ≡ nat_lt number sieves.count
unfolding is_left
left_of_bare sieves are number w =
    ap (λ group. nat_lt number sieves.count && passes_all group (number % 64) w) (are (number / 64))
    ∙ ap (λ b. nat_lt number sieves.count && (b && true)) all_like ∙ and_true (nat_lt number sieves.count)
  where
    all_like : is_like bare.alike w ≡ true
    all_like = ap₂ (λ a b. a && b) (everything w.lines) (ap₂ (λ a b. a && b) (everything w.ephemerals) (everything w.cuts))

    and_true : (b : Bool) → (b && true) ≡ b
    and_true true = refl
    and_true false = refl
