-- What all sieves of a group let pass, where one is new or one is narrowed.
use Rattle.std.proofs.Common.{◌≡◌, ◌∙◌, ℕ, zero, suc, nat_eq, ◌<◌, Bool, true, false, ◌&&◌, ◌||◌, not, ◌*◌, ◌%◌, List, [], ◌∷◌, ◌++◌, ◌+◌, ◌^◌, ◌==◌, slice_index, length, drop, set, bit_and, refl, ap, sym, arith}
use Rattle.std.specs.Int.RustNames.{bit_or}
use Rattle.std.specs.List.{list_all, slice_index_or}
use Rattle.configuration.specs.Bits.{has}
use Rattle.std.proofs.lemmas.Bool.{eqb-true, eqb-false}
use Rattle.configuration.specs.Fields.{field_of}
use Rattle.configuration.specs.Packed.{Words}
use Rattle.configuration.specs.Regions.{ValueSet, is_in, word_at}
use Rattle.configuration.proofs.WordLemmas.{small}
use Rattle.configuration.proofs.BitLemmas.{has_and, has_none, has_one, has_or}
use Rattle.configuration.proofs.NumberLemmas.{at}
use Rattle.entry_table.specs.Sieves.{IsOfField, IsSameField, Sieve, number_in, passes, passes_sieves}

pub regrouped : (a b c : Bool) → (a && (b && c)) ≡ ((a && b) && c)
regrouped true b c = refl
regrouped false b c = refl

module _ {X : Type 0} (test : X → Bool) where
  pub all_with_last : (xs : List X) (x : X) → list_all test (xs ++ x ∷ []) ≡ (list_all test xs && test x)
  all_with_last [] x = alone (test x)
    where
      alone : (b : Bool) → (b && true) ≡ (true && b)
      alone true = refl
      alone false = refl
  all_with_last (y ∷ ys) x = ap (λ b. test y && b) (all_with_last ys x) ∙ regrouped (test y) (list_all test ys) (test x)

  -- one of them asks something more than it did
  pub all_with_narrowed : (xs : List X) (k : ℕ) (x none : X) (more : Bool) → k < length xs
      → test x ≡ (test (slice_index_or xs k none) && more) → list_all test (set xs k x) ≡ (list_all test xs && more)
  all_with_narrowed [] k x none more within is = absurd (omega arith)
  all_with_narrowed (y ∷ ys) zero x none more within is =
      ap (λ b. b && list_all test ys) is ∙ turned (test y) more (list_all test ys)
    where
      turned : (a b c : Bool) → ((a && b) && c) ≡ ((a && c) && b)
      turned true true true = refl
      turned true true false = refl
      turned true false true = refl
      turned true false false = refl
      turned false b c = refl
  all_with_narrowed (y ∷ ys) (suc k) x none more within is =
      ap (λ b. test y && b) (all_with_narrowed ys k x none more (omega arith) is) ∙ regrouped (test y) (list_all test ys) more

-- of what is left one more is asked
pub one_more_asked : {X : Type 0} (test : X → Bool) (xs : List X) (i : ℕ) (x : X) (before after : Bool) → i < length xs → x ≡ slice_index_or xs i x
    → after ≡ (before && test x) → (after && list_all test (drop (i + 1) xs)) ≡ (before && list_all test (drop i xs))
one_more_asked test xs i x before after within is asked =
    let rest = list_all test (drop (i + 1) xs) in
    ap (λ b. b && rest) asked ∙ sym (regrouped before (test x) rest) ∙ ap (λ ys. before && list_all test ys) (sym (at xs i x within is))

-- of what is left of a group's members, a sieve more is asked
pub sifted : (sieves : List Sieve) (i : ℕ) (sieve : Sieve) (left row member : ℕ) (w : Words) → i < length sieves
    → sieve ≡ slice_index_or sieves i sieve → has row member ≡ passes sieve member w
    → (has (bit_and left row) member && passes_sieves (drop (i + 1) sieves) member w)
    ≡ (has left member && passes_sieves (drop i sieves) member w)
sifted sieves i sieve left row member w within is of =
    one_more_asked (λ s. passes s member w) sieves i sieve (has left member) (has (bit_and left row) member) within is
    (has_and left row member ∙ ap (λ b. has left member && b) of)

pub same_number : (sieve other : Sieve) (w : Words) → IsSameField sieve other → number_in sieve w ≡ number_in other w
same_number sieve other w same =
    ap (λ k. field_of (word_at w k) sieve.at sieve.bits) same.word ∙ ap (λ k. field_of (word_at w other.word) k sieve.bits) same.at
    ∙ ap (λ k. field_of (word_at w other.word) other.at k) same.bits

-- ---- members that were narrowed last

and_true : (b : Bool) → (b && true) ≡ b
and_true true = refl
and_true false = refl

-- where there are none, the rows alone tell
pub by_rows : (sieve : Sieve) (member : ℕ) (w : Words) → sieve.members ≡ 0
    → passes sieve member w ≡ has (slice_index sieve.rows (number_in sieve w)) member
unfolding passes
by_rows sieve member w none =
    let row = has (slice_index sieve.rows (number_in sieve w)) member in
    let allowed = has sieve.allowed (number_in sieve w) in
    ap (λ b. row && (not b || allowed)) (ap (λ n. has n member) none ∙ has_none member) ∙ and_true row

pub any_allowed : (sieve : Sieve) (allowed member : ℕ) (w : Words) → sieve.members ≡ 0
    → passes (record sieve { allowed = allowed }) member w ≡ passes sieve member w
any_allowed sieve allowed member w none = by_rows (record sieve { allowed = allowed }) member w none ∙ sym (by_rows sieve member w none)

-- the rows hear of them
pub flushed : (sieve : Sieve) (rows : List ℕ) (member : ℕ) (w : Words) → member < 64
    → ((n b : ℕ) → n < 2 ^ sieve.bits → b < 64
    → has (slice_index rows n) b ≡ (has (slice_index sieve.rows n) b && (not (has sieve.members b) || has sieve.allowed n)))
    → passes (record sieve { rows = rows; members = 0 }) member w ≡ passes sieve member w
unfolding passes
flushed sieve rows member w below narrowed =
    by_rows (record sieve { rows = rows; members = 0 }) member w refl
    ∙ narrowed (number_in sieve w) member (small (word_at w sieve.word) sieve.at sieve.bits) below

-- what a row and these tell together
pub told_together : (sieve : Sieve) (result number flag member : ℕ) (w : Words) → number ≡ number_in sieve w → flag ≡ field_of sieve.allowed number 1
    → has result member ≡ (has (slice_index sieve.rows number) member && (not (has sieve.members member) || not (nat_eq flag 0)))
    → has result member ≡ passes sieve member w
unfolding passes has
told_together sieve result number flag member w is flag_is told =
    told ∙ ap (λ f. has (slice_index sieve.rows number) member && (not (has sieve.members member) || not (nat_eq f 0))) flag_is
    ∙ ap (λ n. has (slice_index sieve.rows n) member && (not (has sieve.members member) || has sieve.allowed n)) is

-- one more of them
pub one_more_member : (sieve : Sieve) (member other : ℕ) (w : Words) (set : ValueSet) → member < 64
    → sieve.allowed ≡ set.allowed → IsOfField sieve set
    → passes (record sieve { members = bit_or sieve.members (1 * 2 ^ member % 2 ^ 64) }) other w
    ≡ (passes sieve other w && (not (other == member) || is_in set w))
unfolding passes is_in
one_more_member sieve member other w set small same field =
    let number = number_in sieve w in
    let row = has (slice_index sieve.rows number) other in
    let p = has sieve.members other in
    let its = field_of (word_at w set.word) set.at set.bits in
    let one_number : number ≡ its =
    ap (λ k. field_of (word_at w k) sieve.at sieve.bits) field.word ∙ ap (λ k. field_of (word_at w set.word) k sieve.bits) field.at
    ∙ ap (λ k. field_of (word_at w set.word) set.at k) field.bits in
    let in_set : has sieve.allowed number ≡ has set.allowed its = ap (λ a. has a number) same ∙ ap (has set.allowed) one_number in
    ap (λ b. row && (not b || has sieve.allowed number))
    (has_or sieve.members (1 * 2 ^ member % 2 ^ 64) other ∙ ap (λ q. p || q) (has_one member other small))
    ∙ parted row p (other == member) (has sieve.allowed number)
    ∙ ap (λ a. (row && (not p || has sieve.allowed number)) && (not (other == member) || a)) in_set
  where
    parted : (r p q a : Bool) → (r && (not (p || q) || a)) ≡ ((r && (not p || a)) && (not q || a))
    parted true true true true = refl
    parted true true true false = refl
    parted true true false true = refl
    parted true true false false = refl
    parted true false true true = refl
    parted true false true false = refl
    parted true false false true = refl
    parted true false false false = refl
    parted false p q a = refl

-- where the row of a number has all of some members, and the other rows have none, each of these wants the number
pub wants_number : (sieve : Sieve) (members number member : ℕ) (w : Words)
    → ((b : ℕ) → has members b ≡ true → has (slice_index sieve.rows number) b ≡ true)
    → ((n b : ℕ) → n < 2 ^ sieve.bits → (n ≡ number → ⊥) → has members b ≡ true → has (slice_index sieve.rows n) b ≡ false)
    → sieve.members ≡ 0 → has members member ≡ true → passes sieve member w ≡ (number_in sieve w == number)
wants_number sieve members number member w all alone none has_member = by_rows sieve member w none ∙ by_test (there == number) refl
  where
    there : ℕ
    there = number_in sieve w

    by_test : (t : Bool) → (there == number) ≡ t → has (slice_index sieve.rows there) member ≡ t
    by_test true e = ap (λ n. has (slice_index sieve.rows n) member) (eqb-true there number e) ∙ all member has_member
    by_test false e = alone there member (small (word_at w sieve.word) sieve.at sieve.bits) (eqb-false there number e) has_member

-- nothing is left of nothing, and all that is asked of none
pub nothing : (a b : Bool) → a ≡ false → a ≡ (a && b)
nothing true b is = absurd (cc)
nothing false b is = refl

pub all_of_it : (a b : Bool) → b ≡ true → a ≡ (a && b)
all_of_it true b is = sym is
all_of_it false b is = refl
