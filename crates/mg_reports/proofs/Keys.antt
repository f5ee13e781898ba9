-- Two lists of messages of which those of some calls have, one after the other, the same calls and the same numbers: what is found in the one by these is found
-- in the other.
use Rattle.std.proofs.Common.{◌≡◌, ◌∙◌, ◌++◌, ℕ, Bool, true, false, List, [], ◌∷◌, Option, Some, refl, sym, ap, if◌then◌else◌}
use Rattle.mg_merge.proofs.Words.{Reply, Request, false_not_true, filter, find, none_is_some, the_some}
use Rattle.mg_alike.proofs.Words.{Pairwise}

abbrev pub SameKey : {A : Type 0} → (of number : A → ℕ) → A → A → Type 0
SameKey of number x y = (of y ≡ of x) × (number y ≡ number x)

-- those of the calls that pass a test
abbrev pub those_of : {A : Type 0} → (of : A → ℕ) → (keep : ℕ → Bool) → List A → List A
those_of of keep xs = filter (λ m. keep (of m)) xs

abbrev pub AreInOrder : {A : Type 0} → (of number : A → ℕ) → (keep : ℕ → Bool) → List A → List A → Type 0
AreInOrder of number keep xs ys = Pairwise (SameKey of number) (those_of of keep xs) (those_of of keep ys)

-- the same of requests, and of replies
abbrev pub RequestsInStep : (keep : ℕ → Bool) → List Request → List Request → Type 0
RequestsInStep keep xs ys = AreInOrder (λ (r : Request). r.call) (λ (r : Request). r.number) keep xs ys

abbrev pub RepliesInStep : (keep : ℕ → Bool) → List Reply → List Reply → Type 0
RepliesInStep keep xs ys = AreInOrder (λ (r : Reply). r.call) (λ (r : Reply). r.number) keep xs ys

-- ---- one more in both, and the other way round

first_of_both : {A : Type 0} (alike : A → A → Type 0) (test : Bool) (x y : A) (xs ys : List A) → alike x y → Pairwise alike xs ys
    → Pairwise alike (if test then x ∷ xs else xs) (if test then y ∷ ys else ys)
first_of_both alike true x y xs ys first later = (first, later)
first_of_both alike false x y xs ys first later = later

pub joined : {A : Type 0} (of number : A → ℕ) (keep : ℕ → Bool) (new other xs ys : List A) → Pairwise (SameKey of number) new other
    → AreInOrder of number keep xs ys → AreInOrder of number keep (new ++ xs) (other ++ ys)
joined of number keep [] [] xs ys first second = second
joined of number keep (x ∷ new) (y ∷ other) xs ys first second =
    rw (ap keep first.0.0) (first_of_both (SameKey of number) (keep (of x)) x y (those_of of keep (new ++ xs)) (those_of of keep (other ++ ys)) first.0
    (joined of number keep new other xs ys first.1 second))
joined of number keep _ _ xs ys first second = absurd first

turned_pairs : {A : Type 0} (of number : A → ℕ) (xs ys : List A) → Pairwise (SameKey of number) xs ys → Pairwise (SameKey of number) ys xs
turned_pairs of number [] [] same = tt
turned_pairs of number (x ∷ xs) (y ∷ ys) same = ((sym same.0.0, sym same.0.1), turned_pairs of number xs ys same.1)
turned_pairs of number _ _ same = absurd same

pub turned : {A : Type 0} (of number : A → ℕ) (keep : ℕ → Bool) (xs ys : List A) → AreInOrder of number keep xs ys → AreInOrder of number keep ys xs
turned of number keep xs ys same = turned_pairs of number (those_of of keep xs) (those_of of keep ys) same

-- ---- what is found by its call and its number

abbrev pub IsFound : {A : Type 0} → (of number : A → ℕ) → (ℕ → ℕ → Bool) → List A → A → Type 0
IsFound of number test xs x = find (λ m. test (of m) (number m)) xs ≡ Some x

-- the same of a list whose first is passed by a test, or isn't
abbrev FoundAt : {A : Type 0} → (of number : A → ℕ) → (ℕ → ℕ → Bool) → Bool → A → List A → ℕ → Type 0
FoundAt {A = A} of number test passes w ys n =
    (y : A) × ((if passes then Some w else find (λ m. test (of m) (number m)) ys) ≡ Some y) × (number y ≡ n)

found_in_pairs : {A : Type 0} (of number : A → ℕ) (test : ℕ → ℕ → Bool) (xs ys : List A) → Pairwise (SameKey of number) xs ys → (x : A)
    → IsFound of number test xs x → (y : A) × IsFound of number test ys y × (number y ≡ number x)
found_in_pairs of number test [] [] same x found = absurd (none_is_some x found)
found_in_pairs of number test (z ∷ xs) (w ∷ ys) same x found =
    rw same_test (go (test (of z) (number z)) found (found_in_pairs of number test xs ys same.1 x))
  where
    same_test : test (of w) (number w) ≡ test (of z) (number z)
    same_test = ap (λ n. test n (number w)) same.0.0 ∙ ap (λ n. test (of z) n) same.0.1

    go : (passes : Bool) → (if passes then Some z else find (λ m. test (of m) (number m)) xs) ≡ Some x
        → (IsFound of number test xs x → FoundAt of number test false w ys (number x)) → FoundAt of number test passes w ys (number x)
    go true e later = (w, refl, same.0.1 ∙ ap number (the_some z x e))
    go false e later = later e
found_in_pairs of number test _ _ same x found = absurd same

-- what only a message of these calls passes is found among them
found_among : {A : Type 0} (of number : A → ℕ) (keep : ℕ → Bool) (test : ℕ → ℕ → Bool) → ((call n : ℕ) → test call n ≡ true → keep call ≡ true) → (xs : List A)
    → find (λ m. test (of m) (number m)) (those_of of keep xs) ≡ find (λ m. test (of m) (number m)) xs
found_among of number keep test within [] = refl
found_among {A = A} of number keep test within (x ∷ xs) =
    go (keep (of x)) (test (of x) (number x)) (within (of x) (number x)) refl (found_among of number keep test within xs)
  where
    go : (kept passes : Bool) → (passes ≡ true → kept ≡ true) → test (of x) (number x) ≡ passes
        → find (λ m. test (of m) (number m)) (those_of of keep xs) ≡ find (λ m. test (of m) (number m)) xs
        → find (λ m. test (of m) (number m)) (if kept then x ∷ those_of of keep xs else those_of of keep xs)
        ≡ (if passes then Some x else find (λ m. test (of m) (number m)) xs)
    go true passes too e later =
        ap (λ (t : Bool). if t then Some x else find (λ m. test (of m) (number m)) (those_of of keep xs)) e
        ∙ ap (λ (o : Option A). if passes then Some x else o) later
    go false true too e later = absurd (false_not_true (too refl))
    go false false too e later = later

pub found_too : {A : Type 0} (of number : A → ℕ) (keep : ℕ → Bool) (test : ℕ → ℕ → Bool) → ((call n : ℕ) → test call n ≡ true → keep call ≡ true)
    → (xs ys : List A) → AreInOrder of number keep xs ys → (x : A) → IsFound of number test xs x
    → (y : A) × IsFound of number test ys y × (number y ≡ number x)
found_too of number keep test within xs ys same x found =
    let it = found_in_pairs of number test (those_of of keep xs) (those_of of keep ys) same x (found_among of number keep test within xs ∙ found) in
    (it.0, sym (found_among of number keep test within ys) ∙ it.1, it.2)
