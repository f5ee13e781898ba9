-- The identifiers that are left: each command takes at most one, so where as many were left as there are commands, none is refused for want of
-- one; not in the merge either.
use Rattle.std.proofs.Common.{◌≡◌, ◌∙◌, ◌<◌, ◌≤◌, ℕ, suc, Bool, true, false, List, [], ◌∷◌, length, refl, sym, subst, arith, inl, inr, ◌==◌, Contains}
use Rattle.std.proofs.Common.{if◌then◌else◌}
use Rattle.mg_merge.proofs.Words.{Add, AreLeft, Board, Chosen, IsContextLeft, IsEphemeralLeft, IsRising, IsUsedUp, Item, creates_context, creates_ephemeral}
use Rattle.mg_merge.proofs.Words.{different, effect, eqb-false, eqb-true, first_in, first_or_later, given, later_in, none_in, not_both}
use Rattle.mg_model.specs.declared.items.Added.TheVariants as added
use Rattle.mg_merge.proofs.Commands.Changes.{class_stays}
use Rattle.mg_merge.proofs.Scopes.{Scope, IsWithin, IsPart}

-- ---- a list without a number

pub without : ℕ → List ℕ → List ℕ
without x [] = []
without x (y ∷ ys) = if y == x then ys else y ∷ without x ys

-- what is left was there
pub was_there : (x : ℕ) (ys : List ℕ) (n : ℕ) → Contains (without x ys) n → Contains ys n
unfolding without
was_there x [] n there = there
was_there x (y ∷ ys) n there = go (y == x) there (was_there x ys n)
  where
    go : (test : Bool) → Contains (if test then ys else y ∷ without x ys) n → (Contains (without x ys) n → Contains ys n) → Contains (y ∷ ys) n
    go true there before = later_in y ys n there
    go false there before = elim (first_or_later y (without x ys) n there) [
      | inl is ↦ subst (Contains (y ∷ ys)) is (first_in y ys)
      | inr later ↦ later_in y ys n (before later)
    ]

-- it rises
pub still_rising : (x : ℕ) (ys : List ℕ) → IsRising ys → IsRising (without x ys)
unfolding without
still_rising x [] rising = rising
still_rising x (y ∷ ys) rising = go (y == x) (still_rising x ys rising.1)
  where
    go : (test : Bool) → IsRising (without x ys) → IsRising (if test then ys else y ∷ without x ys)
    go true before = rising.1
    go false before = ((λ n there. rising.0 n (was_there x ys n there)), before)

-- at most one is taken out
pub one_less : (x : ℕ) (ys : List ℕ) → length ys ≤ suc (length (without x ys))
unfolding without
one_less x [] = omega (arith)
one_less x (y ∷ ys) = go (y == x) (one_less x ys)
  where
    go : (test : Bool) → length ys ≤ suc (length (without x ys)) → suc (length ys) ≤ suc (length (if test then ys else y ∷ without x ys))
    go true before = omega (arith)
    go false before = omega (arith, before)

-- and it is out
pub taken_out : (x : ℕ) (ys : List ℕ) → IsRising ys → (n : ℕ) → Contains (without x ys) n → n ≡ x → ⊥
unfolding without
taken_out x [] rising n there is = none_in n there
taken_out x (y ∷ ys) rising n there is = go (y == x) refl there (taken_out x ys rising.1 n)
  where
    go : (test : Bool) → (y == x) ≡ test → Contains (if test then ys else y ∷ without x ys) n → (Contains (without x ys) n → n ≡ x → ⊥) → ⊥
    go true e there later =
        let above : y < n = rising.0 n there in
        let one : y ≡ x = eqb-true y x e in
        omega (arith, above, one, is)
    go false e there later = elim (first_or_later y (without x ys) n there) [
      | inl first ↦ eqb-false y x e (first ∙ is)
      | inr after ↦ later after is
    ]

-- ---- as many as are wanted

-- one fewer, where only one number may have been taken
pub one_taken : (before after : ℕ → Type 0) (x wanted : ℕ) → ((n : ℕ) → before n → (n ≡ x → ⊥) → after n) → AreLeft before (suc wanted) → AreLeft after wanted
one_taken before after x wanted stays left = record {
  numbers = without x left.numbers;
  rising = still_rising x left.numbers left.rising;
  enough = (let first = one_less x left.numbers in let second = left.enough in omega (arith, first, second));
  each = λ n there. stays n (left.each n (was_there x left.numbers n there)) (taken_out x left.numbers left.rising n there);
}

pub passed_on : (before after : ℕ → Type 0) (wanted : ℕ) → ((n : ℕ) → before n → after n) → AreLeft before wanted → AreLeft after wanted
passed_on before after wanted also left = record {
  numbers = left.numbers;
  rising = left.rising;
  enough = left.enough;
  each = λ n there. also n (left.each n there);
}

pub one_of_them : (passes : ℕ → Type 0) (wanted : ℕ) → AreLeft passes (suc wanted) → (n : ℕ) × passes n
one_of_them passes wanted left = go left.numbers left.enough left.each
  where
    go : (numbers : List ℕ) → suc wanted ≤ length numbers → ((n : ℕ) → Contains numbers n → passes n) → (n : ℕ) × passes n
    go [] enough each = absurd (let more : suc wanted ≤ 0 = enough in omega (arith, more))
    go (n ∷ numbers) enough each = (n, each n (first_in n numbers))

-- ---- on a board

-- a context and an ephemeral are left
pub record Remain (b : Board) (wanted : ℕ) : Type 0 where
  pub contexts : AreLeft (IsContextLeft b) wanted
  pub ephemerals : AreLeft (IsEphemeralLeft b) wanted

not_given : (creates : Bool) (number : ℕ) (was : ℕ → Bool) (n : ℕ) → (n ≡ number → ⊥) → was n ≡ false → given creates number was n ≡ false
not_given false number was n differ free = free
not_given true number was n differ free = rw (different n number differ) free

pub remain_after : (b : Board) (item : Item) (chosen : Chosen) (wanted : ℕ) → Remain b (suc wanted) → Remain (effect b item chosen) wanted
remain_after b item chosen wanted left = record {
  contexts = one_taken (IsContextLeft b) (IsContextLeft (effect b item chosen)) chosen.context wanted
      (λ n it differ. (it.0, (class_stays b item chosen n ∙ it.1.0, not_given (creates_context item) chosen.context b.used_context n differ it.1.1))) left.contexts;
  ephemerals = one_taken (IsEphemeralLeft b) (IsEphemeralLeft (effect b item chosen)) chosen.ephemeral wanted
      (λ n it differ. (it.0, (class_stays b item chosen n ∙ it.1.0, not_given (creates_ephemeral item) chosen.ephemeral b.used_ephemeral n differ it.1.1))) left.ephemerals;
}

pub not_used_up : (b : Board) (wanted : ℕ) → Remain b (suc wanted) → (item : Item) → IsUsedUp b item → ⊥
not_used_up b wanted left (Add context what settings) (inl (is, none)) =
    let one = one_of_them (IsContextLeft b) wanted left.contexts in not_both (none one.0 one.1.0 one.1.1.0) one.1.1.1
not_used_up b wanted left (Add context added.NewEphemeral settings) (inr none) =
    let one = one_of_them (IsEphemeralLeft b) wanted left.ephemerals in not_both (none one.0 one.1.0 one.1.1.0) one.1.1.1
not_used_up b wanted left (Add context (added.Line l) settings) (inr never) = never
not_used_up b wanted left item never = never

-- what is left to the shard is left to the merge
pub remain_in_merge : (s : Scope) (b m : Board) (wanted : ℕ) → IsWithin s b → IsPart s b m → Remain b wanted → Remain m wanted
remain_in_merge s b m wanted within part left = record {
  contexts = passed_on (IsContextLeft b) (IsContextLeft m) wanted
      (λ n it. let own : s.class n ≡ true = sym (within.class n) ∙ it.1.0 in (it.0, (part.class n own, part.used_context n own ∙ it.1.1))) left.contexts;
  ephemerals = passed_on (IsEphemeralLeft b) (IsEphemeralLeft m) wanted
      (λ n it. let own : s.class n ≡ true = sym (within.class n) ∙ it.1.0 in (it.0, (part.class n own, part.used_ephemeral n own ∙ it.1.1))) left.ephemerals;
}
