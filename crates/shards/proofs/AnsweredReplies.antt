-- A reply that is sent is found by its number and as the latest, and every other is found as before.
use Rattle.std.proofs.Common.{◌≡◌, ◌-◌, ◌<◌, ◌≤◌, ◌==◌, ℕ, zero, suc, Bool, true, false, List, [], ◌∷◌, length, Option, Some, None, if◌then◌else◌, refl, sym, ap, arith}
use Rattle.std.specs.Prelude.{nat_le, slice_get, slice_set}
use Rattle.std.proofs.lemmas.Bool.{eqb-true, eqb-false, leb-true, le-leb}
use Rattle.mg_model.specs.Messages.{Reply, SentNote}
use Rattle.shards.specs.Messages.{Messages, WasSent, answering, fits, joined, raising, reply_for, reply_to}

-- ---- a list of which one place is set

set_at : {A : Type 0} (xs : List A) (i : ℕ) (x : A) → i < length xs → slice_get (slice_set xs i x) i ≡ Some x
set_at [] i x within = absurd (omega (arith, within))
set_at (y ∷ more) zero x within = refl
set_at (y ∷ more) (suc i) x within = let less : suc i < suc (length more) = within in set_at more i x (omega (arith, less))

set_other : {A : Type 0} (xs : List A) (i j : ℕ) (x : A) → (i ≡ j → ⊥) → slice_get (slice_set xs i x) j ≡ slice_get xs j
set_other [] i j x other = refl
set_other (y ∷ more) zero zero x other = absurd (other refl)
set_other (y ∷ more) zero (suc j) x other = refl
set_other (y ∷ more) (suc i) zero x other = refl
set_other (y ∷ more) (suc i) (suc j) x other = set_other more i j x (λ same. other (ap suc same))

pub length_set : {A : Type 0} (xs : List A) (i : ℕ) (x : A) → length (slice_set xs i x) ≡ length xs
length_set [] i x = refl
length_set (y ∷ more) zero x = refl
length_set (y ∷ more) (suc i) x = ap suc (length_set more i x)

-- ---- replies

-- notes are no replies
pub raising_replies : (m : Messages) (notes : List SentNote) (which : Option ℕ) → reply_for (raising m notes) which ≡ reply_for m which
raising_replies m notes None = refl
raising_replies m notes (Some n) = refl

module _ (m : Messages) (reply : Reply) (sent : WasSent m reply.number) where
  abbrev place : ℕ
  place = reply.number - m.first

  within : place < length m.replies
  within = let first = sent.at_least in let below = sent.below in omega (arith, first, below)

  by_number : (n : ℕ) → reply_to (answering m reply) n ≡ (if reply.number == n then Some reply else reply_to m n)
  by_number n = by_test (reply.number == n) refl
    where
      by_test : (test : Bool) → (reply.number == n) ≡ test → reply_to (answering m reply) n ≡ (if test then Some reply else reply_to m n)
      by_test true same = rw (sym (eqb-true reply.number n same), le-leb m.first reply.number sent.at_least, set_at m.replies place (Some reply) within) refl
      by_test false other = by_order (nat_le m.first n) refl
        where
          by_order : (order : Bool) → nat_le m.first n ≡ order
              → joined (if order then slice_get (slice_set m.replies place (Some reply)) (n - m.first) else None) ≡ joined (if order then slice_get m.replies (n - m.first) else None)
          by_order true later = ap joined (set_other m.replies place (n - m.first) (Some reply) (λ same.
              let first = sent.at_least in let least : m.first ≤ n = leb-true m.first n later in
              eqb-false reply.number n other (omega (arith, first, least, same))))
          by_order false later = refl

  pub replies_answered : (which : Option ℕ) → reply_for (answering m reply) which ≡ (if fits which reply.number then Some reply else reply_for m which)
  replies_answered None = ap joined (set_at m.replies place (Some reply) within)
  replies_answered (Some n) = by_number n
