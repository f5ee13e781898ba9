-- What a share accounts for, when a thing is taken, put back or done with, and when another share comes back with what it accounts for.
use Rattle.std.proofs.Common.{◌≡◌, ◌∙◌, ◌+◌, ◌<◌, ◌++◌, ℕ, Bool, List, [], ◌∷◌, if◌then◌else◌, refl, sym, ap, subst, ⊎_elim, arith}
use Rattle.std.proofs.lemmas.Bool.{eq-eqb}
use Rattle.std.proofs.lemmas.List.{map-append}
use Rattle.handover.proofs.Counts.{times_append, times_none, times_one}
use Rattle.handover.specs.Hands.{Holds, Stand, hand, numbers_of, times}
use Rattle.handover.specs.Queues.{IsSameShare, IsShareOf}
use Rattle.handover.specs.declared.hand.NumberedItem.{NumberedItem}
use Rattle.handover.specs.declared.hand.Hand.{Hand}
use Rattle.handover.specs.declared.queue.Queue.{Queue}
use Rattle.handover.specs.declared.queue.Share.{Share}
use Rattle.call_queues.specs.Passing.{Accounts, HaveBegun, HoldsNothing}

-- ---- counting

-- a number stands once in the list of itself alone
pub times_itself : (n : ℕ) → times n (n ∷ []) ≡ 1
unfolding times
times_itself n = ap (λ (same : Bool). (if same then 1 else 0) + 0) (eq-eqb n n refl)

-- and none that is above does
pub times_above : (n x : ℕ) → x < n → times n (x ∷ []) ≡ 0
times_above n x above = ⊎_elim (λ same. absurd (let is : n ≡ x = same.0 in omega arith)) (λ other. other) (times_one n x)

-- ---- shares

-- what is the same share is one of the same queue
pub still_share : {T : Type 0} (queue : Queue T) (old new : Share T) → IsSameShare old new → IsShareOf queue old → IsShareOf queue new
still_share queue old new same is = (same.0 ∙ is.0, same.2 ∙ is.1)

-- ---- what a share accounts for

pub numbers_more : {T : Type 0} (things more : List (NumberedItem T)) (n : ℕ)
    → times n (numbers_of (things ++ more)) ≡ times n (numbers_of things) + times n (numbers_of more)
numbers_more {T} things more n =
    ap (times n) (map-append (λ (thing : NumberedItem T). thing.number) things more) ∙ times_append n (numbers_of things) (numbers_of more)

-- one that holds nothing accounts for nothing
pub for_nothing : {T : Type 0} (v : Hand) (things : List (NumberedItem T)) → things ≡ [] → HoldsNothing v → Accounts v things
for_nothing {T} v things none nothing n =
    omega (arith, nothing n, times_none n, ap (λ (xs : List (NumberedItem T)). times n (numbers_of xs)) none)

module _ {T : Type 0} (v : Hand) (things : List (NumberedItem T)) (accounts : Accounts v things) where
  -- what was taken is held
  pub holds_taken : (w : Hand) (number other : ℕ) → w ≡ hand v.parts v.begun v.put (v.taken ++ number ∷ []) → other ≡ number → Holds w other
  holds_taken w number other taken same =
      subst (Holds w) (sym same) (subst (λ (u : Hand). Holds u number) (sym taken)
      (omega (arith, accounts number, times_append number v.taken (number ∷ []), times_itself number)))

  -- and once it is put back, all is as before
  pub put_back : (w u : Hand) (number other : ℕ) (after : List (NumberedItem T)) → w ≡ hand v.parts v.begun v.put (v.taken ++ number ∷ []) → other ≡ number
      → u ≡ hand w.parts w.begun (w.put ++ other ∷ []) w.taken → after ≡ things → Accounts u after
  put_back w u number other after taken same put is n = omega (
    arith,
    accounts n,
    ap (λ (x : Hand). times n x.begun) put,
    ap (λ (x : Hand). times n x.put) put,
    ap (λ (x : Hand). times n x.taken) put,
    ap (λ (x : Hand). times n x.begun) taken,
    ap (λ (x : Hand). times n x.put) taken,
    ap (λ (x : Hand). times n x.taken) taken,
    ap (λ (m : ℕ). times n (m ∷ [])) same,
    ap (λ (xs : List (NumberedItem T)). times n (numbers_of xs)) is,
    times_append n v.taken (number ∷ []),
    times_append n w.put (other ∷ []),
  )

  -- or it is accounted for
  pub done_with : (w : Hand) (thing : NumberedItem T) (number : ℕ) (room after : List (NumberedItem T)) → w ≡ hand v.parts v.begun v.put (v.taken ++ number ∷ [])
      → thing.number ≡ number → room ≡ things → after ≡ room ++ thing ∷ [] → Accounts w after
  done_with w thing number room after taken same is is_after n = omega (
    arith,
    accounts n,
    ap (λ (x : Hand). times n x.begun) taken,
    ap (λ (x : Hand). times n x.put) taken,
    ap (λ (x : Hand). times n x.taken) taken,
    ap (λ (m : ℕ). times n (m ∷ [])) same,
    ap (λ (xs : List (NumberedItem T)). times n (numbers_of xs)) is,
    ap (λ (xs : List (NumberedItem T)). times n (numbers_of xs)) is_after,
    times_append n v.taken (number ∷ []),
    numbers_more room (thing ∷ []) n,
  )

  -- the same of a share that comes back
  pub absorbed : (u w : Hand) (more after : List (NumberedItem T)) → Accounts u more
      → w ≡ hand (v.parts + u.parts) (v.begun ++ u.begun) (v.put ++ u.put) (v.taken ++ u.taken) → after ≡ things ++ more → Accounts w after
  absorbed u w more after others both is n = omega (
    arith,
    accounts n,
    others n,
    ap (λ (x : Hand). times n x.begun) both,
    ap (λ (x : Hand). times n x.put) both,
    ap (λ (x : Hand). times n x.taken) both,
    ap (λ (xs : List (NumberedItem T)). times n (numbers_of xs)) is,
    numbers_more things more n,
    times_append n v.begun u.begun,
    times_append n v.put u.put,
    times_append n v.taken u.taken,
  )

  -- where all that was put in was taken, the things are those that were begun
  pub all_back : Stand v [] → HaveBegun v.begun things
  all_back stand n = omega (arith, accounts n, stand.balanced n, times_none n)
