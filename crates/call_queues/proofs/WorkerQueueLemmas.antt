-- Places at the queues of shards, while queues are opened one after the other, and while places go to workers and come back.
use Rattle.std.proofs.Common.{◌≡◌, ◌∙◌, ◌-◌, ◌<◌, ◌++◌, ℕ, zero, suc, List, [], ◌∷◌, get_or, length, refl, sym, ap, subst, rules, arith}
use Rattle.std.specs.Prelude.{None, Some, slice_get, slice_index_or}
use Rattle.std.specs.List.{All}
use Rattle.std.proofs.lemmas.List.Elements.{All-get_or}
use Rattle.std.proofs.lemmas.Option.{same_Some, slice_get_read}
use Rattle.handover.proofs.Counts.{times_none}
use Rattle.handover.specs.Hands.{hand, times}
use Rattle.handover.specs.declared.hand.NumberedItem.{NumberedItem}
use Rattle.handover.specs.declared.hand.Hand.{Hand}
use Rattle.handover.specs.declared.queue.Queue.{Queue}
use Rattle.call_queues.specs.Passing.{Accounts, HoldsNothing, IsOwner}
use Rattle.call_queues.specs.declared.queue_owner.QueueOwner.{QueueOwner}

-- ---- queues in a list

-- a queue stays where it is when more come after it
pub slice_get_more : {X : Type 0} (xs ys : List X) (i : ℕ) (x : X) → slice_get xs i ≡ Some x → slice_get (xs ++ ys) i ≡ Some x
slice_get_more [] ys i x is = absurd (let none : None ≡ Some x = is in search rules)
slice_get_more (y ∷ xs) ys zero x is = is
slice_get_more (y ∷ xs) ys (suc i) x is = slice_get_more xs ys i x is

-- and the last one is at its number
pub slice_get_last : {X : Type 0} (xs : List X) (x : X) → slice_get (xs ++ x ∷ []) (length xs) ≡ Some x
slice_get_last [] x = refl
slice_get_last (y ∷ xs) x = slice_get_last xs x

-- the queue that is found at a number is the one that stands there
pub same_line : {X : Type 0} (queues : List X) (i : ℕ) (found queue : X) → i < length queues → found ≡ get_or queues i found → slice_get queues i ≡ Some queue → queue ≡ found
same_line queues i found queue within is at = same_Some queue found (sym at ∙ slice_get_read queues (length queues) i found refl within is)

-- what holds of all holds of the one that is found
pub all_at : {X : Type 0} (P : X → Type 0) (xs : List X) (i : ℕ) (x : X) → i < length xs → x ≡ get_or xs i x → All P xs → P x
all_at P xs i x within is all = subst P (sym is) (All-get_or P xs i x within all)

-- ---- what shares account for

-- a new share holds nothing
pub new_holds_nothing : (v : Hand) → v ≡ hand 1 [] [] [] → HoldsNothing v
new_holds_nothing v is n = omega (
  arith,
  times_none n,
  ap (λ (u : Hand). times n u.begun) is,
  ap (λ (u : Hand). times n u.put) is,
  ap (λ (u : Hand). times n u.taken) is,
)

-- one that gives a part away accounts for the same
pub lends : {T : Type 0} (v w : Hand) (things : List (NumberedItem T)) → Accounts v things → w ≡ hand (v.parts - 1) v.begun v.put v.taken → Accounts w things
lends v w things accounts is n = omega (
  arith,
  accounts n,
  ap (λ (u : Hand). times n u.begun) is,
  ap (λ (u : Hand). times n u.put) is,
  ap (λ (u : Hand). times n u.taken) is,
)

-- ---- the run's own places

pub owner_more : {T : Type 0} (queues more : List (Queue T)) (o : QueueOwner T) → IsOwner queues o → IsOwner (queues ++ more) o
owner_more queues more o is = record {
  queue = is.queue;
  at = slice_get_more queues more o.worker_queue.shard is.queue is.at;
  share = is.share;
  parts = is.parts;
  accounts = is.accounts;
}

pub owners_more : {T : Type 0} (queues more : List (Queue T)) (os : List (QueueOwner T)) → All (IsOwner queues) os → All (IsOwner (queues ++ more)) os
owners_more queues more os all = λ k d below. owner_more queues more (slice_index_or os k d) (all k d below)
