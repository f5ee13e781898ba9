-- Calls that have no step of an epoch left, on their way from workers to their places.
use Rattle.std.proofs.Common.{◌≡◌, ◌∙◌, ◌+◌, ◌-◌, ◌<◌, ◌++◌, ℕ, zero, suc, Bool, true, false, List, [], ◌∷◌, length, map, nat_lt, Option, Some, None, Result, Ok, Err, IfOk, OnOk, refl, sym, ap, subst, rules, arith}
use Rattle.std.specs.Prelude.{◌==◌, if◌then◌else◌, slice_get, slice_index_or}
use Rattle.std.specs.List.{All}
use Rattle.std.specs.Option.{option_or}
use Rattle.std.proofs.lemmas.Bool.{eqb-true, lt-ltb}
use Rattle.std.proofs.lemmas.List.Elements.{All-append, All-head, All-nil, All-push, All-same, All-tail, All-weaker}
use Rattle.std.proofs.lemmas.Option.{same_Some}
use Rattle.handover.specs.declared.hand.NumberedItem.{NumberedItem}
use Rattle.mg_model.specs.Plans.{PlanCall, epochs_of}
use Rattle.call_queues.specs.Passing.{AllPass, OwnersPass, WorkersPass}
use Rattle.call_queues.specs.Seating.{AreSeated, all_done, last_with}
use Rattle.call_queues.specs.Standing.{AreLeft, left_at}
use Rattle.call_queues.specs.declared.queue_owner.QueueOwner.{QueueOwner}
use Rattle.call_queues.specs.declared.worker_queue.WorkerQueue.{WorkerQueue}
use Rattle.run_shards.specs.RunFault.{RunFault}
use Rattle.workers.specs.PlannedCall.{PlannedCall}
use Rattle.workers.specs.PlanSteps.{AreOver, HaveEnded, is_over, item_is_over}

-- ---- at a worker's place

-- what follows where a turn is the last one
pub done_over : (r : Result Bool RunFault) (P Q : Type 0) → IfOk r (λ done. done ≡ true → P) → (r ≡ Ok false → ⊥) → (P → Q) → OnOk r Q
done_over (Ok true) P Q over last on = on (over refl)
done_over (Ok false) P Q over last on = absurd (last refl)
done_over (Err fault) P Q over last on = tt

module _ {T : Type 0} (test : NumberedItem T → Bool) where
  pub pass_same : (old new : WorkerQueue T) → new.done.items ≡ old.done.items → AllPass test old → AllPass test new
  pass_same old new same all = All-same (λ (item : NumberedItem T). test item ≡ true) new.done.items old.done.items same all

  pub pass_more : (old new : WorkerQueue T) (room : List (NumberedItem T)) (item : NumberedItem T) → room ≡ old.done.items
      → new.done.items ≡ room ++ item ∷ [] → test item ≡ true → AllPass test old → AllPass test new
  pass_more old new room item same is passes all =
      All-same (λ (one : NumberedItem T). test one ≡ true) new.done.items (room ++ item ∷ []) is
      (All-push (λ (one : NumberedItem T). test one ≡ true) room item
      (All-same (λ (one : NumberedItem T). test one ≡ true) room old.done.items same all) passes)

  none_pass : (items : List (NumberedItem T)) → items ≡ [] → All (λ (item : NumberedItem T). test item ≡ true) items
  none_pass items none =
      All-same (λ (item : NumberedItem T). test item ≡ true) items [] none (All-nil (λ (item : NumberedItem T). test item ≡ true))

  -- where nothing is done with yet
  pub workers_none_pass : (worker_queues : List (WorkerQueue T)) → All (λ s. s.done.items ≡ []) worker_queues → WorkersPass test worker_queues
  workers_none_pass worker_queues none =
      All-weaker (λ (s : WorkerQueue T). s.done.items ≡ []) (AllPass test) (λ s is. none_pass s.done.items is) worker_queues none

  pub owners_none_pass : (owners : List (QueueOwner T)) → All (λ o. o.worker_queue.done.items ≡ []) owners → OwnersPass test owners
  owners_none_pass owners none =
      All-weaker (λ (o : QueueOwner T). o.worker_queue.done.items ≡ []) (λ (o : QueueOwner T). AllPass test o.worker_queue)
      (λ o is. none_pass o.worker_queue.done.items is) owners none

  all_done_pass : (owners : List (QueueOwner T)) → OwnersPass test owners → All (λ (item : NumberedItem T). test item ≡ true) (all_done owners)
  all_done_pass [] all = All-nil (λ (item : NumberedItem T). test item ≡ true)
  all_done_pass (owner ∷ more) all =
      All-append (λ (item : NumberedItem T). test item ≡ true) owner.worker_queue.done.items (all_done more)
      (All-head (λ (o : QueueOwner T). AllPass test o.worker_queue) owner more all)
      (all_done_pass more (All-tail (λ (o : QueueOwner T). AllPass test o.worker_queue) owner more all))

-- what is no thing is none
pub none_of : {A : Type 0} (o : Option A) → ((x : A) → o ≡ Some x → ⊥) → o ≡ None
none_of None not_some = refl
none_of (Some x) not_some = absurd (not_some x refl)

-- ---- at their places

or_nothing : {T : Type 0} (o : Option T) → option_or o None ≡ o
or_nothing None = refl
or_nothing (Some x) = refl

-- the last with a number is over
last_over : (calls : List PlanCall) (epoch number : ℕ) (items : List (NumberedItem PlannedCall)) (planned : PlannedCall)
    → All (λ (item : NumberedItem PlannedCall). item_is_over calls epoch item ≡ true) items → last_with number items ≡ Some planned
    → is_over calls number epoch planned ≡ true
last_over calls epoch number [] planned all is = absurd (let none : None ≡ Some planned = is in search rules)
last_over calls epoch number (item ∷ more) planned all is =
    by_last (last_with number more) refl is
    (last_over calls epoch number more planned (All-tail (λ (one : NumberedItem PlannedCall). item_is_over calls epoch one ≡ true) item more all))
  where
    by_test : (test : Bool) → (item.number == number) ≡ test → (if test then Some item.load else None) ≡ Some planned → is_over calls number epoch planned ≡ true
    by_test true e found =
        subst (λ (n : ℕ). is_over calls n epoch planned ≡ true) (eqb-true item.number number e)
        (subst (λ (p : PlannedCall). is_over calls item.number epoch p ≡ true) (same_Some item.load planned found)
        (All-head (λ (one : NumberedItem PlannedCall). item_is_over calls epoch one ≡ true) item more all))
    by_test false e found = absurd (let none : None ≡ Some planned = found in search rules)

    by_last : (last : Option PlannedCall) → last_with number more ≡ last
        → option_or last (if item.number == number then Some item.load else None) ≡ Some planned
        → (last_with number more ≡ Some planned → is_over calls number epoch planned ≡ true) → is_over calls number epoch planned ≡ true
    by_last None e found on = by_test (item.number == number) refl found
    by_last (Some other) e found on = on (e ∙ found)

-- where all went out and what came back is over, each that is at its place is
pub all_over : (calls : List PlanCall) (epoch shards : ℕ) (owners : List (QueueOwner PlannedCall)) (old out back : List (Option PlannedCall)) → 0 < shards
    → AreLeft (λ number. nat_lt 0 shards) old out → AreSeated (all_done owners) out back → OwnersPass (item_is_over calls epoch) owners
    → AreOver calls epoch back
all_over calls epoch shards owners old out back some left seated over number planned at =
    last_over calls epoch number (all_done owners) planned (all_done_pass (item_is_over calls epoch) owners over)
    (sym (seated number ∙ ap (λ (place : Option PlannedCall). option_or (last_with number (all_done owners)) place) empty
    ∙ or_nothing (last_with number (all_done owners))) ∙ at)
  where
    empty : slice_index_or out number None ≡ None
    empty = left number ∙ ap (λ (taken : Bool). left_at taken (slice_index_or old number None)) (lt-ltb 0 shards some)

-- ---- after all epochs

-- one epoch more
pub next_over : (calls : List PlanCall) (passed : ℕ) (places : List (Option PlannedCall)) → AreOver calls passed places
    → (epoch : ℕ) → epoch + 1 ≡ passed + 1 → AreOver calls epoch places
next_over calls passed places over epoch is =
    subst (λ (e : ℕ). AreOver calls e places) (let same : passed ≡ epoch = omega (arith, is) in same) over

at_its_place : (planned_calls : List PlannedCall) (number : ℕ) (planned : PlannedCall) → slice_get planned_calls number ≡ Some planned
    → slice_index_or (map (λ (p : PlannedCall). Some p) planned_calls) number None ≡ Some planned
at_its_place [] number planned at = absurd (let none : None ≡ Some planned = at in search rules)
at_its_place (first ∷ more) zero planned at = at
at_its_place (first ∷ more) (suc number) planned at = at_its_place more number planned at

pub have_ended : (calls : List PlanCall) (places : List (Option PlannedCall)) (planned_calls : List PlannedCall)
    → map (λ (p : PlannedCall). Some p) planned_calls ≡ places
    → ((epoch : ℕ) → epoch + 1 ≡ epochs_of calls → AreOver calls epoch places) → HaveEnded calls planned_calls
have_ended calls places planned_calls same over epoch last number planned at =
    over epoch last number planned (sym (ap (λ (os : List (Option PlannedCall)). slice_index_or os number None) same) ∙ at_its_place planned_calls number planned at)
