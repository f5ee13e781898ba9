-- What passes a test of all that is done with, while places go to workers and come back.
use Rattle.std.proofs.Common.{◌≡◌, ◌<◌, ◌++◌, ℕ, Bool, true, List, [], ◌∷◌, get_or, length, set, sym}
use Rattle.std.specs.List.{All}
use Rattle.std.proofs.lemmas.List.Elements.{All-append, All-head, All-rest, All-same, All-set}
use Rattle.handover.specs.declared.hand.NumberedItem.{NumberedItem}
use Rattle.call_queues.specs.Passing.{AllPass, OwnersPass, WorkersPass}
use Rattle.call_queues.specs.declared.queue_owner.QueueOwner.{QueueOwner}
use Rattle.call_queues.specs.declared.worker_queue.WorkerQueue.{WorkerQueue}
use Rattle.call_queues.proofs.WorkerQueueLemmas.{all_at}

module _ {T : Type 0} (test : NumberedItem T → Bool) (owners : List (QueueOwner T)) (shard : ℕ) (owner after : QueueOwner T) (within : shard < length owners)
    (there : owner ≡ get_or owners shard owner) where
  -- a place goes to a worker
  pub owner_stays : after.worker_queue.done.items ≡ owner.worker_queue.done.items → OwnersPass test owners → OwnersPass test (set owners shard after)
  owner_stays same all =
      All-set (λ (o : QueueOwner T). AllPass test o.worker_queue) owners shard after
      (All-same (λ (item : NumberedItem T). test item ≡ true) after.worker_queue.done.items owner.worker_queue.done.items same
      (all_at (λ (o : QueueOwner T). AllPass test o.worker_queue) owners shard owner within there all))
      all

  -- one comes back
  pub owner_absorbs : (worker_queue : WorkerQueue T) (before rest : List (WorkerQueue T)) → before ≡ worker_queue ∷ rest
      → after.worker_queue.done.items ≡ owner.worker_queue.done.items ++ worker_queue.done.items → OwnersPass test owners × WorkersPass test before
      → OwnersPass test (set owners shard after) × WorkersPass test rest
  owner_absorbs worker_queue before rest step is (all, workers) = (
    All-set (λ (o : QueueOwner T). AllPass test o.worker_queue) owners shard after
        (All-same (λ (item : NumberedItem T). test item ≡ true) after.worker_queue.done.items (owner.worker_queue.done.items ++ worker_queue.done.items) is
        (All-append (λ (item : NumberedItem T). test item ≡ true) owner.worker_queue.done.items worker_queue.done.items
        (all_at (λ (o : QueueOwner T). AllPass test o.worker_queue) owners shard owner within there all)
        (All-head (AllPass test) worker_queue rest (All-same (AllPass test) (worker_queue ∷ rest) before (sym step) workers))))
        all,
    All-rest (AllPass test) worker_queue rest before step workers,
  )
