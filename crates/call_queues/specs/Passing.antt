-- How calls pass through the workers of an epoch. A reader should check that each that went into a queue comes back from it once: the numbers of those that
-- come back are those of the ones that were begun.
use Rattle.std.specs.Prelude.{◌≡◌, ℕ, ◌+◌, Bool, true, List, [], Some, slice_get}
use Rattle.std.specs.List.{All}
use Rattle.handover.specs.Hands.{all_parts, numbers_of, times}
use Rattle.handover.specs.Queues.{IsShareOf, hand_of}
use Rattle.handover.specs.declared.hand.NumberedItem.{NumberedItem}
use Rattle.handover.specs.declared.hand.Hand.{Hand}
use Rattle.handover.specs.declared.queue.Queue.{Queue}
use Rattle.call_queues.specs.declared.queue_owner.QueueOwner.{QueueOwner}
use Rattle.call_queues.specs.declared.worker_queue.WorkerQueue.{WorkerQueue}

-- these things are all that was begun or taken by a share, and wasn't put back
abbrev pub Accounts : {T : Type 0} → Hand → List (NumberedItem T) → Type 0
Accounts v things = (number : ℕ) → times number (numbers_of things) + times number v.put ≡ times number v.begun + times number v.taken

-- it holds nothing: all that it began or took was put in
abbrev pub HoldsNothing : Hand → Type 0
HoldsNothing v = (number : ℕ) → times number v.put ≡ times number v.begun + times number v.taken

-- the things are those that were begun
abbrev pub HaveBegun : {T : Type 0} → List ℕ → List (NumberedItem T) → Type 0
HaveBegun begun things = (number : ℕ) → times number (numbers_of things) ≡ times number begun

module _ {T : Type 0} where
  -- a worker's place: a share of this queue with the one part that it was given, which accounts for what the worker is done with there
  pub record IsWorkers (queue : Queue T) (worker_queue : WorkerQueue T) : Type 0 where
    pub share : IsShareOf queue worker_queue.share
    pub part : (hand_of worker_queue.share).parts ≡ 1
    pub begun : (hand_of worker_queue.share).begun ≡ []
    pub accounts : Accounts (hand_of worker_queue.share) worker_queue.done.items

  -- one at the queue of its shard
  pub record IsWorkersAt (queues : List (Queue T)) (worker_queue : WorkerQueue T) : Type 0 where
    pub queue : Queue T
    pub at : slice_get queues worker_queue.shard ≡ Some queue
    pub workers : IsWorkers queue worker_queue

  -- the run's own place at the queue of a shard: a share of that queue with all parts but those that workers have, which accounts for what came back
  pub record IsOwner (queues : List (Queue T)) (owner : QueueOwner T) : Type 0 where
    pub queue : Queue T
    pub at : slice_get queues owner.worker_queue.shard ≡ Some queue
    pub share : IsShareOf queue owner.worker_queue.share
    pub parts : (hand_of owner.worker_queue.share).parts + owner.away ≡ all_parts
    pub accounts : Accounts (hand_of owner.worker_queue.share) owner.worker_queue.done.items

-- all that were begun in its queue are back, each once
abbrev pub IsAllBack : {T : Type 0} → QueueOwner T → Type 0
IsAllBack owner = HaveBegun (hand_of owner.worker_queue.share).begun owner.worker_queue.done.items

-- each that is done with at this place passes a test
abbrev pub AllPass : {T : Type 0} → (NumberedItem T → Bool) → WorkerQueue T → Type 0
AllPass test worker_queue = All (λ item. test item ≡ true) worker_queue.done.items

-- at the places of all these workers
abbrev pub WorkersPass : {T : Type 0} → (NumberedItem T → Bool) → List (WorkerQueue T) → Type 0
WorkersPass test worker_queues = All (AllPass test) worker_queues

-- and at the run's own places
abbrev pub OwnersPass : {T : Type 0} → (NumberedItem T → Bool) → List (QueueOwner T) → Type 0
OwnersPass test owners = All (λ owner. AllPass test owner.worker_queue) owners

-- whatever test passed what the owners had back passes what they have back
abbrev pub OwnersKeep : {T : Type 0} → (old new : List (QueueOwner T)) → Type 0
OwnersKeep {T} old new = (test : NumberedItem T → Bool) → OwnersPass test old → OwnersPass test new

-- the same where it passed what these workers were done with too
abbrev pub OwnersGet : {T : Type 0} → (old : List (QueueOwner T)) → List (WorkerQueue T) → (new : List (QueueOwner T)) → Type 0
OwnersGet {T} old worker_queues new = (test : NumberedItem T → Bool) → OwnersPass test old → WorkersPass test worker_queues → OwnersPass test new
