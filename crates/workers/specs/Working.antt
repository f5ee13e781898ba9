-- What workers leave of an epoch. A reader should check that what they are done with has no step of the epoch left, where none met trouble. This profile's own.
use Rattle.std.specs.Prelude.{◌≡◌, ℕ, Bool, List, None}
use Rattle.std.specs.List.{All}
use Rattle.handover.specs.declared.hand.NumberedItem.{NumberedItem}
use Rattle.mg_model.specs.Plans.{PlanCall}
use Rattle.call_queues.specs.Passing.{AllPass, OwnersPass, WorkersPass}
use Rattle.call_queues.specs.declared.queue_owner.QueueOwner.{QueueOwner}
use Rattle.call_queues.specs.declared.worker_queue.WorkerQueue.{WorkerQueue}
use Rattle.workers.specs.PlannedCall.{PlannedCall}
use Rattle.workers.specs.PlanSteps.{item_is_over}
use Rattle.workers.specs.declared.worker.Worked.{Worked}

-- what is done with at a worker's place has no step of the epoch left, if what was done with before had none
abbrev pub StaysOver : List PlanCall → (epoch : ℕ) → (old new : WorkerQueue PlannedCall) → Type 0
StaysOver calls epoch old new = AllPass (item_is_over calls epoch) old → AllPass (item_is_over calls epoch) new

-- the same at all of its places
abbrev pub StayOver : List PlanCall → (epoch : ℕ) → (old new : List (WorkerQueue PlannedCall)) → Type 0
StayOver calls epoch old new = WorkersPass (item_is_over calls epoch) old → WorkersPass (item_is_over calls epoch) new

-- and of what the owners of queues have back
abbrev pub OwnersStayOver : List PlanCall → (epoch : ℕ) → (old new : List (QueueOwner PlannedCall)) → Type 0
OwnersStayOver calls epoch old new = OwnersPass (item_is_over calls epoch) old → OwnersPass (item_is_over calls epoch) new

-- where it met no trouble, what it is done with passes a test
abbrev pub PassesUntroubled : (NumberedItem PlannedCall → Bool) → Worked → Type 0
PassesUntroubled test worked = worked.trouble ≡ None → WorkersPass test worked.worker_queues.items

-- what it is done with has no step of the epoch left, if what it began with had none
abbrev pub LeavesOver : List PlanCall → (epoch : ℕ) → (before : List (WorkerQueue PlannedCall)) → Worked → Type 0
LeavesOver calls epoch before worked = WorkersPass (item_is_over calls epoch) before → PassesUntroubled (item_is_over calls epoch) worked

-- what the owners of queues have back passes whatever test passed what they had and what these workers leave
abbrev pub PassesOn : (old : List (QueueOwner PlannedCall)) → List Worked → (new : List (QueueOwner PlannedCall)) → Type 0
PassesOn old all new = (test : NumberedItem PlannedCall → Bool) → OwnersPass test old → All (PassesUntroubled test) all → OwnersPass test new
