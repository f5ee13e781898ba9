-- Calls that come back to their places. A reader should check that each that comes back stands at its number, and that no other place changes. This profile's
-- own.
use Rattle.std.specs.Prelude.{◌≡◌, ℕ, ◌==◌, ◌≤◌, if◌then◌else◌, List, [], ◌∷◌, ◌++◌, length, slice_index_or, Option, Some, None}
use Rattle.std.specs.List.{flat_map}
use Rattle.std.specs.Option.{option_or}
use Rattle.handover.specs.declared.hand.NumberedItem.{NumberedItem}
use Rattle.call_queues.specs.declared.queue_owner.QueueOwner.{QueueOwner}

-- the last of these with this number, where there is one
abbrev pub last_with : {T : Type 0} → (number : ℕ) → List (NumberedItem T) → Option T
last_with number [] = None
last_with number (item ∷ more) = option_or (last_with number more) (if item.number == number then Some item.load else None)

-- at each place stands the last of these with its number, and where none has it, what stood there
abbrev pub AreSeated : {T : Type 0} → List (NumberedItem T) → (old new : List (Option T)) → Type 0
AreSeated items old new = (number : ℕ) → slice_index_or new number None ≡ option_or (last_with number items) (slice_index_or old number None)

-- what the owners of queues have back, of one queue after the other
abbrev pub all_done : {T : Type 0} → List (QueueOwner T) → List (NumberedItem T)
all_done {T} owners = flat_map (λ (owner : QueueOwner T). owner.worker_queue.done.items) owners

module _ {T : Type 0} where
  -- one of these has a number past the last place; those before it stand at their numbers, and no other place changes
  pub record IsPastLast (items : List (NumberedItem T)) (old new : List (Option T)) : Type 0 where
    pub before : List (NumberedItem T)
    pub item : NumberedItem T
    pub later : List (NumberedItem T)
    pub parts : items ≡ before ++ item ∷ later
    pub past : length old ≤ item.number
    pub seated : AreSeated before old new
