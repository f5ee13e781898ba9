-- What the shards keep beside what the calls went through. A reader should check that a call's events stand in the history of its own shard alone, each once
-- and in order, that nothing else stands there, and that where they are said to differ they do.
use Rattle.std.specs.Prelude.{◌≡◌, ℕ, ◌%◌, ◌<◌, ◌≤◌, ◌⊎◌, Bool, true, false, List, [], ◌∷◌, ◌++◌, length, take, map, Some, slice_get, slice_index_or}
use Rattle.std.specs.List.{flat_map}
use Rattle.mg_model.specs.declared.events.Event.{Event}
use Rattle.mg_model.specs.declared.events.Event.TheVariants.{OfCall, Restart}
use Rattle.mg_model.specs.Numbers.{plan_calls}
use Rattle.run_account.specs.Runs.{within}
use Rattle.run_shards.specs.Taking.{trail_of}
use Rattle.run_shards.specs.PlannedCall.{PlannedCall}

-- 1 for a restart, and 0 for an event of a call
abbrev pub restarts_of : Event → ℕ
restarts_of (OfCall call happens) = 0
restarts_of Restart = 1

-- what happened to each call of the plan, with all that began within it
abbrev pub trails_of : List PlannedCall → List (List Event)
trails_of planned_calls = map trail_of planned_calls

abbrev pub trail_at : List (List Event) → ℕ → List Event
trail_at trails number = slice_index_or trails number []

abbrev pub place_at : List ℕ → ℕ → ℕ
place_at places number = slice_index_or places number 0

-- the history of a shard goes on along each trail, from one place to another, and has nothing of calls that stand in other shards
pub record Follows (count shard : ℕ) (history : List Event) (trails : List (List Event)) (old new : List ℕ) : Type 0 where
  pub all_places : length new ≡ length old
  pub followed : (number : ℕ) → take (place_at new number) (trail_at trails number) ≡ take (place_at old number) (trail_at trails number) ++ within number history
  pub own : (number : ℕ) → (number % count ≡ shard → ⊥) → within number history ≡ []

-- each trail is what the histories have of its call, and they have it in one of them
pub record Agree (count : ℕ) (histories trails : List (List Event)) : Type 0 where
  pub whole : (number : ℕ) → trail_at trails number ≡ flat_map (within number) histories
  pub own : (number shard : ℕ) → (number % count ≡ shard → ⊥) → within number (slice_index_or histories shard []) ≡ []

-- the history of a shard has each trail of its calls, and nothing of calls that stand in other shards
pub record AgreesIn (count shard : ℕ) (history : List Event) (trails : List (List Event)) : Type 0 where
  pub whole : (number : ℕ) → number % count ≡ shard → trail_at trails number ≡ within number history
  pub own : (number : ℕ) → (number % count ≡ shard → ⊥) → within number history ≡ []

-- no trail of a shard's calls goes on behind its place
abbrev pub IsAtEnd : (count shard : ℕ) → List (List Event) → List ℕ → Type 0
IsAtEnd count shard trails places =
    (number : ℕ) → number < length trails → number % count ≡ shard → length (trail_at trails number) ≤ place_at places number

-- ---- where they don't agree

-- the greatest number of a place
abbrev pub last_place : ℕ
last_place = 18446744073709551615

-- what happened at a place isn't this event, or the trail is longer than places can be counted
abbrev pub IsNotNext : Event → List Event → ℕ → Type 0
IsNotNext event trail place = (slice_get trail place ≡ Some event → ⊥) ⊎ (last_place < length trail)

-- an event that a shard has is of a call that stands in another one, or it isn't the next one of its call
abbrev pub Strays : (count shard : ℕ) → Event → List (List Event) → List ℕ → Type 0
Strays count shard Restart trails places = ⊥
Strays count shard (OfCall call happens) trails places =
    (count ≡ 0) ⊎ ((call.0 % plan_calls % count ≡ shard → ⊥)
    ⊎ IsNotNext (OfCall call happens) (trail_at trails (call.0 % plan_calls)) (place_at places (call.0 % plan_calls)))

-- some event of a shard strays, behind those that were gone along
pub record StraysIn (count shard : ℕ) (history : List Event) (trails : List (List Event)) (old : List ℕ) : Type 0 where
  pub before : List Event
  pub event : Event
  pub after : List Event
  pub places : List ℕ
  pub parts : history ≡ before ++ event ∷ after
  pub followed : Follows count shard before trails old places
  pub strays : Strays count shard event trails places

-- the history of a shard isn't what its calls went through; or there are no shards; or a trail is longer than places can be counted
abbrev pub DiffersIn : (count shard : ℕ) → (history : List Event) → (trails : List (List Event)) → Type 0
DiffersIn count shard history trails =
    (AgreesIn count shard history trails → ⊥) ⊎ ((count ≡ 0) ⊎ ((number : ℕ) × (last_place < length (trail_at trails number))))

-- what a shard answers
abbrev pub IsCompared : (count shard : ℕ) → (history : List Event) → (trails : List (List Event)) → (agrees : Bool) → Type 0
IsCompared count shard history trails true = AgreesIn count shard history trails
IsCompared count shard history trails false = DiffersIn count shard history trails

-- the histories aren't what the calls went through; or there are no shards, in one of which each call would stand; or a trail is longer than places can be counted
abbrev pub Differ : (count : ℕ) → (histories trails : List (List Event)) → Type 0
Differ count histories trails =
    (Agree count histories trails → ⊥) ⊎ ((count ≡ 0) ⊎ ((number : ℕ) × (last_place < length (trail_at trails number))))
