-- Which calls stand in a shard, and what is left of their places. A reader should check that each call is in one shard. This profile's own.
use Rattle.std.specs.Prelude.{◌≡◌, ℕ, ◌%◌, ◌==◌, ◌&&◌, nat_lt, Bool, if◌then◌else◌, List, Option, None, slice_index_or}

-- the call with this number stands in the shard, of so many
abbrev pub stands_in : (shards shard number : ℕ) → Bool
stands_in shards shard number = nat_lt 0 shards && number % shards == shard

-- the call that stands at a place, where it is one of the shard
abbrev pub called_at : {T : Type 0} → (is_own : Bool) → Option T → Option T
called_at is_own place = if is_own then place else None

-- what the place is left with
abbrev pub left_at : {T : Type 0} → (is_own : Bool) → Option T → Option T
left_at is_own place = if is_own then None else place

-- the places whose calls are taken are empty, and the others as they were
abbrev pub AreLeft : {T : Type 0} → (is_taken : ℕ → Bool) → (old new : List (Option T)) → Type 0
AreLeft is_taken old new = (number : ℕ) → slice_index_or new number None ≡ left_at (is_taken number) (slice_index_or old number None)
