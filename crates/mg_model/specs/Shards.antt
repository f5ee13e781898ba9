-- Several shards, each a gateway with calls of its own: where a history is cut at its restarts, how those of all shards are one history, and
-- what keeps the shards apart. A reader should check that between two associations one restart stands for the restarts of all shards, and that
-- no call, no line and no identifier may be of two shards. This profile's own.
use Rattle.std.specs.Prelude.{◌≡◌, ℕ, zero, suc, ◌+◌, ◌<◌, ◌≤◌, Bool, false, IsTrue, List, [], ◌∷◌, ◌++◌, length, Contains, slice_index_or}
use Rattle.std.specs.List.{flat_map}
use Rattle.mg_model.specs.declared.events.Event.{Event}
use Rattle.mg_model.specs.declared.events.Event.TheVariants.{OfCall, Restart}
use Rattle.mg_model.specs.Board.{Board}
use Rattle.mg_model.specs.Items.{IsRising, is_context_number, is_ephemeral_number}
use Rattle.mg_model.specs.Messages.{Request}
use Rattle.mg_model.specs.Script.{Script}
use Rattle.mg_model.specs.World.{World, Opened, Occurs, Runs, IsOpening}

-- ---- histories

-- the events of one shard, association by association
abbrev pub History : Type 0
History = List (List Event)

-- an event before those of the first association
abbrev pub with_first : Event → History → History
with_first event [] = (event ∷ []) ∷ []
with_first event (events ∷ more) = (event ∷ events) ∷ more

-- a list of events, cut at its restarts, which are in no part
unfoldable pub cut_at_restarts : List Event → History
cut_at_restarts [] = [] ∷ []
cut_at_restarts (OfCall call happens ∷ more) = with_first (OfCall call happens) (cut_at_restarts more)
cut_at_restarts (Restart ∷ more) = [] ∷ cut_at_restarts more

unfoldable pub restarts_in : List Event → ℕ
restarts_in [] = 0
restarts_in (OfCall call happens ∷ more) = restarts_in more
restarts_in (Restart ∷ more) = suc (restarts_in more)

-- the events of all shards in the association with this place, shard after shard
abbrev pub together : List History → ℕ → List Event
together shards place = flat_map (λ (history : History). slice_index_or history place []) shards

unfoldable pub merged_from : List History → ℕ → ℕ → List Event
merged_from shards place zero = together shards place
merged_from shards place (suc restarts) = together shards place ++ Restart ∷ merged_from shards (place + 1) restarts

-- one history of all shards: between two associations one restart stands for the restarts of all
abbrev pub merged : List History → (restarts : ℕ) → List Event
merged shards restarts = merged_from shards 0 restarts

-- ---- identifiers that are left

-- as many numbers that pass a test as are wanted
pub record AreLeft (passes : ℕ → Type 0) (wanted : ℕ) : Type 0 where
  pub numbers : List ℕ
  pub rising : IsRising numbers
  pub enough : wanted ≤ length numbers
  pub each : (n : ℕ) → Contains numbers n → passes n

abbrev pub IsContextLeft : Board → ℕ → Type 0
IsContextLeft b n = is_context_number n × (IsTrue (b.class n) × (b.used_context n ≡ false))

abbrev pub IsEphemeralLeft : Board → ℕ → Type 0
IsEphemeralLeft b n = is_ephemeral_number n × (IsTrue (b.class n) × (b.used_ephemeral n ≡ false))

-- for each request that was sent there are as many identifiers left as it has commands; so none of them is refused for want of one
pub record HasIdentifiersLeft (w : World) : Type 0 where
  pub contexts : (request : Request) → Contains w.requests request → AreLeft (IsContextLeft w.gateway.board) (length request.commands)
  pub ephemerals : (request : Request) → Contains w.requests request → AreLeft (IsEphemeralLeft w.gateway.board) (length request.commands)

-- a run in which identifiers are left before each event
unfoldable pub RunsWithin : Script → List Event → World → World → Type 0
RunsWithin script [] w end = end ≡ w
RunsWithin script (event ∷ more) w end =
    HasIdentifiersLeft w × ((next : World) × (Occurs script w event next × RunsWithin script more next end))

-- ---- shards

-- a shard: the calls of its opening, the numbers that its calls may have, its history, and the worlds that it goes from and to
pub record Shard : Type 0 where
  pub calls : List Opened
  pub numbers : ℕ → Bool
  pub start : World
  pub history : List Event
  pub end : World

-- an event belongs to a call with one of these numbers, or it is a restart
abbrev pub IsEventOf : (ℕ → Bool) → Event → Type 0
IsEventOf numbers (OfCall call happens) = IsTrue (numbers call.0)
IsEventOf numbers Restart = Unit {0}

-- its history is a run from an opening of its calls, which have its numbers as those that begin later do
pub record IsShardRun (script : Script) (shard : Shard) : Type 0 where
  pub opens : IsOpening script shard.calls shard.start
  pub calls : (one : Opened) → Contains shard.calls one → IsTrue (shard.numbers one.call)
  pub events : (event : Event) → Contains shard.history event → IsEventOf shard.numbers event
  pub runs : RunsWithin script shard.history shard.start shard.end

-- no call, no line and no identifier may be of both
pub record AreApart (script : Script) (one other : Shard) : Type 0 where
  pub numbers : (call : ℕ) → IsTrue (one.numbers call) → IsTrue (other.numbers call) → ⊥
  pub lines : (a b : Opened) (i j : ℕ) → Contains one.calls a → Contains other.calls b → i < length script.lines
      → j < length script.lines → a.lines i ≡ b.lines j → ⊥
  pub classes : (n : ℕ) → IsTrue (one.start.gateway.board.class n) → IsTrue (other.start.gateway.board.class n) → ⊥

unfoldable pub AreAllApart : Script → List Shard → Type 0
AreAllApart script [] = Unit {0}
AreAllApart script (shard ∷ more) =
    ((other : Shard) → Contains more other → AreApart script shard other) × AreAllApart script more

-- ---- the merge

abbrev pub all_calls : List Shard → List Opened
all_calls shards = flat_map (λ (shard : Shard). shard.calls) shards

abbrev pub histories : List Shard → List History
histories [] = []
histories (shard ∷ more) = cut_at_restarts shard.history ∷ histories more

-- a world in which each call of a shard has the agent that the shard gives it, in the shard's association
pub record AgreesWith (w : World) (shard : Shard) : Type 0 where
  pub association : w.gateway.association ≡ shard.end.gateway.association
  pub agents : (call : ℕ) → IsTrue (shard.numbers call) → w.agent call ≡ shard.end.agent call

-- the merge of the shards' histories is a run of all their calls
pub record IsMergedRun (script : Script) (shards : List Shard) (restarts : ℕ) : Type 0 where
  pub start : World
  pub end : World
  pub opens : IsOpening script (all_calls shards) start
  pub runs : Runs script (merged (histories shards) restarts) start end
  pub agrees : (shard : Shard) → Contains shards shard → AgreesWith end shard
