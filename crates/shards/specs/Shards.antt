-- A shard: what it shows, what its type keeps, and what a restart of it comes to. A reader should check that its history is a run from an opening of its calls
-- to the world that it shows, that an event that happens is added to it, and nothing else, and that a call's part has its events and every restart.
use Rattle.std.specs.List.{filter}
use Rattle.std.specs.Prelude.{Bool, true, ◌≡◌, ℕ, ◌<◌, ◌≤◌, ◌==◌, suc, false, if◌then◌else◌, List, [], ◌∷◌, ◌++◌, map, slice_index_or, Option, Some, Result, Ok, Err}
use Rattle.mg_names.specs.declared.identifiers.Assoc.{Assoc}
use Rattle.mg_names.specs.declared.identifiers.LineNo.{LineNo}
use Rattle.identifiers.specs.Class.{is_of_class}
use Rattle.mg_model.specs.declared.events.Event.{Event}
use Rattle.mg_model.specs.declared.events.Event.TheVariants.{OfCall, Restart}
use Rattle.mg_model.specs.Numbers.{last_association}
use Rattle.mg_model.specs.Script.{Script}
use Rattle.mg_model.specs.World.{World, IsOpening, Occurs, Opened, Runs, is_of_call}
use Rattle.mg_model.specs.Accepted.{HasFewCommands, IsScript}
use Rattle.mg_merge.specs.Identifiers.{most_shards}
use Rattle.mg_safety.specs.Headline.{RunsAreGood}
use Rattle.gateway.specs.GatewayValue.{GatewayValue, gateway_of, is_open}
use Rattle.shards.specs.Shows.{Shows}
use Rattle.shards.specs.CallTable.{record_in}
use Rattle.shards.specs.declared.fault.RestartFault.{RestartFault}
use Rattle.shards.specs.declared.fault.RestartFault.TheVariants.{CannotHappen, NoMemory}
use Rattle.shards.specs.declared.opened.OpenedCall.{OpenedCall}
use Rattle.shards.specs.declared.call_record.CallRecord.{CallRecord}

pub record ShardValue : Type 0 where
  pub script : Script
  -- the class of identifiers that its gateway gives
  pub first : ℕ
  pub stride : ℕ
  -- the calls of its opening
  pub calls : List OpenedCall
  pub gateway : GatewayValue
  pub call_table : List (ℕ × CallRecord)
  pub history : List Event

-- a call of the opening, as the model has it
abbrev pub opened_as : OpenedCall → Opened
opened_as c = record { call = c.call.0; lines = λ i. slice_index_or (map (λ (l : LineNo). l.0) c.lines.items) i 0 }

-- ---- what its type keeps

-- a run from an opening of the calls by the history, and the world at its end is shown
pub record IsWorldOf (v : ShardValue) (w : World) : Type 0 where
  pub start : World
  pub opens : IsOpening v.script (map opened_as v.calls) start
  pub class : start.gateway.board.class ≡ is_of_class v.first v.stride
  pub runs : Runs v.script v.history start w
  pub shows : Shows w v.gateway (record_in v.call_table)

-- how many events of a list are a call's
abbrev pub events_of : ℕ → List Event → ℕ
events_of call [] = 0
events_of call (event ∷ more) = if is_of_call call event then suc (events_of call more) else events_of call more

-- each record counts the events of its call, and no event is of a call whose number was never used
pub record CountsEvents (v : ShardValue) : Type 0 where
  pub counted : (call : ℕ) (s : CallRecord) → record_in v.call_table call ≡ Some s → s.events ≡ events_of call v.history
  pub unused : (call : ℕ) → is_open v.gateway call ≡ false → (gateway_of v.gateway).retired call ≡ false → events_of call v.history ≡ 0

pub record IsShard (v : ShardValue) : Type 0 where
  pub accepted : IsScript v.script
  pub few_commands : HasFewCommands v.script
  pub safe : RunsAreGood v.script
  pub within : v.first < v.stride
  pub few_shards : v.stride ≤ most_shards
  pub world : World
  pub is_world : IsWorldOf v world
  pub counts : CountsEvents v

-- ---- an event

-- what of a shard an event never changes
pub record HasSameOpening (old new : ShardValue) : Type 0 where
  pub script : new.script ≡ old.script
  pub first : new.first ≡ old.first
  pub stride : new.stride ≡ old.stride
  pub calls : new.calls ≡ old.calls

-- the event happens: it is added to the history, and whatever world was shown, one is shown that it leads to
pub record HasHappened (old new : ShardValue) (event : Event) : Type 0 where
  pub same : HasSameOpening old new
  pub history : new.history ≡ old.history ++ event ∷ []
  pub worlds : (w : World) → IsWorldOf old w → (after : World) × (Occurs old.script w event after × IsWorldOf new after)

-- nothing changes that a world shows
pub record IsUnchanged (old new : ShardValue) : Type 0 where
  pub same : HasSameOpening old new
  pub history : new.history ≡ old.history
  pub worlds : (w : World) → IsWorldOf old w → IsWorldOf new w

-- ---- a restart

abbrev pub IsRestarting : ShardValue → ShardValue → Result Assoc RestartFault → Type 0
IsRestarting old new (Ok association) = HasHappened old new Restart × (association.0 ≡ new.gateway.association)
IsRestarting old new (Err CannotHappen) = (old.gateway.association ≡ last_association) × IsUnchanged old new
IsRestarting old new (Err NoMemory) = IsUnchanged old new

-- ---- a call's part

-- an event of the call, or a restart
abbrev pub is_part_of : ℕ → Event → Bool
is_part_of call (OfCall of happens) = of.0 == call
is_part_of call Restart = true

-- those of a history, in their order
abbrev pub part_of : ℕ → List Event → List Event
part_of call history = filter (is_part_of call) history
