-- A shard that opens. A reader should check that nothing happened in it yet, that it is of the script, the class and the calls that were asked for, and that
-- each call is handed out as it was entered, in the order of the calls; and that a call is refused as taken only where it has what one before it has, or
-- a line twice.
use Rattle.std.specs.Prelude.{◌≡◌, ◌≢◌, ℕ, ◌==◌, ◌||◌, if◌then◌else◌, false, List, [], ◌∷◌, ◌++◌, length, map, true, ◌⊎◌, Contains, Option, Some, option_map, Result, Ok, Err}
use Rattle.std.specs.declared.alloc.Global.{Global}
use Rattle.std.specs.declared.vec.Vec.{Vec}
use Rattle.mg_model.specs.Agent.{opened}
use Rattle.mg_model.specs.Script.{Script}
use Rattle.mg_model.specs.World.{Opened}
use Rattle.identifiers.specs.Class.{is_of_class}
use Rattle.contexts.specs.BoardValue.{names_line}
use Rattle.gateway.specs.declared.fault.OpenFault as of_gateway
use Rattle.gateway.specs.GatewayValue.{GatewayValue, gateway_of, is_open, is_taken}
use Rattle.gateway.specs.Openings as gateway
use Rattle.agent.specs.AgentValue.{agent_of}
use Rattle.agent.specs.CallValue.{CallValue}
use Rattle.agent.specs.Calls.{IsNext, value_of}
use Rattle.agent.specs.declared.call.Next.{Next}
use Rattle.shards.specs.Messages.{none_sent}
use Rattle.systems.specs.Openings.{AreOpened, line_at}
use Rattle.systems.specs.Systems.{System}
use Rattle.shards.specs.Shards.{ShardValue, opened_as}
use Rattle.shards.specs.CallTable.{record_in}
use Rattle.shards.specs.declared.fault.OpenFault.{OpenFault}
use Rattle.shards.specs.declared.fault.OpenFault.TheVariants.{WrongLines, Taken, NoMemory}
use Rattle.shards.specs.declared.opening.Opened as opening
use Rattle.shards.specs.declared.opened.OpenedCall.{OpenedCall}
use Rattle.shards.specs.declared.call_record.CallRecord.{CallRecord}

-- ---- the calls that are handed out

-- a call as it is entered: at rest in the start state, and nothing happened to it
pub record IsEntered (script : Script) (one : OpenedCall) (next : Next) : Type 0 where
  pub kind : IsNext next
  pub agent : agent_of (value_of next).agent ≡ opened script one.call.0 (line_at one.lines.items)
  pub of_script : (value_of next).script ≡ script
  pub transcript : (value_of next).transcript ≡ []

abbrev pub AreEntered : Script → List OpenedCall → List Next → Type 0
AreEntered script [] [] = Unit {0}
AreEntered script (one ∷ more) (next ∷ nexts) = IsEntered script one next × AreEntered script more nexts
AreEntered script [] (next ∷ nexts) = ⊥
AreEntered script (one ∷ more) [] = ⊥

-- ---- the shard

pub record IsNewShard (script : Script) (calls : List OpenedCall) (first stride : ℕ) (v : ShardValue) : Type 0 where
  pub of_script : v.script ≡ script
  pub of_calls : v.calls ≡ calls
  pub of_first : v.first ≡ first
  pub of_stride : v.stride ≡ stride
  pub history : v.history ≡ []

-- a call has another number of lines than the script
pub record HasWrongLines (script : Script) (calls : List OpenedCall) : Type 0 where
  pub one : OpenedCall
  pub among : Contains calls one
  pub wrong : length one.lines.items ≢ length script.lines

-- a line of both
pub record ShareALine (one other : OpenedCall) : Type 0 where
  pub line : ℕ
  pub of_one : names_line one.lines.items line ≡ true
  pub of_other : names_line other.lines.items line ≡ true

-- a call before it has its number or one of its lines, or it names a line twice
abbrev pub IsTakenAfter : List OpenedCall → OpenedCall → Type 0
IsTakenAfter before one =
    ((earlier : OpenedCall) × Contains before earlier × ((earlier.call.0 ≡ one.call.0) ⊎ ShareALine earlier one)) ⊎ (gateway.has_twice one.lines.items ≡ true)

-- the numbers of the calls, or their lines, aren't all different
pub record HasTaken (calls : List OpenedCall) : Type 0 where
  pub before : List OpenedCall
  pub one : OpenedCall
  pub later : List OpenedCall
  pub parts : calls ≡ before ++ one ∷ later
  pub taken : IsTakenAfter before one

abbrev pub IsShardOpened : Script → List OpenedCall → (first stride : ℕ) → Result (ShardValue × Vec Next Global) OpenFault → Type 0
IsShardOpened script calls first stride (Ok (v, nexts)) = IsNewShard script calls first stride v × AreEntered script calls nexts.items
IsShardOpened script calls first stride (Err WrongLines) = HasWrongLines script calls
IsShardOpened script calls first stride (Err Taken) = HasTaken calls
IsShardOpened script calls first stride (Err NoMemory) = Unit {0}

-- ---- one call of it

-- the record of a call that opens: no event happened, and nothing was sent
pub record IsFirstRecord (script : Script) (one : OpenedCall) (t : CallRecord) : Type 0 where
  pub agent : agent_of t.agent ≡ opened script one.call.0 (line_at one.lines.items)
  pub events : t.events ≡ 0
  pub sent : t.messages.sent ≡ none_sent 1
  pub settled : t.settled ≡ 0

pub record OpensOne (script : Script) (g h : GatewayValue) (old new : List (ℕ × CallRecord)) (one : OpenedCall) : Type 0 where
  pub all_lines : length one.lines.items ≡ length script.lines
  pub may : gateway.opening (gateway_of g) (is_taken g one.call.0) one.lines.items ≡ Ok tt
  pub gateway : gateway_of h ≡ gateway.opened (gateway_of g) one.call.0 one.lines.items
  pub open_calls : (other : ℕ) → is_open h other ≡ ((other == one.call.0) || is_open g other)
  pub call_record : CallRecord
  pub first : IsFirstRecord script one call_record
  pub call_table : (c : ℕ) → record_in new c ≡ (if c == one.call.0 then Some call_record else record_in old c)

abbrev pub IsOpenedOne : Script → GatewayValue → GatewayValue → List (ℕ × CallRecord) → List (ℕ × CallRecord) → OpenedCall → Result Next OpenFault → Type 0
IsOpenedOne script g h old new one (Ok next) = OpensOne script g h old new one × IsEntered script one next
IsOpenedOne script g h old new one (Err WrongLines) = length one.lines.items ≢ length script.lines
IsOpenedOne script g h old new one (Err Taken) =
    (why : of_gateway.OpenFault) × (gateway.opening (gateway_of g) (is_taken g one.call.0) one.lines.items ≡ Err why)
IsOpenedOne script g h old new one (Err NoMemory) = Unit {0}

-- ---- all of them

-- a record as a call that is open on the gateway
abbrev pub call_of : Script → CallRecord → CallValue
call_of script t = record { script = script; agent = t.agent; transcript = []; room = false }

abbrev pub system_of : Script → GatewayValue → List (ℕ × CallRecord) → System
system_of script g entries =
    record { gateway = g; call = λ c. option_map (call_of script) (record_in entries c); requests = []; replies = []; notes = [] }

-- these calls were opened, in some order, on a new gateway of this class
pub record AreOpenedOn (script : Script) (calls : List OpenedCall) (first stride : ℕ) (g : GatewayValue) (entries : List (ℕ × CallRecord)) : Type 0 where
  pub done : List Opened
  pub opened : AreOpened script done (system_of script g entries)
  pub has : (o : Opened) → Contains done o → Contains (map opened_as calls) o
  pub each : (o : Opened) → Contains (map opened_as calls) o → Contains done o
  pub class : (gateway_of g).board.class ≡ is_of_class first stride
  pub call_table : (c : ℕ) (t : CallRecord) → record_in entries c ≡ Some t → (t.events ≡ 0) × (t.messages.sent ≡ none_sent 1) × (t.settled ≡ 0)

abbrev pub AreOpenedRecords : Script → List OpenedCall → (first stride : ℕ) → Result opening.Opened OpenFault → Type 0
AreOpenedRecords script calls first stride (Ok o) = AreOpenedOn script calls first stride o.gateway o.call_table.entries × AreEntered script calls o.nexts.items
AreOpenedRecords script calls first stride (Err WrongLines) = HasWrongLines script calls
AreOpenedRecords script calls first stride (Err Taken) = HasTaken calls
AreOpenedRecords script calls first stride (Err NoMemory) = Unit {0}
