-- Records by the numbers of their calls. A reader should check that where a call is stepped no other record changes, and that a call without a record isn't
-- enabled.
use Rattle.std.specs.Prelude.{◌≡◌, ℕ, nat_eq, ◌+◌, ◌<◌, length, List, Option, Some, None, Result, Err}
use Rattle.std.specs.Map.{lookup}
use Rattle.mg_model.specs.declared.events.CallEvent.{CallEvent}
use Rattle.mg_model.specs.declared.failures.ChosenRefusal.{ChosenRefusal}
use Rattle.mg_model.specs.declared.line_events.LineEvent.{LineEvent}
use Rattle.mg_model.specs.Script.{Script}
use Rattle.gateway.specs.GatewayValue.{GatewayValue, gateway_of}
use Rattle.agent.specs.declared.call.Next.{Next}
use Rattle.agent.specs.declared.refusal.Refusal.{Refusal}
use Rattle.agent.specs.declared.refusal.Refusal.TheVariants.{NotEnabled}
use Rattle.shards.specs.CallRecords.{IsExecuted, IsHappenedOn, IsStepped, IsTied}
use Rattle.shards.specs.declared.call_record.CallRecord.{CallRecord}

-- the record of a call; none where no call of this number is open
unfoldable pub record_in : List (ℕ × CallRecord) → ℕ → Option CallRecord
record_in call_table call = lookup (nat_eq call) call_table

-- the records of all calls but one stay
abbrev pub OthersStay : List (ℕ × CallRecord) → ℕ → List (ℕ × CallRecord) → Type 0
OthersStay old call new = (c : ℕ) → (c ≡ call → ⊥) → record_in new c ≡ record_in old c

-- ---- a call is stepped

abbrev pub events_bound : ℕ
events_bound = 18446744073709551616

-- the record, if there is one, is tied, and can count one event more
abbrev pub IsReady : Option CallRecord → Type 0
IsReady entry = (s : CallRecord) → entry ≡ Some s → IsTied s × (s.events + 1 < events_bound)

-- and it counts the notes that the gateway does
abbrev pub CountsNotes : GatewayValue → ℕ → Option CallRecord → Type 0
CountsNotes g call entry = (s : CallRecord) → entry ≡ Some s → ((gateway_of g).link call).notes ≡ length s.messages.sent.notes

-- at its agent
abbrev pub StepsIn : Script → Next → CallEvent → Option CallRecord → Option CallRecord → Next → Result (Unit {0}) Refusal → Type 0
StepsIn script old event None entry new told = (entry ≡ None) × (told ≡ Err NotEnabled) × (new ≡ old)
StepsIn script old event (Some s) entry new told = (t : CallRecord) × (entry ≡ Some t) × IsStepped script old event s t new told

-- at its gateway
abbrev pub ExecutesIn : GatewayValue → GatewayValue → (call number : ℕ) → Option ChosenRefusal → Option CallRecord → Option CallRecord → Result (Unit {0}) Refusal → Type 0
ExecutesIn old new call number refusal None entry told = (entry ≡ None) × (told ≡ Err NotEnabled) × (new ≡ old)
ExecutesIn old new call number refusal (Some s) entry told = (t : CallRecord) × (entry ≡ Some t) × IsExecuted old new call number refusal s t told

abbrev pub HappensIn : GatewayValue → GatewayValue → (call line : ℕ) → LineEvent → Option CallRecord → Option CallRecord → Result (Unit {0}) Refusal → Type 0
HappensIn old new call line event None entry told = (entry ≡ None) × (told ≡ Err NotEnabled) × (new ≡ old)
HappensIn old new call line event (Some s) entry told = (t : CallRecord) × (entry ≡ Some t) × IsHappenedOn old new call line event s t told
