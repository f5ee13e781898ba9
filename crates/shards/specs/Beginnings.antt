-- A call that begins on the lines of one that has ended, in a shard. A reader should check that the call of the record has to have ended in the association of
-- the gateway, and that the new record has the number after the old call's last request, and no message.
use Rattle.std.specs.Prelude.{◌≡◌, ℕ, ◌==◌, ◌&&◌, Bool, if◌then◌else◌, List, Option, Some, None, Result, Ok}
use Rattle.gateway.specs.declared.fault.BeginFault.{BeginFault}
use Rattle.gateway.specs.declared.fault.BeginFault.TheVariants as fault
use Rattle.mg_model.specs.Agent.{Agent, begun, is_resting}
use Rattle.mg_model.specs.Script.{Script}
use Rattle.mg_model.specs.Tables.{state_of}
use Rattle.agent.specs.AgentValue.{agent_of}
use Rattle.agent.specs.CallValue.{CallValue}
use Rattle.agent.specs.Calls.{IsBegun, IsNext, IsRetired, value_of}
use Rattle.agent.specs.declared.call.Next.{Next}
use Rattle.agent.specs.declared.refusal.Refusal.{Refusal}
use Rattle.agent.specs.declared.refusal.Refusal.TheVariants.{NotEnabled, NoMemory}
use Rattle.shards.specs.Messages.{none_sent}
use Rattle.shards.specs.CallTable.{record_in}
use Rattle.shards.specs.declared.call_record.CallRecord.{CallRecord}
use Rattle.shards.specs.declared.stepped.Stepped.{Stepped}
use Rattle.shards.specs.declared.stepped.Stepped.TheVariants.{Begun}

-- ---- when it may

-- its state is marked end, it is at rest, and its association is this one
abbrev pub has_ended : Script → Agent → ℕ → Bool
has_ended script a association = is_resting a.phase && ((state_of script a.state).is_end && a.association == association)

abbrev pub refusal_of : BeginFault → Refusal
refusal_of fault.UnknownCall = NotEnabled
refusal_of fault.Taken = NotEnabled
refusal_of fault.CannotHappen = NotEnabled
refusal_of fault.NoMemory = NoMemory

-- ---- the records

-- the record of the call that began: its beginning is the one event, nothing was sent, and no note is settled
pub record IsBegunRecord (script : Script) (call : ℕ) (old new : CallRecord) : Type 0 where
  pub agent : agent_of new.agent ≡ begun script call (agent_of old.agent)
  pub events : new.events ≡ 1
  pub sent : new.messages.sent ≡ none_sent (agent_of old.agent).next
  pub settled : new.settled ≡ 0

-- the new call has its record in place of the old one's, which has none
pub record HandsOver (script : Script) (old new : List (ℕ × CallRecord)) (from call : ℕ) (s : CallRecord) : Type 0 where
  pub call_record : CallRecord
  pub begun_record : IsBegunRecord script call s call_record
  pub call_table : (c : ℕ) → record_in new c ≡ (if c == call then Some call_record else if c == from then None else record_in old c)

-- ---- the call that is handed in

-- it begins anew, and what is left of the old one is told
abbrev pub IsBegunBy : ℕ → CallValue → Next → Result Stepped Refusal → Type 0
IsBegunBy call old after (Ok (Begun retired)) = IsNext after × IsBegun call old (value_of after) × IsRetired old retired
IsBegunBy call old after other = ⊥
