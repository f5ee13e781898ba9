-- When a gateway and records of calls show a world. A reader should check that the gateway and each agent are those of the world, that every message of
-- a call that is held is found as the world has it, and that no other call is open.
use Rattle.std.specs.Prelude.{◌≡◌, ℕ, ◌≤◌, ◌==◌, Bool, true, nat_le, if◌then◌else◌, length, Contains, Option, Some, None, is_some}
use Rattle.std.specs.List.{find}
use Rattle.mg_model.specs.declared.events.CallEvent.{CallEvent}
use Rattle.mg_model.specs.declared.events.CallEvent.TheVariants.{Hear}
use Rattle.mg_model.specs.declared.events.Event.{Event}
use Rattle.mg_model.specs.Messages.{Request, Reply, SentNote}
use Rattle.mg_model.specs.Reports.{is_of}
use Rattle.mg_model.specs.Script.{Script}
use Rattle.mg_model.specs.World.{World, Occurs}
use Rattle.gateway.specs.GatewayValue.{GatewayValue, gateway_of, is_open}
use Rattle.agent.specs.AgentValue.{agent_of}
use Rattle.shards.specs.Messages.{reply_for}
use Rattle.shards.specs.CallRecords.{IsTied, request_in}
use Rattle.shards.specs.declared.call_record.CallRecord.{CallRecord}

-- a record shows a call of a world
pub record ShowsCall (w : World) (call : ℕ) (s : CallRecord) : Type 0 where
  pub agent : w.agent call ≡ Some (agent_of s.agent)
  pub requests : (which : Option ℕ) → find (λ (r : Request). is_of call which r.call r.number) w.requests ≡ request_in s which
  pub replies : (which : Option ℕ) → find (λ (r : Reply). is_of call which r.call r.number) w.replies ≡ reply_for s.messages.sent which
  pub notes_sent : (n : SentNote) → Contains s.messages.sent.notes n → Contains w.notes n × (n.call ≡ call)
  pub notes_kept : (n : SentNote) → Contains w.notes n → n.call ≡ call → Contains s.messages.sent.notes n
  pub counted : (w.gateway.link call).notes ≡ length s.messages.sent.notes
  pub tied : IsTied s

-- a gateway and the records of the calls that are open on it show a world
pub record Shows (w : World) (g : GatewayValue) (call_record : ℕ → Option CallRecord) : Type 0 where
  pub gateway : w.gateway ≡ gateway_of g
  pub open_calls : (call : ℕ) → is_open g call ≡ is_some (call_record call)
  pub calls : (call : ℕ) (s : CallRecord) → call_record call ≡ Some s → ShowsCall w call s
  pub no_others : (call : ℕ) → call_record call ≡ None → w.agent call ≡ None

-- a record is put in the place of a call
abbrev pub with_record : (ℕ → Option CallRecord) → ℕ → CallRecord → ℕ → Option CallRecord
with_record call_record call new c = if c == call then Some new else call_record c

-- an agent hears of no association that the gateway hasn't begun
abbrev pub is_told : ℕ → CallEvent → Bool
is_told current (Hear association) = nat_le association.0 current
is_told current event = true

-- the same of a world
abbrev pub IsTold : World → CallEvent → Type 0
IsTold w (Hear association) = association.0 ≤ w.gateway.association
IsTold w event = Unit {0}

-- an event leads to a world that a gateway and records show
pub record LeadsOn (script : Script) (w : World) (event : Event) (g : GatewayValue) (call_record : ℕ → Option CallRecord) : Type 0 where
  pub after : World
  pub occurs : Occurs script w event after
  pub shown : Shows after g call_record
