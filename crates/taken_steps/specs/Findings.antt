-- What is asked of a shard and of a call to find the reason of a step that can't happen; `proofs/FoundReasons` shows that what is found is one. This
-- profile's own.
use Rattle.std.specs.Prelude.{◌≡◌, ℕ, ◌<◌, ◌≤◌, Bool, true, false, if◌then◌else◌, Option, None, Some}
use Rattle.mg_names.specs.declared.identifiers.Assoc.{Assoc}
use Rattle.mg_names.specs.declared.identifiers.LineNo.{LineNo}
use Rattle.mg_model.specs.declared.events.CallEvent.{CallEvent}
use Rattle.mg_model.specs.declared.events.CallEvent.TheVariants as to_call
use Rattle.mg_model.specs.declared.line_events.Hook.TheVariants.{On, Off}
use Rattle.mg_model.specs.declared.line_events.LineEvent.TheVariants as happens
use Rattle.mg_model.specs.Script.{Script}
use Rattle.mg_model.specs.Tables.{state_of}
use Rattle.mg_model.specs.World.{World, on_a_line}
use Rattle.agent.specs.AgentValue.{agent_of}
use Rattle.agent.specs.CallValue.{Kind, rests, waits, has_ended}
use Rattle.agent.specs.Calls.{value_of, variant_of}
use Rattle.agent.specs.declared.call.Next.{Next}
use Rattle.shards.specs.CanOccur.{NeverOccurs}
use Rattle.shards.specs.Shards.{IsWorldOf, ShardValue}
use Rattle.shards.specs.Standings.{TellsStanding}
use Rattle.shards.specs.declared.standing.Standing.{Standing}
use Rattle.taken_steps.specs.Reasons.{IsLong, IsShort, awaited_number, has_reached}
use Rattle.taken_steps.specs.declared.came.Came.{Came}
use Rattle.taken_steps.specs.declared.came.Came.TheVariants as cames
use Rattle.taken_steps.specs.declared.idle.Idle.{Idle}
use Rattle.taken_steps.specs.declared.idle.Idle.TheVariants.{Lost, NotAwaited, NotNew, OtherAssociation, NoTimer, NothingToHear, NotBegun, NotOfCall, NotOnLine, NotReleased, NumbersEnd}
use Rattle.taken_steps.specs.declared.idle.Numbers.TheVariants.{Notes, Requests}

-- ---- where the call is

abbrev pub kind_at : Script → (state : ℕ) → (is_resting : Bool) → Kind
kind_at script state is_resting = if is_resting then (if (state_of script state).is_end then has_ended else rests) else waits

-- a call stands where the one that is handed in does, and is of its kind
pub record StandsAlike (script : Script) (s : Standing) (a : Next) : Type 0 where
  pub kind : kind_at script s.state s.is_resting ≡ variant_of a
  pub state : s.state ≡ (agent_of (value_of a).agent).state
  pub association : s.association.0 ≡ (agent_of (value_of a).agent).association

-- the shard has the call so
pub record IsStandingAlike (v : ShardValue) (call : ℕ) (a : Next) (s : Standing) : Type 0 where
  pub told : TellsStanding v call (Some s)
  pub alike : StandsAlike v.script s a

-- a step that is refused comes to this, where a reason was found
abbrev pub ComesToIdle : Option Idle → Came → Type 0
ComesToIdle None came = ⊥
ComesToIdle (Some why) came = came ≡ cames.Idle why

-- ---- a line

-- the call holds it, or neither hook event can happen there
abbrev pub TellsHolder : ShardValue → (call line : ℕ) → Bool → Type 0
TellsHolder v call line true = (w : World) → IsWorldOf v w → w.gateway.holder line ≡ Some call
TellsHolder v call line false = NeverOccurs v (on_a_line call line (happens.Hook Off)) × NeverOccurs v (on_a_line call line (happens.Hook On))

abbrev pub IsFoundOnLine : ShardValue → (call : ℕ) → LineNo → Idle → Type 0
IsFoundOnLine v call line (NotOfCall told) = (told ≡ line) × IsShort v × TellsHolder v call line.0 false
IsFoundOnLine v call line (NotOnLine told) = (told ≡ line) × IsShort v × TellsHolder v call line.0 true
IsFoundOnLine v call line (NumbersEnd Notes) = IsLong v
IsFoundOnLine v call line why = ⊥

-- ---- what reaches the agent

-- a reply, which may tell a failure, leads on from the state; and so does a pass
abbrev pub LeadsSomewhere : Script → (state : ℕ) → Option ℕ → Type 0
LeadsSomewhere script state None = Unit {0}
LeadsSomewhere script state (Some number) = (state_of script state).fault ≡ None → ⊥

abbrev pub IsFoundAtAnswer : Script → Next → (state : ℕ) → (came : Option ℕ) → Idle → Type 0
IsFoundAtAnswer script a state came (NotAwaited expected told) = (told ≡ came) × (expected ≡ awaited_number a) × (expected ≡ came → ⊥)
IsFoundAtAnswer script a state came (NumbersEnd Requests) = (awaited_number a ≡ came) × LeadsSomewhere script state came
IsFoundAtAnswer script a state came why = ⊥

abbrev pub IsFoundAtNote : ShardValue → (call number : ℕ) → Idle → Type 0
IsFoundAtNote v call number (NotNew told) = (told ≡ number) × (has_reached call number v.history ≡ true)
IsFoundAtNote v call number (OtherAssociation told) = (told ≡ number) × (has_reached call number v.history ≡ false) × IsShort v
IsFoundAtNote v call number (NumbersEnd Requests) = (has_reached call number v.history ≡ false) × IsLong v
IsFoundAtNote v call number why = ⊥

abbrev pub IsFoundAtTimer : Script → (state : ℕ) → Idle → Type 0
IsFoundAtTimer script state NoTimer = (state_of script state).timer ≡ None
IsFoundAtTimer script state (NumbersEnd Requests) = (state_of script state).timer ≡ None → ⊥
IsFoundAtTimer script state why = ⊥

abbrev pub IsFoundAtHearing : (own current : ℕ) → Assoc → Idle → Type 0
IsFoundAtHearing own current association NothingToHear = association.0 ≤ own
IsFoundAtHearing own current association (NotBegun told) = (told ≡ association) × (own < association.0) × (current < association.0)
IsFoundAtHearing own current association (NumbersEnd Requests) = (own < association.0) × (association.0 ≤ current)
IsFoundAtHearing own current association why = ⊥

-- ---- a beginning

abbrev pub IsFoundAtBeginning : (own current : ℕ) → Idle → Type 0
IsFoundAtBeginning own current (Lost its told) = (its.0 ≡ own) × (told.0 ≡ current) × (its.0 ≡ told.0 → ⊥)
IsFoundAtBeginning own current NotReleased = own ≡ current
IsFoundAtBeginning own current why = ⊥

-- ---- any event

abbrev pub IsFound : ShardValue → Next → Standing → (call : ℕ) → CallEvent → Idle → Type 0
IsFound v a s call (to_call.OnLine line event) why = IsFoundOnLine v call line why
IsFound v a s call (to_call.Execute number chosen) why = why ≡ NumbersEnd Notes
IsFound v a s call (to_call.Reply number) why = IsFoundAtAnswer v.script a s.state (Some number) why
IsFound v a s call to_call.Pass why = IsFoundAtAnswer v.script a s.state None why
IsFound v a s call (to_call.Note number) why = IsFoundAtNote v call number why
IsFound v a s call to_call.Timer why = IsFoundAtTimer v.script s.state why
IsFound v a s call (to_call.Hear association) why = IsFoundAtHearing s.association.0 v.gateway.association association why
IsFound v a s call (to_call.Begin old) why = IsFoundAtBeginning s.association.0 v.gateway.association why
