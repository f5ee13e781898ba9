-- The whole: a gateway, the agents of the calls, and the set of all messages that were ever sent; what can happen to it; and
-- when it is good. Any message may be delivered at any time, any number of times, or never. A reader should check that no
-- event is missing, that each says of everything else that it stays, and what a good world is: that is the promise.
use Rattle.std.specs.Prelude.{◌≡◌, ℕ, ◌<◌, ◌≤◌, ◌==◌, Bool, false, IsTrue, if◌then◌else◌, List, [], ◌∷◌, ◌++◌, length, Contains, Option, Some, None, ◌⊎◌, ◌↔◌}
use Rattle.mg_names.specs.declared.identifiers.TermId.TheVariants.{Line, Eph}
use Rattle.mg_names.specs.declared.strictness.Strict.TheVariants.{Exact}
use Rattle.mg_model.specs.declared.events.CallEvent.{CallEvent}
use Rattle.mg_model.specs.declared.events.CallEvent.TheVariants as to_call
use Rattle.mg_model.specs.declared.events.Event.{Event}
use Rattle.mg_model.specs.declared.events.Event.TheVariants.{OfCall, Restart}
use Rattle.mg_model.specs.declared.failures.ChosenRefusal.{ChosenRefusal}
use Rattle.mg_model.specs.declared.line_events.LineEvent.{LineEvent}
use Rattle.mg_model.specs.declared.rows.Row.{Row}
use Rattle.mg_model.specs.Agent.{Agent, Phase, awaits_reply, awaits_pass, resting, replied, passed, noted, timed, heard, opened, begun}
use Rattle.mg_model.specs.Board.{exists, null_row}
use Rattle.mg_model.specs.Gateway as gateway
use Rattle.mg_model.specs.Gateway.{Gateway, IsExecutedBy, IsKept, IsDiscarded, Happens, MayBegin, restarted}
use Rattle.mg_model.specs.declared.transitions.EventItem.TheVariants.{OffHook}
use Rattle.mg_model.specs.LineEvents.{LineRow, new_line, silent}
use Rattle.mg_model.specs.Media.{AreJoined}
use Rattle.mg_model.specs.Messages.{Request, Reply, SentNote}
use Rattle.mg_model.specs.Numbers.{null, first_association, last_association, opening_request, the_association, the_call, the_line}
use Rattle.mg_model.specs.Script.{Script}
use Rattle.mg_model.specs.Tables.{state_of, is_marked, line_places}

pub record World : Type 0 where
  pub gateway : Gateway
  -- the agent of each call that is open
  pub agent : ℕ → Option Agent
  -- all that was ever sent
  pub requests : List Request
  pub replies : List Reply
  pub notes : List SentNote

-- ---- what can happen, as data: the parts of a history

-- an event of a line names the call that holds it: any of hook, flash, digit, pause, and the end of a signal
abbrev pub on_a_line : (call line : ℕ) → LineEvent → Event
on_a_line call line happens = OfCall (the_call call) (to_call.OnLine (the_line line) happens)

-- a request, a reply and a note are named by their numbers
abbrev pub execute : (call number : ℕ) → Option ChosenRefusal → Event
execute call number chosen = OfCall (the_call call) (to_call.Execute number chosen)

abbrev pub reply : (call number : ℕ) → Event
reply call number = OfCall (the_call call) (to_call.Reply number)

abbrev pub pass : (call : ℕ) → Event
pass call = OfCall (the_call call) to_call.Pass

abbrev pub note : (call number : ℕ) → Event
note call number = OfCall (the_call call) (to_call.Note number)

abbrev pub timer : (call : ℕ) → Event
timer call = OfCall (the_call call) to_call.Timer

-- a call begins on the lines of one that has ended
abbrev pub begin : (call old : ℕ) → Event
begin call old = OfCall (the_call call) (to_call.Begin (the_call old))

abbrev pub hear : (call association : ℕ) → Event
hear call association = OfCall (the_call call) (to_call.Hear (the_association association))

-- whether an event is one of a call
abbrev pub is_of_call : ℕ → Event → Bool
is_of_call call (OfCall c happens) = c.0 == call
is_of_call call Restart = false

-- ---- what an agent sends as it goes on

-- the request that is outstanding in a phase
abbrev pub sent_in : Phase → List Request
sent_in (awaits_reply request) = request ∷ []
sent_in awaits_pass = []
sent_in resting = []

abbrev pub with_agent : World → ℕ → Agent → World
with_agent w call a = record w { agent = λ c. if c == call then Some a else w.agent c }

-- an agent of a call steps, and the request of the state that it enters is sent. A step after which the agent awaits a reply
-- has always entered a state, so nothing is sent twice
abbrev pub agent_steps : World → ℕ → Agent → World
agent_steps w call a = record (with_agent w call a) { requests = sent_in a.phase ++ w.requests }

pub record AgentSteps (w : World) (call : ℕ) (step : Agent → Option Agent) (after : World) : Type 0 where
  pub before : Agent
  pub agent : Agent
  pub open_call : w.agent call ≡ Some before
  pub steps : step before ≡ Some agent
  pub after_is : after ≡ agent_steps w call agent

-- ---- the events

abbrev pub with_gateway : World → Gateway → World
with_gateway w g = record w { gateway = g }

-- a request is executed, and its reply and its notes are sent
pub record IsFirst (w : World) (request : Request) (chosen : Option ChosenRefusal) (after : World) : Type 0 where
  pub gateway : Gateway
  pub answer : Reply
  pub sent : List SentNote
  pub executed : IsExecutedBy w.gateway request chosen gateway answer sent
  pub after_is : after ≡ record (with_gateway w gateway) { replies = answer ∷ w.replies; notes = sent ++ w.notes }

-- the kept reply is sent once more
pub record IsRepeat (w : World) (request : Request) (after : World) : Type 0 where
  pub answer : Reply
  pub kept : IsKept w.gateway request answer
  pub after_is : after ≡ record w { replies = answer ∷ w.replies }

-- a request that was sent reaches the gateway: it is executed, or its reply is sent once more, or nothing happens
abbrev pub Executes : World → Request → Option ChosenRefusal → World → Type 0
Executes w request chosen after =
    IsFirst w request chosen after ⊎ (IsRepeat w request after ⊎ (IsDiscarded w.gateway request × (after ≡ w)))

-- an event of a line, and its note is sent
pub record LineOccurs (w : World) (line : ℕ) (event : LineEvent) (after : World) : Type 0 where
  pub gateway : Gateway
  pub sent : List SentNote
  pub happens : Happens w.gateway line event gateway sent
  pub after_is : after ≡ record (with_gateway w gateway) { notes = sent ++ w.notes }

-- a message of a call with a number was sent
abbrev pub IsRequestOf : World → ℕ → ℕ → Request → Type 0
IsRequestOf w call number request = Contains w.requests request × (request.call ≡ call) × (request.number ≡ number)

abbrev pub IsReplyOf : World → ℕ → ℕ → Reply → Type 0
IsReplyOf w call number answer = Contains w.replies answer × (answer.call ≡ call) × (answer.number ≡ number)

abbrev pub IsNoteOf : World → ℕ → ℕ → SentNote → Type 0
IsNoteOf w call number sent = Contains w.notes sent × (sent.call ≡ call) × (sent.number ≡ number)

-- the call has ended: its state is marked end, it is at rest, and its association is the gateway's
pub record HasEnded (script : Script) (w : World) (a : Agent) : Type 0 where
  pub is_end : IsTrue (state_of script a.state).is_end
  pub at_rest : a.phase ≡ resting
  pub current : a.association ≡ w.gateway.association

-- a call has ended and its lines wait for off-hook; a call of a number that was never used begins on them
pub record Begins (script : Script) (w : World) (call old : ℕ) (after : World) : Type 0 where
  pub before : Agent
  pub open_call : w.agent old ≡ Some before
  pub ended : HasEnded script w before
  pub may : MayBegin w.gateway old
  pub unused : w.agent call ≡ None
  pub not_retired : w.gateway.retired call ≡ false
  pub after_is : after ≡ record w {
    gateway = gateway.begun w.gateway old call;
    agent = λ c. if c == call then Some (begun script call before) else if c == old then None else w.agent c;
  }

abbrev pub OccursTo : Script → World → ℕ → CallEvent → World → Type 0
OccursTo script w call (to_call.OnLine line happens) after = (w.gateway.holder line.0 ≡ Some call) × LineOccurs w line.0 happens after
OccursTo script w call (to_call.Execute number chosen) after = (request : Request) × IsRequestOf w call number request × Executes w request chosen after
OccursTo script w call (to_call.Reply number) after = (answer : Reply) × IsReplyOf w call number answer × AgentSteps w call (λ a. replied script a answer) after
OccursTo script w call to_call.Pass after = AgentSteps w call (passed script) after
OccursTo script w call (to_call.Note number) after =
    (sent : SentNote) × IsNoteOf w call number sent × AgentSteps w call (λ a. noted script a (line_places script) sent) after
OccursTo script w call to_call.Timer after = AgentSteps w call (timed script) after
OccursTo script w call (to_call.Begin old) after = Begins script w call old.0 after
OccursTo script w call (to_call.Hear association) after =
    (association.0 ≤ w.gateway.association) × AgentSteps w call (λ a. heard script a association.0) after

abbrev pub Occurs : Script → World → Event → World → Type 0
Occurs script w (OfCall call happens) after = OccursTo script w call.0 happens after
Occurs script w Restart after = (w.gateway.association < last_association) × (after ≡ with_gateway w (restarted w.gateway))

-- the events of a list happen one after the other
unfoldable pub Runs : Script → List Event → World → World → Type 0
Runs script [] w end = end ≡ w
Runs script (event ∷ more) w end = (next : World) × (Occurs script w event next × Runs script more next end)

-- ---- openings

-- a call of an opening: its number, and the line of the gateway for each line of the script
pub record Opened : Type 0 where
  pub call : ℕ
  pub lines : ℕ → ℕ

-- no call twice, and no line twice, within a call or in two
pub record AreDistinct (script : Script) (calls : List Opened) : Type 0 where
  pub calls_differ : (one other : Opened) → Contains calls one → Contains calls other → one.call ≡ other.call → one ≡ other
  pub lines_differ : (one other : Opened) → Contains calls one → Contains calls other → (i j : ℕ) → i < length script.lines
      → j < length script.lines → one.lines i ≡ other.lines j → (one ≡ other) × (i ≡ j)

-- a line is armed by `al/of` with `strict=exact` alone, with RequestID 0, on hook and silent
abbrev pub armed_line : LineRow
armed_line = record new_line { list = OffHook Exact ∷ []; request = Some opening_request }

-- a line of the gateway is a line of one of these calls, which has this number
pub record IsLineOf (script : Script) (calls : List Opened) (l call : ℕ) : Type 0 where
  pub one : Opened
  pub i : ℕ
  pub among : Contains calls one
  pub is_call : one.call ≡ call
  pub within : i < length script.lines
  pub is_line : one.lines i ≡ l

-- the lines of calls that open are held by them, and no other line is held; each of them is armed, on hook and silent, and each line,
-- held or not, stands in the null context and is Inactive. A line of a call exists
pub record AreOpenedLines (script : Script) (calls : List Opened) (g : Gateway) : Type 0 where
  pub held : (l call : ℕ) → (g.holder l ≡ Some call) ↔ IsLineOf script calls l call
  pub stand : (l call : ℕ) → g.holder l ≡ Some call → g.board.row (Line (the_line l)) ≡ Some null_row
  pub armed : (l call : ℕ) → g.holder l ≡ Some call → g.line l ≡ armed_line
  pub others_null : (l : ℕ) (row : Row) → g.board.row (Line (the_line l)) ≡ Some row → row ≡ null_row

-- association 1, in which no identifier was given out, nothing was cut and no reply is kept
pub record IsNewGateway (g : Gateway) : Type 0 where
  pub association : g.association ≡ first_association
  pub no_ephemeral : (k : ℕ) → g.board.row (Eph k) ≡ None
  pub nothing_cut : g.board.cut ≡ (λ t u. false)
  pub no_context_given : g.board.used_context ≡ (λ n. false)
  pub no_ephemeral_given : g.board.used_ephemeral ≡ (λ n. false)
  pub no_creator : g.creator ≡ (λ k. None)
  pub no_reply_kept : g.link ≡ (λ call. record { last = None; notes = 0 })
  pub none_retired : g.retired ≡ (λ call. false)

-- the agents of these calls and no other, each at rest in the start state
pub record AreOpenedAgents (script : Script) (calls : List Opened) (w : World) : Type 0 where
  pub opened : (one : Opened) → Contains calls one → w.agent one.call ≡ Some (opened script one.call one.lines)
  pub no_other : (call : ℕ) (a : Agent) → w.agent call ≡ Some a → (one : Opened) × Contains calls one × (one.call ≡ call)

pub record NothingIsSent (w : World) : Type 0 where
  pub no_request : w.requests ≡ []
  pub no_answer : w.replies ≡ []
  pub no_note : w.notes ≡ []

-- finitely many calls open on lines that differ, on a new gateway
pub record IsOpening (script : Script) (calls : List Opened) (w : World) : Type 0 where
  pub distinct : AreDistinct script calls
  pub lines : AreOpenedLines script calls w.gateway
  pub gateway : IsNewGateway w.gateway
  pub agents : AreOpenedAgents script calls w
  pub messages : NothingIsSent w

-- ---- what is promised

-- two lines are lines of one call, of the gateway's association, whose current state marks the pair as talking
pub record IsMarkedPair (script : Script) (w : World) (l m : ℕ) : Type 0 where
  pub call : ℕ
  pub agent : Agent
  pub i : ℕ
  pub j : ℕ
  pub open_call : w.agent call ≡ Some agent
  pub first : (i < length script.lines) × (agent.lines i ≡ l)
  pub second : (j < length script.lines) × (agent.lines j ≡ m)
  pub marked : IsTrue (is_marked (state_of script agent.state).talk i j)
  pub current : agent.association ≡ w.gateway.association

-- of a call that has ended no ephemeral exists that it created, and each of its lines is silent, in the null context, with an events
-- list that is exactly `al/of` with `strict=exact`
pub record IsReleased (script : Script) (w : World) (call : ℕ) (a : Agent) : Type 0 where
  pub no_ephemeral : (k : ℕ) → w.gateway.creator k ≡ Some call → exists w.gateway.board (Eph k) ≡ false
  pub in_null : (i : ℕ) → i < length script.lines → (row : Row) × (w.gateway.board.row (Line (the_line (a.lines i))) ≡ Some row) × (row.place.0 ≡ null)
  pub is_silent : (i : ℕ) → i < length script.lines → (w.gateway.line (a.lines i)).playing ≡ silent
  pub is_armed : (i : ℕ) → i < length script.lines → (w.gateway.line (a.lines i)).list ≡ OffHook Exact ∷ []

-- a good world: an audio path joins two lines only inside one call whose current state marks that pair as talking, and a call
-- that has ended is released
pub record IsGood (script : Script) (w : World) : Type 0 where
  pub joined : (l m : ℕ) → AreJoined w.gateway.board l m → IsMarkedPair script w l m
  pub ended : (call : ℕ) (a : Agent) → w.agent call ≡ Some a → HasEnded script w a → IsReleased script w call a
