-- What holds between two events of a run: the numbers that can't be given are those of what stands, the request that an agent waits for was sent, and each
-- request that was sent has a command.
use Rattle.std.proofs.Common.{◌≡◌, ◌∙◌, ◌++◌, ◌==◌, ℕ, Bool, true, false, List, [], ◌∷◌, Option, Some, None, if◌then◌else◌, is_some, refl, sym, ap, subst, inl, inr}
use Rattle.std.specs.Prelude.{Contains}
use Rattle.std.proofs.lemmas.List.Elements.{Contains-append_cases, Contains-append_right, Contains-append_left}
use Rattle.mg_names.specs.declared.identifiers.TermId.{TermId}
use Rattle.mg_names.specs.declared.identifiers.TermId.TheVariants.{Line, Eph}
use Rattle.mg_model.specs.declared.events.CallEvent.{CallEvent}
use Rattle.mg_model.specs.declared.events.CallEvent.TheVariants as to_call
use Rattle.mg_model.specs.declared.events.Event.{Event}
use Rattle.mg_model.specs.declared.events.Event.TheVariants.{OfCall, Restart}
use Rattle.mg_model.specs.declared.failures.ChosenRefusal.{ChosenRefusal}
use Rattle.mg_model.specs.declared.rows.Row.{Row}
use Rattle.mg_model.specs.Agent.{Agent, Phase, awaits_reply, awaits_pass, resting, opened, replied, passed, noted, timed, heard}
use Rattle.mg_model.specs.Board.{Board, IsSettled, place_in}
use Rattle.mg_model.specs.Gateway.{Gateway, board_restarted}
use Rattle.mg_model.specs.Messages.{Request}
use Rattle.mg_model.specs.Numbers.{null}
use Rattle.mg_model.specs.Script.{Script}
use Rattle.mg_model.specs.Tables.{is_empty, line_places}
use Rattle.mg_model.specs.World.{World, Opened, AgentSteps, Begins, Executes, IsOpening, Occurs, OccursTo, Runs, sent_in}
use Rattle.mg_model.proofs.Cases.{false_not_true, the_some}
use Rattle.mg_model.proofs.Settled.{restarted_gone, restarted_in_null}
use Rattle.mg_model.proofs.Single.{first_in, none_in, only_one}
use Rattle.mg_safety.proofs.Agents.Entering.{not_resting}
use Rattle.mg_safety.proofs.Events.Handover.{agent_from}
use Rattle.mg_safety.proofs.GoingOn.SentCommands.{GivesCommand, replied_gives, passed_gives, noted_gives, timed_gives, heard_gives}

abbrev BoardIsSettled : Board → Type 0
BoardIsSettled b = IsSettled b b

-- an agent waits for no other request than one that was sent
abbrev WasSent : (ℕ → Option Agent) → List Request → Type 0
WasSent agent requests = (call : ℕ) (a : Agent) (request : Request) → agent call ≡ Some a → a.phase ≡ awaits_reply request → Contains requests request

abbrev HaveCommands : List Request → Type 0
HaveCommands requests = (request : Request) → Contains requests request → is_empty request.commands ≡ false

pub record IsInOrder (w : World) : Type 0 where
  pub settled : IsSettled w.gateway.board w.gateway.board
  pub outstanding : (call : ℕ) (a : Agent) (request : Request) → w.agent call ≡ Some a → a.phase ≡ awaits_reply request → Contains w.requests request
  pub commands : (request : Request) → Contains w.requests request → is_empty request.commands ≡ false

-- ---- boards

-- a board that is settled as it stands
settled_itself : (b settled : Board) → IsSettled b settled → BoardIsSettled settled
settled_itself b settled is = record {
  row = refl;
  cut = refl;
  class = refl;
  contexts = λ c. (
    λ used. let there = (is.contexts c).0 used in (there.0, (there.1.0, ap (λ (rows : TermId → Option Row). place_in (rows there.1.0)) is.row ∙ there.1.1)),
    λ there. (is.contexts c).1 (there.0, (there.1.0, sym (ap (λ (rows : TermId → Option Row). place_in (rows there.1.0)) is.row) ∙ there.1.1)),
  );
  ephemerals = λ k. is.ephemerals k ∙ sym (ap (λ (rows : TermId → Option Row). is_some (rows (Eph k))) is.row);
}

-- nobody stands in a context
nowhere : (b : Board) → ((t : TermId) → place_in (b.row t) ≡ null) → b.used_context ≡ (λ n. false) → ((k : ℕ) → b.used_ephemeral k ≡ is_some (b.row (Eph k)))
    → BoardIsSettled b
nowhere b places unused ephemerals = record {
  row = refl;
  cut = refl;
  class = refl;
  contexts = λ c. (
    λ used. absurd (false_not_true (sym (ap (λ (f : ℕ → Bool). f c) unused) ∙ used)),
    λ there. absurd (there.0 (sym there.1.1 ∙ places there.1.0)),
  );
  ephemerals = ephemerals;
}

restarted_settled : (b : Board) → BoardIsSettled (board_restarted b)
restarted_settled b = nowhere (board_restarted b) (λ t. restarted_in_null t (b.row t)) refl (λ k. sym (restarted_gone k (b.row (Eph k))))

opening_settled : (script : Script) (calls : List Opened) (w : World) → IsOpening script calls w → BoardIsSettled w.gateway.board
opening_settled script calls w opens =
    nowhere w.gateway.board places opens.gateway.no_context_given
    (λ k. ap (λ (f : ℕ → Bool). f k) opens.gateway.no_ephemeral_given ∙ sym (ap is_some (opens.gateway.no_ephemeral k)))
  where
    places : (t : TermId) → place_in (w.gateway.board.row t) ≡ null
    places (Eph k) = ap place_in (opens.gateway.no_ephemeral k)
    places (Line l) = go (w.gateway.board.row (Line l)) refl
      where
        go : (o : Option Row) → w.gateway.board.row (Line l) ≡ o → place_in (w.gateway.board.row (Line l)) ≡ null
        go None is = ap place_in is
        go (Some row) is = ap place_in is ∙ ap (λ (r : Row). r.place.0) (opens.lines.others_null l.0 row is)

-- ---- worlds

pub opening_in_order : (script : Script) (calls : List Opened) (w : World) → IsOpening script calls w → IsInOrder w
opening_in_order script calls w opens = record {
  settled = opening_settled script calls w opens;
  outstanding = λ call a request is waits.
      let its = opens.agents.no_other call a is in
      let one = the_some (opened script its.0.call its.0.lines) a (sym (opens.agents.opened its.0 its.1) ∙ ap w.agent its.2 ∙ is) in
      absurd (not_resting request (ap (λ (x : Agent). x.phase) one ∙ waits));
  commands = λ request among. absurd (none_in request (subst (λ (l : List Request). Contains l request) opens.messages.no_request among));
}

-- the same requests and no other agent that waits, on a settled board
still : (w after : World) → IsInOrder w → BoardIsSettled after.gateway.board → after.agent ≡ w.agent → after.requests ≡ w.requests → IsInOrder after
still w after was settled agents requests = record {
  settled = settled;
  outstanding = subst (λ (agent : ℕ → Option Agent). WasSent agent after.requests) (sym agents)
      (subst (WasSent w.agent) (sym requests) was.outstanding);
  commands = subst HaveCommands (sym requests) was.commands;
}

-- what is outstanding in a phase is sent
sent_is : (phase : Phase) (request : Request) → phase ≡ awaits_reply request → Contains (sent_in phase) request
sent_is phase request is = subst (λ (p : Phase). Contains (sent_in p) request) (sym is) (first_in request [])

sent_has : (phase : Phase) → ((request : Request) → phase ≡ awaits_reply request → is_empty request.commands ≡ false) → HaveCommands (sent_in phase)
sent_has (awaits_reply sent) has request among = subst (λ (r : Request). is_empty r.commands ≡ false) (only_one sent request among) (has sent refl)
sent_has awaits_pass has request among = absurd (none_in request among)
sent_has resting has request among = absurd (none_in request among)

steps_in_order : (w after : World) (call : ℕ) (step : Agent → Option Agent) → ((a : Agent) → GivesCommand (step a)) → IsInOrder w
    → AgentSteps w call step after → IsInOrder after
steps_in_order w after call step gives was s = subst IsInOrder (sym s.after_is) (record {
  settled = was.settled;
  outstanding = λ c a request is waits. by_call c a request waits (c == call) is;
  commands = λ request among. elim (Contains-append_cases (sent_in s.agent.phase) w.requests request among) [
    | inl new ↦ sent_has s.agent.phase (gives s.before s.agent s.steps) request new
    | inr old ↦ was.commands request old
  ];
})
  where
    by_call : (c : ℕ) (a : Agent) (request : Request) → a.phase ≡ awaits_reply request → (test : Bool) → (if test then Some s.agent else w.agent c) ≡ Some a
        → Contains (sent_in s.agent.phase ++ w.requests) request
    by_call c a request waits true is = Contains-append_left (sent_in s.agent.phase) w.requests request
        (sent_is s.agent.phase request (ap (λ (x : Agent). x.phase) (the_some s.agent a is) ∙ waits))
    by_call c a request waits false is = Contains-append_right (sent_in s.agent.phase) w.requests request (was.outstanding c a request is waits)

execute_in_order : (w after : World) (request : Request) (chosen : Option ChosenRefusal) → IsInOrder w → Executes w request chosen after → IsInOrder after
execute_in_order w after request chosen was (inl first) =
    still w after was (subst BoardIsSettled (sym (ap (λ (x : World). x.gateway.board) first.after_is ∙ ap (λ (g : Gateway). g.board) first.executed.after_is))
    (settled_itself first.executed.end.board first.executed.settled first.executed.is_settled))
    (ap (λ (x : World). x.agent) first.after_is) (ap (λ (x : World). x.requests) first.after_is)
execute_in_order w after request chosen was (inr (inl again)) =
    still w after was (subst BoardIsSettled (sym (ap (λ (x : World). x.gateway.board) again.after_is)) was.settled)
    (ap (λ (x : World). x.agent) again.after_is) (ap (λ (x : World). x.requests) again.after_is)
execute_in_order w after request chosen was (inr (inr dropped)) = subst IsInOrder (sym dropped.1) was

begin_in_order : (script : Script) (w after : World) (new old : ℕ) → IsInOrder w → Begins script w new old after → IsInOrder after
begin_in_order script w after new old was x = subst IsInOrder (sym x.after_is) (record {
  settled = was.settled;
  outstanding = λ c a request is waits. elim (agent_from script w new old c x.before a is) [
    | inl here ↦ absurd (not_resting request (ap (λ (b : Agent). b.phase) here.1 ∙ waits))
    | inr other ↦ was.outstanding c a request other.2 waits
  ];
  commands = was.commands;
})

-- ---- events

occurs_in_order : (script : Script) (w after : World) (call : ℕ) (happens : CallEvent) → IsInOrder w → OccursTo script w call happens after → IsInOrder after
occurs_in_order script w after call (to_call.OnLine line event) was (held, o) =
    still w after was
    (subst BoardIsSettled (sym (ap (λ (x : World). x.gateway.board) o.after_is ∙ ap (λ (g : Gateway). g.board) o.happens.after_is)) was.settled)
    (ap (λ (x : World). x.agent) o.after_is) (ap (λ (x : World). x.requests) o.after_is)
occurs_in_order script w after call (to_call.Execute number chosen) was (request, of, executes) = execute_in_order w after request chosen was executes
occurs_in_order script w after call (to_call.Reply number) was (answer, of, s) =
    steps_in_order w after call (λ a. replied script a answer) (λ a. replied_gives script a answer) was s
occurs_in_order script w after call to_call.Pass was s = steps_in_order w after call (passed script) (passed_gives script) was s
occurs_in_order script w after call (to_call.Note number) was (sent, of, s) =
    steps_in_order w after call (λ a. noted script a (line_places script) sent) (λ a. noted_gives script a (line_places script) sent) was s
occurs_in_order script w after call to_call.Timer was s = steps_in_order w after call (timed script) (timed_gives script) was s
occurs_in_order script w after call (to_call.Begin old) was begins = begin_in_order script w after call old.0 was begins
occurs_in_order script w after call (to_call.Hear association) was (past, s) =
    steps_in_order w after call (λ a. heard script a association.0) (λ a. heard_gives script a association.0) was s

event_in_order : (script : Script) (w after : World) (event : Event) → IsInOrder w → Occurs script w event after → IsInOrder after
event_in_order script w after (OfCall call happens) was occurs = occurs_in_order script w after call.0 happens was occurs
event_in_order script w after Restart was (less, is) =
    still w after was (subst BoardIsSettled (sym (ap (λ (x : World). x.gateway.board) is)) (restarted_settled w.gateway.board))
    (ap (λ (x : World). x.agent) is) (ap (λ (x : World). x.requests) is)

pub runs_in_order : (script : Script) (events : List Event) (w end : World) → IsInOrder w → Runs script events w end → IsInOrder end
unfolding Runs
runs_in_order script [] w end was runs = subst IsInOrder (sym runs) was
runs_in_order script (event ∷ more) w end was (next, (occurs, runs)) = runs_in_order script more next end (event_in_order script w next event was occurs) runs
