-- What is left of worlds where one signal alone is told; and that what can happen to a world can happen to what is left of it, where it changes that.
use Rattle.std.proofs.Common.{Bool, Contains, List, None, Option, Some, [], ap, arith, false, if◌then◌else◌, inl, inr, length, map, refl, subst, sym, true, ℕ}
use Rattle.std.proofs.Common.{◌++◌, ◌+◌, ◌<◌, ◌==◌, ◌∙◌, ◌≡◌, ◌≤◌, ◌⊎◌}
use Rattle.std.proofs.lemmas.Bool.{eqb-true}
use Rattle.std.proofs.lemmas.List.{get_or-map, length-map}
use Rattle.std.specs.Prelude.{option_map}
use Rattle.mg_names.specs.declared.signals.Signal.{Signal}
use Rattle.mg_model.specs.declared.events.CallEvent.{CallEvent}
use Rattle.mg_model.specs.declared.events.CallEvent.TheVariants as to_call
use Rattle.mg_model.specs.declared.events.Event.{Event}
use Rattle.mg_model.specs.declared.events.Event.TheVariants.{OfCall, Restart}
use Rattle.mg_model.specs.declared.failures.ChosenRefusal.{ChosenRefusal}
use Rattle.mg_model.specs.declared.line_events.LineEvent.{LineEvent}
use Rattle.mg_model.specs.Agent.{Agent, Phase, awaits_pass, awaits_reply, begun, heard, noted, passed, replied, resting, timed}
use Rattle.mg_model.specs.Gateway.{Gateway, Happens, IsExecutedBy, notes_from, outcome_of, restarted, start_of, with_line, with_notes}
use Rattle.mg_model.specs.Gateway as gateway
use Rattle.mg_model.specs.LineEvents.{LineRow}
use Rattle.mg_model.specs.Messages.{Reply, Request, SentNote}
use Rattle.mg_model.specs.Numbers.{last_number}
use Rattle.mg_model.specs.Script.{Script}
use Rattle.mg_model.specs.Tables.{line_places}
use Rattle.mg_model.specs.World.{AgentSteps, Begins, Executes, LineOccurs, Occurs, OccursTo, World, agent_steps, sent_in, with_gateway}
use Rattle.call_ends.proofs.OneSignal.Agents.{heard_alone, noted_alone, passed_alone, replied_alone, timed_alone}
use Rattle.call_ends.proofs.OneSignal.Lines.{cleared_alone, happens_alone, outcome_alone, row_alone}
use Rattle.call_ends.proofs.OneSignal.Messages.{agent_alone, command_alone, phase_alone, request_alone}
use Rattle.call_ends.proofs.OneSignal.Requests.{running_alone, runs_alone}
use Rattle.call_ends.proofs.OneSignal.Sets.{alone, alone_silent, script_alone}

-- ---- worlds

abbrev pub gateway_alone : Signal → Gateway → Gateway
gateway_alone g gw = record gw { line = λ l. row_alone g (gw.line l) }

abbrev pub world_alone : Signal → World → World
world_alone g w = record w {
  gateway = gateway_alone g w.gateway;
  agent = λ call. option_map (agent_alone g) (w.agent call);
  requests = map (request_alone g) w.requests;
}

contains_map : {X Y : Type 0} (f : X → Y) (xs : List X) (x : X) → Contains xs x → Contains (map f xs) (f x)
contains_map f xs x among =
    let below : among.0 < length xs = among.1 in
    let same : length (map f xs) ≡ length xs = length-map xs f in
    (among.0, omega (arith, below, same), get_or-map f xs among.0 x (f x) among.1 ∙ ap f among.2)

-- what is chosen by a test, with a function done to it
pushed : {X Y : Type 0} (f : X → Y) (b : Bool) (x y : X) → f (if b then x else y) ≡ (if b then f x else f y)
pushed f true x y = refl
pushed f false x y = refl

module _ (g : Signal) (script : Script) where
  -- the script of which the signal alone is told
  abbrev lone : Script
  lone = script_alone g script

  -- ---- agents

  stepped_alone : (w : World) (call : ℕ) (a : Agent) → world_alone g (agent_steps w call a) ≡ agent_steps (world_alone g w) call (agent_alone g a)
  stepped_alone w call a = λ i. record (world_alone g w) {
    agent = λ c. pushed (option_map (agent_alone g)) (c == call) (Some a) (w.agent c) i;
    requests = sent a.phase i;
  }
    where
      sent : (phase : Phase) → map (request_alone g) (sent_in phase ++ w.requests) ≡ sent_in (phase_alone g phase) ++ map (request_alone g) w.requests
      sent (awaits_reply request) = refl
      sent awaits_pass = refl
      sent resting = refl

  steps_alone : (w : World) (call : ℕ) (step left : Agent → Option Agent) (after : World)
      → ((a : Agent) → left (agent_alone g a) ≡ option_map (agent_alone g) (step a))
      → AgentSteps w call step after → AgentSteps (world_alone g w) call left (world_alone g after)
  steps_alone w call step left after same s = record {
    before = agent_alone g s.before;
    agent = agent_alone g s.agent;
    open_call = ap (option_map (agent_alone g)) s.open_call;
    steps = same s.before ∙ ap (option_map (agent_alone g)) s.steps;
    after_is = ap (world_alone g) s.after_is ∙ stepped_alone w call s.agent;
  }

  -- ---- requests

  executed_alone : (gw : Gateway) (request : Request) (chosen : Option ChosenRefusal) (after : Gateway) (answer : Reply) (notes : List SentNote)
      → IsExecutedBy gw request chosen after answer notes
      → IsExecutedBy (gateway_alone g gw) (request_alone g request) chosen (gateway_alone g after) answer notes
  executed_alone gw request chosen after answer notes x = record {
    end = running_alone g x.end;
    settled = x.settled;
    failure = x.failure;
    is_fresh = x.is_fresh;
    room = subst (λ n. (gw.link request.call).notes + n ≤ last_number) (sym (length-map request.commands (command_alone g))) x.room;
    runs = runs_alone g request.number chosen (start_of gw) 0 request.commands x.end x.failure x.runs;
    is_settled = x.is_settled;
    after_is = ap (gateway_alone g) x.after_is;
    reply_is = x.reply_is;
    notes_are = x.notes_are;
  }

  executes_alone : (w : World) (request : Request) (chosen : Option ChosenRefusal) (after : World)
      → Executes w request chosen after → Executes (world_alone g w) (request_alone g request) chosen (world_alone g after)
  executes_alone w request chosen after (inl first) = inl (record {
    gateway = gateway_alone g first.gateway;
    answer = first.answer;
    sent = first.sent;
    executed = executed_alone w.gateway request chosen first.gateway first.answer first.sent first.executed;
    after_is = ap (world_alone g) first.after_is;
  })
  executes_alone w request chosen after (inr (inl repeat)) =
      inr (inl (record { answer = repeat.answer; kept = repeat.kept; after_is = ap (world_alone g) repeat.after_is }))
  executes_alone w request chosen after (inr (inr (discarded, is))) = inr (inr (discarded, ap (world_alone g) is))

  -- ---- lines

  with_line_alone : (gw : Gateway) (l : ℕ) (row : LineRow) (call count : ℕ)
      → gateway_alone g (with_notes (with_line gw l row) call count) ≡ with_notes (with_line (gateway_alone g gw) l (row_alone g row)) call count
  with_line_alone gw l row call count = λ i. record (gateway_alone g (with_notes (with_line gw l row) call count)) {
    line = λ other. pushed (row_alone g) (other == l) row (gw.line other) i;
  }

  -- nothing is left of what changed on the line, and no note was raised
  same_gateway : (gw : Gateway) (l : ℕ) (row : LineRow) (call count : ℕ) → row_alone g row ≡ row_alone g (gw.line l) → count ≡ 0
      → gateway_alone g (with_notes (with_line gw l row) call count) ≡ gateway_alone g gw
  same_gateway gw l row call count same none = λ i. record (gateway_alone g gw) {
    line = λ other. line_at other (other == l) refl i;
    link = λ c. link_at c (c == call) refl i;
  }
    where
      line_at : (other : ℕ) (b : Bool) → (other == l) ≡ b → row_alone g (if b then row else gw.line other) ≡ row_alone g (gw.line other)
      line_at other true e = same ∙ ap (λ m. row_alone g (gw.line m)) (sym (eqb-true other l e))
      line_at other false e = refl

      link_at : (c : ℕ) (b : Bool) → (c == call) ≡ b
          → (if b then record { last = (gw.link call).last; notes = (gw.link call).notes + count } else gw.link c) ≡ gw.link c
      link_at c true e =
          ap (λ n. record { last = (gw.link call).last; notes = n }) (let k : count ≡ 0 = none in omega (arith, k)) ∙ ap gw.link (sym (eqb-true c call e))
      link_at c false e = refl

  line_alone : (w : World) (line : ℕ) (event : LineEvent) (after : World) → LineOccurs w line event after
      → LineOccurs (world_alone g w) line event (world_alone g after) ⊎ (world_alone g after ≡ world_alone g w)
  line_alone w line event after occurs = by (happens_alone g (w.gateway.line line) event x.outcome x.happens)
    where
      x : Happens w.gateway line event occurs.gateway occurs.sent
      x = occurs.happens

      by : (outcome_of (row_alone g (w.gateway.line line)) event ≡ Some (outcome_alone g x.outcome))
          ⊎ ((x.outcome.note ≡ None) × (row_alone g x.outcome.row ≡ row_alone g (w.gateway.line line)))
          → LineOccurs (world_alone g w) line event (world_alone g after) ⊎ (world_alone g after ≡ world_alone g w)
      by (inl too) = inl (record {
        gateway = gateway_alone g occurs.gateway;
        sent = occurs.sent;
        happens = record {
          call = x.call;
          outcome = outcome_alone g x.outcome;
          held = x.held;
          happens = too;
          notes_are = x.notes_are;
          room = x.room;
          after_is = ap (gateway_alone g) x.after_is ∙ with_line_alone w.gateway line x.outcome.row x.call (length occurs.sent);
        };
        after_is = ap (world_alone g) occurs.after_is;
      })
      by (inr (no_note, same)) =
          let none : occurs.sent ≡ [] = x.notes_are ∙ ap (notes_from w.gateway x.call line) no_note in
          let no_count : length occurs.sent ≡ 0 = ap (λ (notes : List SentNote). length notes) none in
          inr (ap (world_alone g) occurs.after_is
          ∙ ap (λ (gw : Gateway). record (world_alone g w) { gateway = gw; notes = occurs.sent ++ w.notes })
          (ap (gateway_alone g) x.after_is ∙ same_gateway w.gateway line x.outcome.row x.call (length occurs.sent) same no_count)
          ∙ ap (λ (notes : List SentNote). record (world_alone g w) { notes = notes ++ w.notes }) none)

  -- ---- a call begins

  begins_alone : (w : World) (call old : ℕ) (after : World) → Begins script w call old after
      → Begins lone (world_alone g w) call old (world_alone g after)
  begins_alone w call old after b = record {
    before = agent_alone g b.before;
    open_call = ap (option_map (agent_alone g)) b.open_call;
    ended = record { is_end = b.ended.is_end; at_rest = ap (phase_alone g) b.ended.at_rest; current = b.ended.current };
    may = record {
      rows = b.may.rows;
      playing = λ l held. ap (alone g) (b.may.playing l held) ∙ alone_silent g;
      list = b.may.list;
      no_ephemeral = b.may.no_ephemeral;
    };
    unused = ap (option_map (agent_alone g)) b.unused;
    not_retired = b.not_retired;
    after_is = ap (world_alone g) b.after_is ∙ λ i. record (world_alone g (record w { gateway = begun_gateway })) { agent = λ c. agents c i };
  }
    where
      begun_gateway : Gateway
      begun_gateway = gateway.begun w.gateway old call

      agents : (c : ℕ)
          → option_map (agent_alone g) (if c == call then Some (begun script call b.before) else if c == old then None else w.agent c)
          ≡ (if c == call then Some (begun lone call (agent_alone g b.before)) else if c == old then None else option_map (agent_alone g) (w.agent c))
      agents c =
          pushed (option_map (agent_alone g)) (c == call) (Some (begun script call b.before)) (if c == old then None else w.agent c)
          ∙ ap (λ (o : Option Agent). if c == call then Some (begun lone call (agent_alone g b.before)) else o)
          (pushed (option_map (agent_alone g)) (c == old) None (w.agent c))

  -- ---- events

  -- it happens to what is left too, or changes nothing of that
  abbrev HappensToo : World → Event → World → Type 0
  HappensToo w event after = Occurs lone (world_alone g w) event (world_alone g after) ⊎ (world_alone g after ≡ world_alone g w)

  call_alone : (w : World) (call : ℕ) (happens : CallEvent) (after : World) → OccursTo script w call happens after
      → OccursTo lone (world_alone g w) call happens (world_alone g after) ⊎ (world_alone g after ≡ world_alone g w)
  call_alone w call (to_call.OnLine line event) after (held, occurs) =
      elim (line_alone w line.0 event after occurs) [
        | inl too ↦ inl (held, too)
        | inr same ↦ inr same
      ]
  call_alone w call (to_call.Execute number chosen) after (request, (among, of_call, numbered), executes) =
      let is_sent = contains_map (request_alone g) w.requests request among in
      inl (request_alone g request, (is_sent, of_call, numbered), executes_alone w request chosen after executes)
  call_alone w call (to_call.Reply number) after (answer, of_call, steps) =
      inl (answer, of_call, steps_alone w call (λ a. replied script a answer) (λ a. replied lone a answer) after (λ a. replied_alone g script a answer) steps)
  call_alone w call to_call.Pass after steps = inl (steps_alone w call (passed script) (passed lone) after (passed_alone g script) steps)
  call_alone w call (to_call.Note number) after (sent, of_call, steps) =
      inl (
        sent,
        of_call,
        steps_alone w call (λ a. noted script a (line_places script) sent) (λ a. noted lone a (line_places script) sent) after
            (λ a. noted_alone g script a (line_places script) sent) steps,
      )
  call_alone w call to_call.Timer after steps = inl (steps_alone w call (timed script) (timed lone) after (timed_alone g script) steps)
  call_alone w call (to_call.Begin old) after begins = inl (begins_alone w call old.0 after begins)
  call_alone w call (to_call.Hear association) after (known, steps) =
      inl (
        known,
        steps_alone w call (λ a. heard script a association.0) (λ a. heard lone a association.0) after
            (λ a. heard_alone g script a association.0) steps,
      )

  pub event_alone : (w : World) (event : Event) (after : World) → Occurs script w event after → HappensToo w event after
  event_alone w (OfCall call happens) after occurs = call_alone w call.0 happens after occurs
  event_alone w Restart after (room, is) = inl (room, ap (world_alone g) is ∙ restart_is)
    where
      restart_is : world_alone g (with_gateway w (restarted w.gateway)) ≡ with_gateway (world_alone g w) (restarted (gateway_alone g w.gateway))
      restart_is = λ i. record (world_alone g w) {
        gateway = record (restarted w.gateway) { line = λ l. sym (cleared_alone g (w.gateway.line l)) i };
      }
