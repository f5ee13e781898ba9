-- A call that can't be brought to its end: it waits for the reply to a request of 37 commands, and the user of its line a went off hook and on hook so often
-- that numbers for 36 notes are left. The gateway doesn't execute the request, so that no reply is ever sent, and while it waits the agent takes nothing else.
use Rattle.std.proofs.Common.{◌≡◌, ◌∙◌, ◌+◌, ◌*◌, ◌<◌, ◌≤◌, ◌==◌, ℕ, zero, suc, true, List, [], ◌∷◌, length, Option, Some, None, nat_lt}
use Rattle.std.proofs.Common.{ap, arith, eqb-true, inl, inr, ltb-true, refl, subst, sym}
use Rattle.std.proofs.Math.Bool.{and-false}
use Rattle.std.proofs.lemmas.List.Elements.{All-head, All-tail}
use Rattle.std.specs.List.{All}
use Rattle.std.specs.Prelude.{Contains, unwrap_or}
use Rattle.mg_model.specs.declared.events.CallEvent.{CallEvent}
use Rattle.mg_model.specs.declared.events.CallEvent.TheVariants as to_call
use Rattle.mg_model.specs.declared.events.Event.TheVariants.{OfCall}
use Rattle.mg_model.specs.declared.failures.ChosenRefusal.{ChosenRefusal}
use Rattle.mg_model.specs.declared.line_events.Hook.TheVariants as hooks
use Rattle.mg_model.specs.declared.line_events.LineEvent.{LineEvent}
use Rattle.mg_model.specs.declared.line_events.LineEvent.TheVariants as event
use Rattle.mg_model.specs.Accepted.{most_commands}
use Rattle.mg_model.specs.Agent.{entered, forgotten, is_resting, may_accept, request_of}
use Rattle.mg_model.specs.LineEvents.{Outcome}
use Rattle.mg_model.specs.Numbers.{last_number}
use Rattle.mg_model.specs.Shards.{AreLeft, IsContextLeft, IsEphemeralLeft}
use Rattle.mg_model.specs.World.{Executes, Occurs, OccursTo, Runs, is_of_call}
use Rattle.mg_model.proofs.Cases.{by_test, false_not_true, none_is_some, the_some, where_false}
use Rattle.mg_model.proofs.Offered.{kept_at}
use Rattle.mg_model.proofs.Single.{first_in, nothing_in, only_one}
use Rattle.mg_safety.specs.Ending.{CanBeEnded, NumbersLast}
use Rattle.mg_examples.specs.FewCommandsAreNeeded.{FewCommandsAreNeeded, asks_much, much_entries}
use Rattle.mg_examples.specs.Talk.{call, off_hook}
use Rattle.mg_examples.proofs.Words.{Agent, AgentSteps, Board, Event, Gateway, LineOccurs, LineRow, Request, Restart, SentNote, World, agent_steps, armed_line}
use Rattle.mg_examples.proofs.Words.{heard, line_places, noted, on_a_line, passed, note, outcome_of, timed, with_line, with_notes}
use Rattle.mg_examples.proofs.LineSteps.{occurs, world_after}
use Rattle.mg_examples.proofs.NumbersLeft.{all_left}
use Rattle.mg_examples.proofs.ManyCommands.{accepted, listed, none_broken, short_way}
use Rattle.mg_examples.proofs.TwoLinesOpening.{agent, board, goes_off, off, off_hook_world, one_call, opened_world, opens}

-- ---- the call waits

abbrev w0 : World
w0 = opened_world asks_much (call ∷ [])

abbrev w1 : World
w1 = off_hook_world w0 call

abbrev before : Agent
before = agent asks_much call

abbrev asking : Agent
asking = unwrap_or (noted asks_much before (line_places asks_much) (off_hook call)) before

abbrev w2 : World
w2 = agent_steps w1 7 asking

enters : AgentSteps w1 7 (λ a. noted asks_much a (line_places asks_much) (off_hook call)) w2
enters = record { before = before; agent = asking; open_call = refl; steps = refl; after_is = refl }

abbrev asked : Request
asked = request_of asks_much before 1

-- what stays while it waits: none of its requests was executed; and its request is the only one that was sent, and no reply was
record HasNoReply (g : Gateway) : Type 0 where
  association : g.association ≡ 1
  last : (g.link 7).last ≡ None

record Waits (w : World) : Type 0 where
  agent : w.agent 7 ≡ Some asking
  gateway : HasNoReply w.gateway
  replies : w.replies ≡ []
  requests : w.requests ≡ asked ∷ []

-- ---- the user of line a goes on hook and off hook again and again

-- line a is off hook, and armed; so many notes were sent, and the board is as it opened
record HasSent (n : ℕ) (w : World) : Type 0 where
  waits : Waits w
  stands : w.gateway.board ≡ board (call ∷ [])
  held : w.gateway.holder 1 ≡ Some 7
  line : w.gateway.line 1 ≡ off
  notes : (w.gateway.link 7).notes ≡ n

abbrev goes_on : Outcome
goes_on = record { row = armed_line; note = None }

abbrev goes_off_again : Outcome
goes_off_again = record { row = off; note = Some (off_hook call).note }

abbrev on_hook : Event
on_hook = on_a_line 7 1 (event.Hook hooks.On)

abbrev gets_off_hook : Event
gets_off_hook = on_a_line 7 1 (event.Hook hooks.Off)

module _ (n : ℕ) (w : World) (s : HasSent n w) (room : n + 1 ≤ last_number) where
  abbrev hung : World
  hung = world_after w 7 1 goes_on

  abbrev again : World
  again = world_after hung 7 1 goes_off_again

  hangs : Occurs asks_much w on_hook hung
  hangs =
      let count = s.notes in
      occurs w 7 1 goes_on (event.Hook hooks.On) s.held (ap (λ (row : LineRow). outcome_of row (event.Hook hooks.On)) s.line) (omega (arith, count, room))

  lifts : Occurs asks_much hung gets_off_hook again
  lifts =
      let count = s.notes in
      occurs hung 7 1 goes_off_again (event.Hook hooks.Off) s.held refl (omega (arith, count, room))

  -- one more note was sent
  sends_again : HasSent (n + 1) again
  sends_again = record {
    waits = record {
      agent = s.waits.agent;
      gateway = record { association = s.waits.gateway.association; last = s.waits.gateway.last };
      replies = s.waits.replies;
      requests = s.waits.requests;
    };
    stands = s.stands;
    held = s.held;
    line = refl;
    notes = let count = s.notes in omega (arith, count);
  }

-- so many times, where so many notes were sent before
record Long (n times : ℕ) (w : World) : Type 0 where
  events : List Event
  end : World
  runs : Runs asks_much events w end
  sent : HasSent (n + times) end

long : (times n : ℕ) (w : World) → HasSent n w → n + times ≤ last_number → Long n times w
unfolding Runs
long zero n w s room =
    let same : n ≡ n + 0 = omega arith in
    record { events = []; end = w; runs = refl; sent = subst (λ (m : ℕ). HasSent m w) same s }
long (suc times) n w s room =
    let one : n + 1 ≤ last_number = omega (arith, room) in
    let more = long times (n + 1) (again n w s one) (sends_again n w s one) (omega (arith, room)) in
    let same : n + 1 + times ≡ n + suc times = omega arith in
    record {
      events = on_hook ∷ gets_off_hook ∷ more.events;
      end = more.end;
      runs = (hung n w s one, (hangs n w s one, (again n w s one, (lifts n w s one, more.runs))));
      sent = subst (λ (m : ℕ). HasSent m more.end) same more.sent;
    }

-- all numbers but 36 are used up
abbrev used : ℕ
used = 4294967259

-- the first note told that line a went off hook, and each of the others tells so too
abbrev times : ℕ
times = 4294967258

first_sent : HasSent 1 w2
first_sent = record {
  waits = record { agent = refl; gateway = record { association = refl; last = refl }; replies = refl; requests = refl };
  stands = refl;
  held = refl;
  line = refl;
  notes = refl;
}

rest : Long 1 times w2
rest = long times 1 w2 first_sent (omega (arith))

events : List Event
events = gets_off_hook ∷ note 7 1 ∷ rest.events

runs : Runs asks_much events w0 rest.end
unfolding Runs events
runs = (
  w1,
  (
    goes_off w0 call (record { association = refl; held = refl; is_armed = refl; none_sent = refl }),
    (w2, ((off_hook call, (first_in (off_hook call) [], refl, refl), enters), rest.runs)),
  ),
)

-- ---- numbers are left for two moves

context_left : (n : ℕ) → 0 < n → n ≤ 32 → IsContextLeft (board (call ∷ [])) n
context_left n above below = ((above, omega (arith, below)), (refl, refl))

ephemeral_left : (n : ℕ) → 0 < n → n ≤ 32 → IsEphemeralLeft (board (call ∷ [])) n
ephemeral_left n above below = ((above, omega (arith, below)), (refl, refl))

numbers_last : (w : World) → HasSent used w → (moves : ℕ) → moves ≤ 2 → NumbersLast w 7 asking moves
numbers_last w s moves few = record {
  contexts = subst (λ (b : Board). AreLeft (IsContextLeft b) (most_commands * moves)) (sym s.stands)
      (all_left (IsContextLeft (board (call ∷ []))) (most_commands * moves) (λ n above below. context_left n above (omega (arith, below, few))));
  ephemerals = subst (λ (b : Board). AreLeft (IsEphemeralLeft b) (most_commands * moves)) (sym s.stands)
      (all_left (IsEphemeralLeft (board (call ∷ []))) (most_commands * moves) (λ n above below. ephemeral_left n above (omega (arith, below, few))));
  notes = let count = s.notes in omega (arith, count, few);
  transactions = omega (arith, few);
}

-- ---- whatever events of the call follow, it waits

-- no number is left for its request
record StandsStill (w : World) : Type 0 where
  waits : Waits w
  used_up : used ≤ (w.gateway.link 7).notes

-- a step that the agent can't take
no_step : (w : World) (s : StandsStill w) (step : Agent → Option Agent) (next : World) → step asking ≡ None → AgentSteps w 7 step next → StandsStill next
no_step w s step next never steps =
    let same : asking ≡ steps.before = the_some asking steps.before (sym s.waits.agent ∙ steps.open_call) in
    absurd (none_is_some steps.agent (sym never ∙ subst (λ (a : Agent). step a ≡ Some steps.agent) (sym same) steps.steps))

not_noted : (sent : SentNote) → noted asks_much asking (line_places asks_much) sent ≡ None
not_noted sent = where_false (may_accept asks_much asking sent) _ None (and-false (sent.call == 7))

not_heard : (association : ℕ) → association ≤ 1 → heard asks_much asking association ≡ None
not_heard association older =
    by_test (λ (a : Option Agent). a ≡ None) (entered asks_much (forgotten asking association) asks_much.restart) None (nat_lt 1 association)
    (λ newer. let above : 1 < association = ltb-true 1 association newer in absurd (omega (arith, above, older))) (λ e. refl)

line_without_reply : (g : Gateway) (l holder count : ℕ) (row : LineRow) → 7 ≡ holder → HasNoReply g → HasNoReply (with_notes (with_line g l row) holder count)
line_without_reply g l holder count row is was = record {
  association = was.association;
  last = subst (λ (c : ℕ). ((with_notes (with_line g l row) c count).link 7).last ≡ None) is was.last;
}

still_used : (g : Gateway) (l holder count : ℕ) (row : LineRow) → 7 ≡ holder → used ≤ (g.link 7).notes
    → used ≤ ((with_notes (with_line g l row) holder count).link 7).notes
still_used g l holder count row is up =
    let more : used ≤ (g.link 7).notes + count = omega (arith, up) in
    subst (λ (c : ℕ). used ≤ ((with_notes (with_line g l row) c count).link 7).notes) is more

on_line : (w : World) (s : StandsStill w) (l : ℕ) (happens : LineEvent) (next : World) → w.gateway.holder l ≡ Some 7 → LineOccurs w l happens next
    → StandsStill next
on_line w s l happens next held occurs =
    let it = occurs.happens in
    let is : 7 ≡ it.call = the_some 7 it.call (sym held ∙ it.held) in
    let many = length occurs.sent in
    subst StandsStill (sym occurs.after_is) (record {
      waits = record {
        agent = s.waits.agent;
        gateway = subst HasNoReply (sym it.after_is) (line_without_reply w.gateway l it.call many it.outcome.row is s.waits.gateway);
        replies = s.waits.replies;
        requests = s.waits.requests;
      };
      used_up = subst (λ (g : Gateway). used ≤ (g.link 7).notes) (sym it.after_is) (still_used w.gateway l it.call many it.outcome.row is s.used_up);
    })

on_request : (w : World) (s : StandsStill w) (chosen : Option ChosenRefusal) (next : World) → Executes w asked chosen next → StandsStill next
on_request w s chosen next (inl first) =
    let room : (w.gateway.link 7).notes + 37 ≤ last_number = first.executed.room in
    let up = s.used_up in
    absurd (omega (arith, room, up))
on_request w s chosen next (inr (inl repeat)) = absurd (none_is_some repeat.answer (sym s.waits.gateway.last ∙ kept_at w.gateway asked repeat.answer repeat.kept))
on_request w s chosen next (inr (inr dropped)) = subst StandsStill (sym dropped.1) s

to_call_seven : (w : World) (s : StandsStill w) (happens : CallEvent) (next : World) → OccursTo asks_much w 7 happens next → StandsStill next
to_call_seven w s (to_call.OnLine line happens) next occurs = on_line w s line.0 happens next occurs.0 occurs.1
to_call_seven w s (to_call.Execute number chosen) next occurs =
    let same : asked ≡ occurs.0 = only_one asked occurs.0 (subst (λ (rs : List Request). Contains rs occurs.0) s.waits.requests occurs.1.0) in
    on_request w s chosen next (subst (λ (r : Request). Executes w r chosen next) (sym same) occurs.2)
to_call_seven w s (to_call.Reply number) next occurs = absurd (nothing_in occurs.0 w.replies s.waits.replies occurs.1.0)
to_call_seven w s to_call.Pass next occurs = no_step w s (passed asks_much) next refl occurs
to_call_seven w s (to_call.Note number) next occurs =
    no_step w s (λ a. noted asks_much a (line_places asks_much) occurs.0) next (not_noted occurs.0) occurs.2
to_call_seven w s to_call.Timer next occurs = no_step w s (timed asks_much) next refl occurs
to_call_seven w s (to_call.Begin old) next occurs = absurd (none_is_some asking (sym occurs.unused ∙ s.waits.agent))
to_call_seven w s (to_call.Hear association) next occurs =
    let older : association.0 ≤ 1 = subst (λ (n : ℕ). association.0 ≤ n) s.waits.gateway.association occurs.0 in
    no_step w s (λ a. heard asks_much a association.0) next (not_heard association.0 older) occurs.1

one_event : (w : World) (s : StandsStill w) (happens : Event) (next : World) → is_of_call 7 happens ≡ true → Occurs asks_much w happens next → StandsStill next
one_event w s (OfCall who happens) next own occurs =
    to_call_seven w s happens next (subst (λ (c : ℕ). OccursTo asks_much w c happens next) (eqb-true who.0 7 own) occurs)
one_event w s Restart next own occurs = absurd (false_not_true own)

stands : (later : List Event) (w end : World) → StandsStill w → All (λ (happens : Event). is_of_call 7 happens ≡ true) later → Runs asks_much later w end
    → StandsStill end
unfolding Runs
stands [] w end s own runs = subst StandsStill (sym runs) s
stands (happens ∷ more) w end s own runs =
    let IsOwn : Event → Type 0 = λ (e : Event). is_of_call 7 e ≡ true in
    stands more runs.0 end (one_event w s happens runs.0 (All-head IsOwn happens more own) runs.1.0) (All-tail IsOwn happens more own) runs.1.1

-- ---- so it can't be brought to its end

never_ends : (w : World) → StandsStill w → (most : ℕ) → CanBeEnded asks_much w 7 most → ⊥
never_ends w s most can =
    let still = stands can.events w can.end s can.own can.runs in
    let same : asking ≡ can.agent = the_some asking can.agent (sym still.waits.agent ∙ can.open_call) in
    false_not_true (ap (λ (a : Agent). is_resting a.phase) same ∙ ap is_resting can.ended.at_rest)

pub few_commands_needed : FewCommandsAreNeeded
few_commands_needed law =
    let end = rest.end in
    let s = rest.sent in
    let current : asking.association ≡ end.gateway.association = sym s.waits.gateway.association in
    let it = law asks_much much_entries accepted listed none_broken (call ∷ []) events w0 end (opens asks_much refl (call ∷ []) (one_call asks_much refl)) runs
    7 asking s.waits.agent current in
    let way = short_way it.0 asked it.1.0 it.1.1.0.state it.1.1.0.link in
    let still : StandsStill end = record { waits = s.waits; used_up = let count = s.notes in omega (arith, count) } in
    never_ends end still (3 * length way.way) (it.1.1.1 way.way way.brings (numbers_last end s (length way.way) way.short))
