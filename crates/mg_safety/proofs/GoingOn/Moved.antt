-- A call at rest is moved: by its timer, or by a receiver that is turned until its line's list names what it does, and the note of it.
use Rattle.std.proofs.Common.{◌≡◌, ◌∙◌, ◌+◌, ◌<◌, ◌≤◌, ◌==◌, ℕ, Bool, true, false, List, [], ◌∷◌, length, Option, Some, None, refl, sym, ap, subst, arith, inl}
use Rattle.std.proofs.Common.{inr}
use Rattle.std.specs.List.{All, list_any}
use Rattle.std.proofs.lemmas.Bool.{eq-eqb}
use Rattle.std.proofs.lemmas.List.Elements.{All-cons, All-nil}
use Rattle.mg_model.specs.declared.events.Event.{Event}
use Rattle.mg_model.specs.declared.line_events.Hook.{Hook}
use Rattle.mg_model.specs.declared.line_events.LineEvent.TheVariants as event
use Rattle.mg_model.specs.Accepted.{IsScript}
use Rattle.mg_model.specs.Agent.{Agent, resting, entered}
use Rattle.mg_model.specs.Entries.{IsCovered}
use Rattle.mg_model.specs.LineEvents.{LineRow, detected, is_hook, kind_of, same_hook}
use Rattle.mg_model.specs.Numbers.{last_number}
use Rattle.mg_model.specs.Script.{Script}
use Rattle.mg_model.specs.Tables.{line_places, state_of, target_in}
use Rattle.mg_model.specs.World.{World, LineOccurs, Runs, agent_steps, is_of_call, note, on_a_line, timer}
use Rattle.mg_model.proofs.Cases.{at_one, false_not_true}
use Rattle.mg_safety.specs.MovingOn.{CallsCanBeMoved, CanBeMoved, IsLedTo, Lead, by_hook, by_timer}
use Rattle.mg_safety.proofs.Agents.AgentSound.{at_rest}
use Rattle.mg_safety.proofs.Agents.Observing.{below_less}
use Rattle.mg_safety.proofs.GoingOn.AcceptedNotes.{AcceptedAreCounted, opening_accepted, runs_accepted}
use Rattle.mg_safety.proofs.Agents.NoteSound.{accepting}
use Rattle.mg_safety.proofs.Certificate.Closed.{closed}
use Rattle.mg_safety.proofs.Events.LineEventsSound.{line_current, line_sound}
use Rattle.mg_safety.proofs.GoingOn.Entered.{Enters, timer_enters}
use Rattle.mg_safety.proofs.GoingOn.TakenNotes.{CanTake, into, is_place, its_run, line_found, raised, raises}
use Rattle.mg_safety.proofs.GoingOn.Turned.{Hooks, hooks, not_other, now, other_hook, turned, turned_back, turned_count, turned_few, turns}
use Rattle.mg_safety.proofs.Invariant.Sound.{IsCurrentAt}
use Rattle.mg_safety.proofs.Invariant.Statements.{IsClosed}
use Rattle.mg_safety.proofs.GoodWorlds.Beginning.{reached}
use Rattle.mg_safety.proofs.Invariant.Sound.{Listed, CallIsSound, IsCurrent, IsSound}
use Rattle.mg_safety.proofs.Messages.NamedMessages.{opening_numbered}

-- ---- the note of a receiver

pub is_own : (call : ℕ) → (call == call) ≡ true
is_own call = eq-eqb call call refl

-- the receiver was turned so many times at most, and the call took the note of it
pub record IsNoted (script : Script) (Among : Listed) (w : World) (call target : ℕ) (a : Agent) (turned_times : ℕ) : Type 0 where
  pub events : List Event
  pub raised : World
  pub count : ℕ
  pub into : Enters (entered script (accepting a count) target) target
  pub few : length events ≤ turned_times + 1
  pub own : All (λ (happens : Event). is_of_call call happens ≡ true) events
  pub runs : Runs script events w (agent_steps raised call into.agent)
  -- until then the gateway goes on as it was, but for the notes
  pub board : raised.gateway.board ≡ w.gateway.board
  pub notes : (raised.gateway.link call).notes ≤ (w.gateway.link call).notes + turned_times
  pub sound : IsSound script Among raised
  pub there : raised.agent call ≡ Some a
  pub still : (k : IsCurrent script Among w.gateway a) → IsCurrentAt script Among raised.gateway a k.c

module _ (script : Script) (Among : Listed) (is_script : IsScript script) (closes : IsClosed script Among) (call i target q : ℕ) (a : Agent) (hook : Hook) where
  abbrev IsOwn : Event → Type 0
  IsOwn happens = is_of_call call happens ≡ true

  abbrev does : Hook → Event
  does what = on_a_line call (a.lines i) (event.Hook what)

  -- a call whose line names what its receiver does
  record CanTurn (w : World) (room : ℕ) : Type 0 where
    sound : IsSound script Among w
    can : CanTake script w call i target a
    named : list_any (is_hook hook) (w.gateway.line (a.lines i)).list ≡ true
    request : (w.gateway.line (a.lines i)).request ≡ Some q
    expects : a.expected i ≡ Some q
    leads : target_in (state_of script a.state).on i (kind_of hook) ≡ Some target
    space : (w.gateway.link call).notes + room ≤ last_number

  -- the receiver isn't in that position yet
  at_once : (w : World) → CanTurn w 1 → same_hook (w.gateway.line (a.lines i)).hook hook ≡ false → IsNoted script Among w call target a 1
  at_once w t other =
      let next = note call ((w.gateway.link call).notes + 1) in
      record {
        events = does hook ∷ next ∷ [];
        raised = raised script w call i target q a hook t.can other t.named t.request t.expects t.leads t.space;
        count = (w.gateway.link call).notes + 1;
        into = into script w call i target q a hook t.can other t.named t.request t.expects t.leads t.space;
        few = omega (arith);
        own = All-cons IsOwn (does hook) (next ∷ []) (is_own call) (All-cons IsOwn next [] (is_own call) (All-nil IsOwn));
        runs = its_run script w call i target q a hook t.can other t.named t.request t.expects t.leads t.space;
        board = refl;
        notes = turned_few w call (a.lines i) (detected (now (w.gateway.line (a.lines i)) hook) (kind_of hook));
        sound = line_sound (a.lines i) (event.Hook hook) script Among is_script closes w
            (raised script w call i target q a hook t.can other t.named t.request t.expects t.leads t.space) t.sound
            (raises script w call i target q a hook t.can other t.named t.request t.expects t.leads t.space).1;
        there = t.can.there;
        still = line_current (a.lines i) (event.Hook hook) script Among w
            (raised script w call i target q a hook t.can other t.named t.request t.expects t.leads t.space) t.sound
            (raises script w call i target q a hook t.can other t.named t.request t.expects t.leads t.space).1 a;
      }

  module _ (w : World) (t : CanTurn w 2) (same : same_hook (w.gateway.line (a.lines i)).hook hook ≡ true) where
    turn : Hooks (w.gateway.line (a.lines i)) (other_hook hook)
    turn = hooks (w.gateway.line (a.lines i)) (other_hook hook) (not_other (w.gateway.line (a.lines i)).hook hook same)

    abbrev back : World
    back = turned w call (a.lines i) turn.outcome

    first : (w.gateway.holder (a.lines i) ≡ Some call) × LineOccurs w (a.lines i) (event.Hook (other_hook hook)) back
    first = turns w call (a.lines i) (other_hook hook) turn.outcome t.can.held turn.is (let space = t.space in omega (arith, space))

    line : back.gateway.line (a.lines i) ≡ turn.outcome.row
    line = at_one (a.lines i) turn.outcome.row (w.gateway.line (a.lines i))

    grows : (w.gateway.link call).notes ≤ (back.gateway.link call).notes
    grows = let count = turned_count w call (a.lines i) turn.outcome in omega (arith, count)

    few : (back.gateway.link call).notes ≤ (w.gateway.link call).notes + 1
    few = turned_few w call (a.lines i) turn.outcome

    -- in the other position it can be turned again
    again : CanTurn back 1
    again = record {
      sound = line_sound (a.lines i) (event.Hook (other_hook hook)) script Among is_script closes w back t.sound first.1;
      can = record {
        there = t.can.there;
        call_is = t.can.call_is;
        held = t.can.held;
        rests = t.can.rests;
        goes_on = t.can.goes_on;
        current = t.can.current;
        unseen = λ n above. t.can.unseen n (omega (arith, above, grows));
        place = t.can.place;
        room = t.can.room;
      };
      named = ap (λ (row : LineRow). list_any (is_hook hook) row.list) line ∙ ap (list_any (is_hook hook)) turn.list_is ∙ t.named;
      request = ap (λ (row : LineRow). row.request) line ∙ turn.request_is ∙ t.request;
      expects = t.expects;
      leads = t.leads;
      space = (let space = t.space in omega (arith, few, space));
    }

    other : same_hook (back.gateway.line (a.lines i)).hook hook ≡ false
    other = ap (λ (row : LineRow). same_hook row.hook hook) line ∙ ap (λ (h : Hook). same_hook h hook) turn.hook_is ∙ turned_back hook

    -- it is, so it goes to the other one first
    after_turn : IsNoted script Among back call target a 1 → IsNoted script Among w call target a 2
    unfolding Runs
    after_turn taken = record {
      events = does (other_hook hook) ∷ taken.events;
      raised = taken.raised;
      count = taken.count;
      into = taken.into;
      few = (let few = taken.few in omega (arith, few));
      own = All-cons IsOwn (does (other_hook hook)) taken.events (is_own call) taken.own;
      runs = (back, (first, taken.runs));
      board = taken.board;
      notes = (let more = taken.notes in omega (arith, more, few));
      sound = taken.sound;
      there = taken.there;
      still = λ k.
          let between = line_current (a.lines i) (event.Hook (other_hook hook)) script Among w back t.sound first.1 a k in
          let after = taken.still between.current in
          record { current = after.current; is = after.is ∙ between.is };
    }

  takes : (w : World) → CanTurn w 2 → IsNoted script Among w call target a 2
  takes w t = by_hook_now (same_hook (w.gateway.line (a.lines i)).hook hook) refl
    where
      by_hook_now : (same : Bool) → same_hook (w.gateway.line (a.lines i)).hook hook ≡ same → IsNoted script Among w call target a 2
      by_hook_now true e = after_turn w t e (at_once (back w t e) (again w t e) (other w t e))
      by_hook_now false e =
          let taken = at_once w (record {
            sound = t.sound;
            can = t.can;
            named = t.named;
            request = t.request;
            expects = t.expects;
            leads = t.leads;
            space = (let space = t.space in omega (arith, space));
          }) e in
          record {
            events = taken.events;
            raised = taken.raised;
            count = taken.count;
            into = taken.into;
            few = (let few = taken.few in omega (arith, few));
            own = taken.own;
            runs = taken.runs;
            board = taken.board;
            notes = (let few = taken.notes in omega (arith, few));
            sound = taken.sound;
            there = taken.there;
            still = taken.still;
          }

-- ---- a call

module _ (script : Script) (Among : Listed) (is_script : IsScript script) (closes : IsClosed script Among) (w : World) (sound : IsSound script Among w)
    (counted : AcceptedAreCounted w) (call : ℕ) (a : Agent) (there : w.agent call ≡ Some a) (rests : a.phase ≡ resting)
    (goes_on : (state_of script a.state).is_end ≡ false)
    (k : IsCurrent script Among w.gateway a) (room : a.next ≤ last_number) (space : (w.gateway.link call).notes + 2 ≤ last_number) (target : ℕ) where
  by_its_timer : (state_of script a.state).timer ≡ Some target → CanBeMoved script w call target
  unfolding Runs
  by_its_timer is =
      let b = timer_enters script a room target rests is in
      record {
        events = timer call ∷ [];
        end = agent_steps w call b.agent;
        agent = b.agent;
        few = omega (arith);
        own = All-cons (λ (happens : Event). is_of_call call happens ≡ true) (timer call) [] (is_own call)
            (All-nil (λ (happens : Event). is_of_call call happens ≡ true));
        runs = (agent_steps w call b.agent, (record { before = a; agent = b.agent; open_call = there; steps = b.is; after_is = refl }, refl));
        open_call = at_one call (Some b.agent) (w.agent call);
        enters = b.state_is;
        has_entered = b.has_entered;
      }

  its : CallIsSound script Among w call a
  its = sound.calls call a there

  -- the agent that the configuration is shown by is the call's
  effective : k.e ≡ a
  effective = (at_rest script w.gateway a k.e k.c.link rests k.at).effective

  can_take : (i : ℕ) → i < length script.lines → CanTake script w call i target a
  can_take i within = record {
    there = there;
    call_is = its.numbered;
    held = its.held i within;
    rests = rests;
    goes_on = goes_on;
    current = k.association;
    unseen = λ n above. not_seen n above (a.accepted n) refl;
    place = line_found a i (line_places script) (is_place (length script.lines) i is_script.lines within)
        (λ j among same. its.once j i (below_less (length script.lines) (0 ∷ 1 ∷ 2 ∷ 3 ∷ []) j among) within same);
    room = room;
  }
    where
      not_seen : (n : ℕ) → (w.gateway.link call).notes < n → (seen : Bool) → a.accepted n ≡ seen → seen ≡ false
      not_seen n above true e = absurd (let below = counted call a n there e in omega (arith, above, below))
      not_seen n above false e = refl

  -- the receiver is turned, and the note of it taken
  pub by_receiver : (i : ℕ) (hook : Hook) → i < length script.lines → list_any (is_hook hook) (w.gateway.line (a.lines i)).list ≡ true
      → target_in (state_of script a.state).on i (kind_of hook) ≡ Some target → IsNoted script Among w call target a 2
  by_receiver i hook within named leads = by_request (w.gateway.line (a.lines i)).request refl
    where
      expected : (w.gateway.line (a.lines i)).request ≡ a.expected i
      expected = subst (λ (e : Agent). (w.gateway.line (e.lines i)).request ≡ e.expected i) effective (k.lines_shown.expected i within)

      unnamed : (w.gateway.line (a.lines i)).request ≡ None → (w.gateway.line (a.lines i)).list ≡ []
      unnamed = subst (λ (e : Agent). (w.gateway.line (e.lines i)).request ≡ None → (w.gateway.line (e.lines i)).list ≡ []) effective
          (k.lines_shown.unnamed i within)

      by_request : (o : Option ℕ) → (w.gateway.line (a.lines i)).request ≡ o → IsNoted script Among w call target a 2
      by_request None e = absurd (false_not_true (sym (ap (list_any (is_hook hook)) (unnamed e)) ∙ named))
      by_request (Some q) e = takes script Among is_script closes call i target q a hook w (record {
        sound = sound;
        can = can_take i within;
        named = named;
        request = e;
        expects = sym expected ∙ e;
        leads = leads;
        space = space;
      })

  taken_moves : IsNoted script Among w call target a 2 → CanBeMoved script w call target
  taken_moves taken = record {
    events = taken.events;
    end = agent_steps taken.raised call taken.into.agent;
    agent = taken.into.agent;
    few = taken.few;
    own = taken.own;
    runs = taken.runs;
    open_call = at_one call (Some taken.into.agent) (taken.raised.agent call);
    enters = taken.into.state_is;
    has_entered = taken.into.has_entered;
  }

  by_lead : (lead : Lead) → IsLedTo script w a target lead → CanBeMoved script w call target
  by_lead by_timer is = by_its_timer is
  by_lead (by_hook i hook) is = taken_moves (by_receiver i hook is.0 is.1 is.2)

pub calls_be_moved : CallsCanBeMoved
calls_be_moved script entries is_script listed none_broken calls events opening end opens runs call a there rests goes_on now room space target lead is =
    let closes = closed script entries is_script listed none_broken in
    let sound = reached script entries is_script listed none_broken calls events opening end opens runs in
    let counted = runs_accepted script events opening end (opening_numbered script calls opening opens) (opening_accepted script calls opening opens) runs in
    elim (sound.calls call a there).part [
      | inl current ↦ by_lead script (IsCovered entries) is_script closes end sound counted call a there rests goes_on current room space target lead is
      | inr lost ↦ (let older = lost.association in absurd (omega (arith, older, now)))
    ]
