-- A call whose user dialled too little: whatever events of it follow, it rests in `dial`. Its map is completed, so that no note tells of a number; no note of
-- another kind leads on from `dial`; its one request is known to the gateway; and its agent takes no reply, no timer and no association that isn't newer.
use Rattle.std.proofs.Common.{◌≡◌, ◌∙◌, ◌<◌, ◌≤◌, ◌==◌, ◌+◌, ℕ, Bool, true, false, List, [], ◌∷◌, length, Option, Some, None, option_map, nat_lt}
use Rattle.std.proofs.Common.{ap, arith, eqb-true, inl, inr, ltb-true, refl, subst, sym, true≢false}
use Rattle.std.proofs.lemmas.List.Elements.{All-head, All-tail, Contains-append_cases}
use Rattle.std.specs.List.{All}
use Rattle.std.specs.Prelude.{◌&&◌, Contains, if◌then◌else◌}
use Rattle.mg_names.specs.declared.kinds.Kind.TheVariants.{Full}
use Rattle.mg_model.specs.declared.events.CallEvent.{CallEvent}
use Rattle.mg_model.specs.declared.events.CallEvent.TheVariants as to_call
use Rattle.mg_model.specs.declared.events.Event.TheVariants.{OfCall}
use Rattle.mg_model.specs.declared.failures.ChosenRefusal.{ChosenRefusal}
use Rattle.mg_model.specs.declared.line_events.LineEvent.{LineEvent}
use Rattle.mg_model.specs.declared.transitions.Transition.{Transition}
use Rattle.mg_model.specs.Agent.{entered, entered_or_stays, forgotten, line_in, may_accept, same_number, target_of}
use Rattle.mg_model.specs.Gateway.{notes_from}
use Rattle.mg_model.specs.LineEvents.{LineRow, Note}
use Rattle.mg_model.specs.Tables.{same_kind, target_in}
use Rattle.mg_model.specs.Updates.{with_at}
use Rattle.mg_model.specs.World.{Executes, Occurs, OccursTo, Runs, is_of_call}
use Rattle.mg_model.proofs.Cases.{by_test, false_not_true, none_is_some, the_some}
use Rattle.mg_model.proofs.Offered.{fresh_at, number_of}
use Rattle.mg_model.proofs.Single.{none_in, only_one}
use Rattle.mg_examples.proofs.Words.{Agent, AgentSteps, Event, Gateway, LineOccurs, Request, Restart, SentNote, World, agent_steps, heard, line_places, noted}
use Rattle.mg_examples.proofs.Words.{passed, replied, state_of, timed, with_line, with_notes}
use Rattle.mg_examples.specs.Dials.{dials}
use Rattle.mg_examples.proofs.DialRun.{asked, still}
use Rattle.mg_examples.proofs.QuietLines.{IsQuiet, TellsOther, IsOther, stays_quiet}

-- ---- what stays

-- the agent, but for the notes that were accepted
abbrev pub waits : (ℕ → Bool) → Agent
waits accepted = record still { accepted = accepted }

-- of the gateway: its association, the number of the last request of the call, and that no line tells of a number
pub record IsStill (g : Gateway) : Type 0 where
  pub association : g.association ≡ 1
  pub last : number_of (g.link 7).last ≡ 1
  pub quiet : (l : ℕ) → IsQuiet (g.line l)

pub record StandsStill (w : World) : Type 0 where
  pub accepted : ℕ → Bool
  pub agent : w.agent 7 ≡ Some (waits accepted)
  pub gateway : IsStill w.gateway
  pub requests : (request : Request) → Contains w.requests request → asked ≡ request
  pub notes : (sent : SentNote) → Contains w.notes sent → IsOther sent.note.kind

-- ---- what the agent doesn't take

-- the agent that steps is that which waits
steps_on : (w : World) (s : StandsStill w) (step : Agent → Option Agent) (next : World) (steps : AgentSteps w 7 step next)
    → step (waits s.accepted) ≡ Some steps.agent
steps_on w s step next steps =
    subst (λ (a : Agent). step a ≡ Some steps.agent) (sym (the_some (waits s.accepted) steps.before (sym s.agent ∙ steps.open_call))) steps.steps

-- a step that it can't take
no_step : (w : World) (s : StandsStill w) (step : Agent → Option Agent) (next : World) → ((accepted : ℕ → Bool) → step (waits accepted) ≡ None)
    → AgentSteps w 7 step next → StandsStill next
no_step w s step next never steps = absurd (none_is_some steps.agent (sym (never s.accepted) ∙ steps_on w s step next steps))

-- an association that isn't newer isn't heard of
not_heard : (accepted : ℕ → Bool) (association : ℕ) → association ≤ 1 → heard dials (waits accepted) association ≡ None
not_heard accepted association older =
    by_test (λ (a : Option Agent). a ≡ None) (entered dials (forgotten (waits accepted) association) dials.restart) None (nat_lt 1 association)
    (λ newer. let above : 1 < association = ltb-true 1 association newer in absurd (omega (arith, above, older))) (λ e. refl)

-- ---- a note that it takes

-- of a kind other than that of a number, it leads nowhere
no_arrow : (near full : Bool) (arrow : Transition) → full ≡ false
    → option_map (λ (t : Transition). t.target) (if near && full then Some arrow else None) ≡ None
no_arrow true true arrow e = absurd (true≢false e)
no_arrow true false arrow e = refl
no_arrow false full arrow e = refl

leads_nowhere : (accepted : ℕ → Bool) (line : Option ℕ) (note : Note) → IsOther note.kind → target_of dials (waits accepted) line note ≡ None
leads_nowhere accepted None note other = refl
leads_nowhere accepted (Some i) note other =
    by_test (λ (target : Option ℕ). target ≡ None) (target_in (state_of dials 1).on i note.kind) None (same_number ((waits accepted).expected i) note.request)
    (λ e. no_arrow (0 == i) (same_kind Full note.kind) (record { line = 0; kind = Full; target = 2 }) other) (λ e. refl)

stays_there : (test : Bool) (a b : Agent) (target : Option ℕ) → target ≡ None → (if test then entered_or_stays dials a target else None) ≡ Some b → a ≡ b
stays_there true a b target nowhere e = the_some a b (sym (ap (entered_or_stays dials a) nowhere) ∙ e)
stays_there false a b target nowhere e = absurd (none_is_some b e)

after_note : (accepted : ℕ → Bool) (sent : SentNote) (b : Agent) → IsOther sent.note.kind → noted dials (waits accepted) (line_places dials) sent ≡ Some b
    → waits (with_at accepted sent.number true) ≡ b
after_note accepted sent b other e =
    let line = line_in (waits accepted) sent.line (line_places dials) in
    stays_there (may_accept dials (waits accepted) sent) (waits (with_at accepted sent.number true)) b (target_of dials (waits accepted) line sent.note)
    (leads_nowhere accepted line sent.note other) e

on_note : (w : World) (s : StandsStill w) (sent : SentNote) (next : World) → Contains w.notes sent
    → AgentSteps w 7 (λ a. noted dials a (line_places dials) sent) next → StandsStill next
on_note w s sent next among steps =
    let same = after_note s.accepted sent steps.agent (s.notes sent among) (steps_on w s (λ a. noted dials a (line_places dials) sent) next steps) in
    subst StandsStill (sym steps.after_is) (subst (λ (a : Agent). StandsStill (agent_steps w 7 a)) same (record {
      accepted = with_at s.accepted sent.number true;
      agent = refl;
      gateway = s.gateway;
      requests = s.requests;
      notes = s.notes;
    }))

-- ---- events of lines

line_still : (g : Gateway) (l call count : ℕ) (row : LineRow) → 7 ≡ call → IsStill g → IsQuiet row → IsStill (with_notes (with_line g l row) call count)
line_still g l call count row is still quiet = record {
  association = still.association;
  last = subst (λ (c : ℕ). number_of ((with_notes (with_line g l row) c count).link 7).last ≡ 1) is still.last;
  quiet = λ m. by_test IsQuiet row (g.line m) (m == l) (λ e. quiet) (λ e. still.quiet m);
}

told_by : (g : Gateway) (call l : ℕ) (note : Option Note) → TellsOther note → (sent : SentNote) → Contains (notes_from g call l note) sent
    → IsOther sent.note.kind
told_by g call l None other sent among = absurd (none_in sent among)
told_by g call l (Some note) other sent among =
    let one : SentNote = record { call = call; association = g.association; number = (g.link call).notes + 1; line = l; note = note } in
    subst (λ (n : SentNote). IsOther n.note.kind) (only_one one sent among) other

on_line : (w : World) (s : StandsStill w) (l : ℕ) (happens : LineEvent) (next : World) → w.gateway.holder l ≡ Some 7
    → LineOccurs w l happens next → StandsStill next
on_line w s l happens next held occurs =
    let it = occurs.happens in
    let quiet = stays_quiet (w.gateway.line l) happens it.outcome (s.gateway.quiet l) it.happens in
    subst StandsStill (sym occurs.after_is) (record {
      accepted = s.accepted;
      agent = s.agent;
      gateway = subst IsStill (sym it.after_is)
          (line_still w.gateway l it.call (length occurs.sent) it.outcome.row (the_some 7 it.call (sym held ∙ it.held)) s.gateway quiet.0);
      requests = s.requests;
      notes = λ sent among. elim (Contains-append_cases occurs.sent w.notes sent among) [
        | inl new ↦ told_by w.gateway it.call l it.outcome.note quiet.1 sent (subst (λ (xs : List SentNote). Contains xs sent) it.notes_are new)
        | inr old ↦ s.notes sent old
      ];
    })

-- ---- its request comes again

on_request : (w : World) (s : StandsStill w) (chosen : Option ChosenRefusal) (next : World) → Executes w asked chosen next → StandsStill next
on_request w s chosen next (inl first) =
    let above : number_of (w.gateway.link 7).last < 1 = (fresh_at w.gateway asked first.executed.is_fresh).1 in
    let last = s.gateway.last in
    absurd (omega (arith, above, last))
on_request w s chosen next (inr (inl again)) =
    subst StandsStill (sym again.after_is) (record { accepted = s.accepted; agent = s.agent; gateway = s.gateway; requests = s.requests; notes = s.notes })
on_request w s chosen next (inr (inr dropped)) = subst StandsStill (sym dropped.1) s

-- ---- whatever happens

to_call_seven : (w : World) (s : StandsStill w) (happens : CallEvent) (next : World) → OccursTo dials w 7 happens next → StandsStill next
to_call_seven w s (to_call.OnLine line happens) next occurs = on_line w s line.0 happens next occurs.0 occurs.1
to_call_seven w s (to_call.Execute number chosen) next occurs =
    on_request w s chosen next (subst (λ (r : Request). Executes w r chosen next) (sym (s.requests occurs.0 occurs.1.0)) occurs.2)
to_call_seven w s (to_call.Reply number) next occurs = no_step w s (λ a. replied dials a occurs.0) next (λ accepted. refl) occurs.2
to_call_seven w s to_call.Pass next occurs = no_step w s (passed dials) next (λ accepted. refl) occurs
to_call_seven w s (to_call.Note number) next occurs = on_note w s occurs.0 next occurs.1.0 occurs.2
to_call_seven w s to_call.Timer next occurs = no_step w s (timed dials) next (λ accepted. refl) occurs
to_call_seven w s (to_call.Begin old) next occurs = absurd (none_is_some (waits s.accepted) (sym occurs.unused ∙ s.agent))
to_call_seven w s (to_call.Hear association) next occurs =
    let older : association.0 ≤ 1 = subst (λ (n : ℕ). association.0 ≤ n) s.gateway.association occurs.0 in
    no_step w s (λ a. heard dials a association.0) next (λ accepted. not_heard accepted association.0 older) occurs.1

one_event : (w : World) (s : StandsStill w) (event : Event) (next : World) → is_of_call 7 event ≡ true → Occurs dials w event next → StandsStill next
one_event w s (OfCall call happens) next own occurs =
    to_call_seven w s happens next (subst (λ (c : ℕ). OccursTo dials w c happens next) (eqb-true call.0 7 own) occurs)
one_event w s Restart next own occurs = absurd (false_not_true own)

pub stands : (events : List Event) (w later : World) → StandsStill w → All (λ (event : Event). is_of_call 7 event ≡ true) events → Runs dials events w later
    → StandsStill later
unfolding Runs
stands [] w later s own runs = subst StandsStill (sym runs) s
stands (event ∷ more) w later s own runs =
    let IsOwn : Event → Type 0 = λ (e : Event). is_of_call 7 e ≡ true in
    stands more runs.0 later (one_event w s event runs.0 (All-head IsOwn event more own) runs.1.0) (All-tail IsOwn event more own) runs.1.1
