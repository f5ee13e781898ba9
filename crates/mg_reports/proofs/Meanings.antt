-- A step of a plan means the same event in two worlds that treat its call alike, and what kind of event that is.
use Rattle.std.proofs.Common.{◌≡◌, ◌∙◌, ◌+◌, ◌⊎◌, ℕ, Bool, true, Option, Some, None, refl, sym, ap, subst, inl, inr, ◌==◌, ◌&&◌, IsTrue, Contains}
use Rattle.mg_merge.proofs.Words.{Agent, CallEvent, Dials, Digit, Ends, Event, Flash, Flashes, GoesOff, GoesOn, Hears, Hook, LineEvent, Means, MeansNote}
use Rattle.mg_merge.proofs.Words.{MeansReply, MeansRequest, OfCall, Off, On, Passes, Pause, Pauses, PlanStep, Progress, Reply, Request, Restart, Restarts}
use Rattle.mg_merge.proofs.Words.{Script, SentNote, SignalEnd, TakesNote, TakesReply, TimesOut, World, after_event, and_first, arrival, begin, eqb-true}
use Rattle.mg_merge.proofs.Words.{execute, hear, is_new, is_of, is_waiting, note, on_a_line, pass, refusal_at, reply, the_association, the_call, the_line}
use Rattle.mg_merge.proofs.Words.{timer}
use Rattle.mg_alike.proofs.Words.{CallAlike, IsBeginning, Renaming}
use Rattle.mg_model.specs.declared.events.CallEvent.TheVariants as to_call
use Rattle.mg_model.specs.declared.plans.PlanStep.TheVariants.{Executes, Begins}
use Rattle.mg_reports.proofs.Keys.{RequestsInStep, RepliesInStep, found_too}

-- ---- the same event

module _ (w v : World) (call : ℕ) (r : Renaming) (a b : Agent) (alike : CallAlike r w v call a b) (of : a.call ≡ call) (keep : ℕ → Bool) (kept : IsTrue (keep call))
    (requests : RequestsInStep keep w.requests v.requests) (replies : RepliesInStep keep w.replies v.replies) where
  line_same : (l : ℕ) (event : LineEvent) → on_a_line a.call (a.lines l) event ≡ on_a_line b.call (b.lines l) event
  line_same l event =
      ap (λ (n : ℕ). on_a_line n (a.lines l) event) (sym alike.agents.call)
      ∙ ap (λ (lines : ℕ → ℕ). on_a_line b.call (lines l) event) (sym alike.agents.lines)

  -- a message that is meant is of the call
  of_call : (which : Option ℕ) (one number : ℕ) → is_of a.call which one number ≡ true → keep one ≡ true
  of_call None one number e = ap keep (eqb-true one a.call e ∙ of) ∙ kept
  of_call (Some n) one number e = ap keep (eqb-true one a.call (and_first (one == a.call) (number == n) e) ∙ of) ∙ kept

  request_too : (which : Option ℕ) (q : Request) → MeansRequest w a.call which q → (p : Request) × MeansRequest v b.call which p × (p.number ≡ q.number)
  request_too which q found =
      let it = found_too (λ (x : Request). x.call) (λ (x : Request). x.number) keep (is_of a.call which) (of_call which) w.requests v.requests requests q found in
      (it.0, subst (λ (n : ℕ). MeansRequest v n which it.0) (sym alike.agents.call) it.1, it.2)

  reply_too : (which : Option ℕ) (q : Reply) → MeansReply w a.call which q → (p : Reply) × MeansReply v b.call which p × (p.number ≡ q.number)
  reply_too which q found =
      let it = found_too (λ (x : Reply). x.call) (λ (x : Reply). x.number) keep (is_of a.call which) (of_call which) w.replies v.replies replies q found in
      (it.0, subst (λ (n : ℕ). MeansReply v n which it.0) (sym alike.agents.call) it.1, it.2)

  waiting_same : (sent : SentNote) → is_waiting b sent ≡ is_waiting a sent
  waiting_same sent =
      ap (λ (n : ℕ). (sent.call == n) && is_new (arrival (record { association = b.association; accepted = b.accepted }) sent.association sent.number)) alike.agents.call
      ∙ ap (λ (n : ℕ). (sent.call == a.call) && is_new (arrival (record { association = n; accepted = b.accepted }) sent.association sent.number)) alike.agents.association
      ∙ ap (λ (f : ℕ → Bool). (sent.call == a.call) && is_new (arrival (record { association = a.association; accepted = f }) sent.association sent.number)) alike.agents.accepted

  of_waiting : (sent : SentNote) → is_waiting a sent ≡ true → sent.call ≡ call
  of_waiting sent waits = eqb-true sent.call a.call (and_first (sent.call == a.call) _ waits) ∙ of

  note_there : (sent : SentNote) → Contains w.notes sent → sent.call ≡ call → Contains v.notes sent
  note_there sent there its = let other = alike.notes.onward sent there its in subst (λ (n : SentNote). Contains v.notes n) (sym other.2) other.1

  note_back : (sent : SentNote) → Contains v.notes sent → sent.call ≡ call → Contains w.notes sent
  note_back sent there its = let one = alike.notes.back sent there its in subst (λ (n : SentNote). Contains w.notes n) one.2 one.1

  note_too : (which : Option ℕ) (sent : SentNote) → MeansNote w a which sent → MeansNote v b which sent
  note_too None sent (there, waits, least) = (
    note_there sent there (of_waiting sent waits),
    waiting_same sent ∙ waits,
    λ other among also. let waits_too : is_waiting a other ≡ true = sym (waiting_same other) ∙ also in
        least other (note_back other among (of_waiting other waits_too)) waits_too,
  )
  note_too (Some n) sent (there, its, number) = (note_there sent there (its ∙ of), its ∙ sym alike.agents.call, number)

  pub means_too : (next : ℕ) (step : PlanStep) (event : Event) → Means w a next step event → Means v b next step event
  means_too next (GoesOff l) event e = e ∙ line_same l (Hook Off)
  means_too next (GoesOn l) event e = e ∙ line_same l (Hook On)
  means_too next (Flashes l) event e = e ∙ line_same l Flash
  means_too next (Dials l s) event e = e ∙ line_same l (Digit s)
  means_too next (Pauses l) event e = e ∙ line_same l Pause
  means_too next (Ends l s) event e = e ∙ line_same l (SignalEnd s)
  means_too next (Executes which place) event (q, found, e) =
      let it = request_too which q found in (
        it.0,
        it.1,
        e ∙ ap (λ (n : ℕ). execute n q.number (refusal_at place)) (sym alike.agents.call)
            ∙ ap (λ (n : ℕ). execute b.call n (refusal_at place)) (sym it.2),
      )
  means_too next (TakesReply which) event (q, found, e) =
      let it = reply_too which q found in
      (it.0, it.1, e ∙ ap (λ (n : ℕ). reply n q.number) (sym alike.agents.call) ∙ ap (λ (n : ℕ). reply b.call n) (sym it.2))
  means_too next Passes event e = e ∙ ap (λ (n : ℕ). pass n) (sym alike.agents.call)
  means_too next (TakesNote which) event (sent, found, e) =
      (sent, note_too which sent found, e ∙ ap (λ (n : ℕ). note n sent.number) (sym alike.agents.call))
  means_too next TimesOut event e = e ∙ ap (λ (n : ℕ). timer n) (sym alike.agents.call)
  means_too next Hears event e =
      e ∙ ap (λ (n : ℕ). hear n w.gateway.association) (sym alike.agents.call) ∙ ap (λ (n : ℕ). hear b.call n) (sym alike.association)
  means_too next Begins event e = e ∙ ap (λ (n : ℕ). begin next n) (sym alike.agents.call)
  means_too next Restarts event e = e

-- ---- its kind

-- a step of the call itself: its event is one of the call, which doesn't begin with it, and is counted as its next one
pub record IsOwn (a : Agent) (step : PlanStep) (event : Event) : Type 0 where
  pub happens : CallEvent
  pub is : event ≡ OfCall (the_call a.call) happens
  pub goes_on : IsBeginning happens → ⊥
  pub counts : (script : Script) (first : ℕ) (b : Agent) (p : Progress) (w : World)
      → after_event script first b p step w ≡ record p { world = w; events = p.events + 1 }

abbrev pub IsKind : Agent → ℕ → PlanStep → Event → Type 0
IsKind a next step event =
    IsOwn a step event ⊎ (((step ≡ Begins) × (event ≡ begin next a.call)) ⊎ ((step ≡ Restarts) × (event ≡ Restart)))

own_kind : {a : Agent} {step : PlanStep} {event : Event} (happens : CallEvent) → event ≡ OfCall (the_call a.call) happens → (IsBeginning happens → ⊥)
    → ((script : Script) (first : ℕ) (b : Agent) (p : Progress) (w : World)
    → after_event script first b p step w ≡ record p { world = w; events = p.events + 1 }) → IsOwn a step event
own_kind happens is goes_on counts = record { happens = happens; is = is; goes_on = goes_on; counts = counts }

pub kind_of : (w : World) (a : Agent) (next : ℕ) (step : PlanStep) (event : Event) → Means w a next step event → IsKind a next step event
kind_of w a next (GoesOff l) event e = inl (own_kind (to_call.OnLine (the_line (a.lines l)) (Hook Off)) e (λ is. is) (λ script first b p u. refl))
kind_of w a next (GoesOn l) event e = inl (own_kind (to_call.OnLine (the_line (a.lines l)) (Hook On)) e (λ is. is) (λ script first b p u. refl))
kind_of w a next (Flashes l) event e = inl (own_kind (to_call.OnLine (the_line (a.lines l)) Flash) e (λ is. is) (λ script first b p u. refl))
kind_of w a next (Dials l s) event e = inl (own_kind (to_call.OnLine (the_line (a.lines l)) (Digit s)) e (λ is. is) (λ script first b p u. refl))
kind_of w a next (Pauses l) event e = inl (own_kind (to_call.OnLine (the_line (a.lines l)) Pause) e (λ is. is) (λ script first b p u. refl))
kind_of w a next (Ends l s) event e = inl (own_kind (to_call.OnLine (the_line (a.lines l)) (SignalEnd s)) e (λ is. is) (λ script first b p u. refl))
kind_of w a next (Executes which place) event (q, found, e) =
    inl (own_kind (to_call.Execute q.number (refusal_at place)) e (λ is. is) (λ script first b p u. refl))
kind_of w a next (TakesReply which) event (q, found, e) = inl (own_kind (to_call.Reply q.number) e (λ is. is) (λ script first b p u. refl))
kind_of w a next Passes event e = inl (own_kind to_call.Pass e (λ is. is) (λ script first b p u. refl))
kind_of w a next (TakesNote which) event (sent, found, e) = inl (own_kind (to_call.Note sent.number) e (λ is. is) (λ script first b p u. refl))
kind_of w a next TimesOut event e = inl (own_kind to_call.Timer e (λ is. is) (λ script first b p u. refl))
kind_of w a next Hears event e = inl (own_kind (to_call.Hear (the_association w.gateway.association)) e (λ is. is) (λ script first b p u. refl))
kind_of w a next Begins event e = inr (inl (refl, e))
kind_of w a next Restarts event e = inr (inr (refl, e))
