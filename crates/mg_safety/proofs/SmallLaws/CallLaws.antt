-- What an event leaves alone.
use Rattle.mg_safety.proofs.Words.{◌≡◌, ◌∙◌, ◌+◌, ◌≤◌, ◌++◌, ℕ, List, [], ◌∷◌, length, Option, Some, None, refl, sym, ap, subst, arith, inl, inr, Contains}
use Rattle.mg_safety.proofs.Words.{Contains-append_cases, ChosenRefusal, Line, Agent, replied, passed, noted, timed, heard, Note, LineEvent, Gateway}
use Rattle.mg_safety.proofs.Words.{last_executed, row_restarted, notes_from, sent_notes, reply_of, Request, Reply, SentNote, RaisedNote, Script, World}
use Rattle.mg_safety.proofs.Words.{Executes, IsFirst, LineOccurs, AgentSteps, Begins, sent_in, line_places, at_another, fresh_at, kept_at, only_one, none_in}
use Rattle.mg_safety.proofs.Words.{the_some, subst₂}
use Rattle.mg_model.specs.declared.events.CallEvent.TheVariants as to_call
use Rattle.mg_safety.specs.Laws.{OldRequestsDoNothing, RestartsClearLines, EventsKeepOthers, AreNumbered, IsSameButReplies, IsSameFor, IsLineRestarted}
use Rattle.mg_safety.proofs.Events.Handover.{link_other, agent_other}
use Rattle.mg_safety.proofs.SmallLaws.AgentLaws.{IsOwn, GivesOwn, replied_own, passed_own, noted_own, timed_own, heard_own}

by_case : (w after : World) (request : Request) (refusal : Option ChosenRefusal) → request.number ≤ last_executed w.gateway request.call
    → Executes w request refusal after → IsSameButReplies w after
by_case w after request refusal old (inl first) =
    let above = (fresh_at w.gateway request first.executed.is_fresh).1 in absurd (omega (arith, old, above))
by_case w after request refusal old (inr (inl again)) =
    subst (IsSameButReplies w) (sym again.after_is) (record { gateway = refl; agents = refl; requests = refl; notes = refl })
by_case w after request refusal old (inr (inr dropped)) =
    subst (IsSameButReplies w) (sym dropped.1) (record { gateway = refl; agents = refl; requests = refl; notes = refl })

pub old_requests : OldRequestsDoNothing
old_requests script w after call number refusal (request, of_call, executes) old =
    by_case w after request refusal
    (subst₂ (λ (n c : ℕ). n ≤ last_executed w.gateway c) (sym of_call.2) (sym of_call.1) old) executes

pub restarts : RestartsClearLines
restarts script w after occurs l row stands = subst (λ v. IsLineRestarted w v l) (sym occurs.1)
    (record { row = ap (row_restarted (Line (record { 0 = l }))) stands; list = refl; request = refl; playing = refl; hook = refl })

-- ---- other calls

-- whatever is among these is of a call
abbrev AreOf : {A : Type 0} → (A → ℕ) → ℕ → List A → Type 0
AreOf of call xs = (x : _) → Contains xs x → of x ≡ call

-- what is sent is of another call, so what is of this one was sent before
not_new : {A : Type 0} (of : A → ℕ) (call other : ℕ) (new old : List A) (x : A) → AreOf of call new → (call ≡ other → ⊥) → of x ≡ other
    → Contains (new ++ old) x → Contains old x
not_new of call other new old x own differ is there = elim (Contains-append_cases new old x there) [
  | inl among ↦ absurd (differ (sym (own x among) ∙ is))
  | inr before ↦ before
]

one_of : {A : Type 0} (of : A → ℕ) (call : ℕ) (x : A) → of x ≡ call → AreOf of call (x ∷ [])
one_of of call x is y among = ap of (sym (only_one x y among)) ∙ is

none_of : {A : Type 0} (of : A → ℕ) (call : ℕ) → AreOf of call []
none_of of call y among = absurd (none_in y among)

-- ---- an agent's step

agent_keeps : (w after : World) (call other : ℕ) (step : Agent → Option Agent) → AreNumbered w
    → ((a : Agent) → GivesOwn a.call (step a)) → (call ≡ other → ⊥) → AgentSteps w call step after → IsSameFor w after other
agent_keeps w after call other step numbered own differ s = subst (λ v. IsSameFor w v other) (sym s.after_is) (record {
  agent = at_another call other (Some s.agent) (w.agent other) (λ e. differ (sym e));
  link = refl;
  requests = λ request is there. not_new (λ (r : Request). r.call) call other (sent_in s.agent.phase) w.requests request
      (subst (λ n. IsOwn n s.agent.phase) (numbered.agents call s.before s.open_call) (own s.before s.agent s.steps)) differ is there;
  replies = λ answer is there. there;
  notes = λ sent is there. there;
})

-- ---- an event of a line

note_of_call : (g : Gateway) (call l : ℕ) (note : Option Note) → AreOf (λ (n : SentNote). n.call) call (notes_from g call l note)
note_of_call g call l None = none_of (λ (n : SentNote). n.call) call
note_of_call g call l (Some n) =
    one_of (λ (m : SentNote). m.call) call (record { call = call; association = g.association; number = (g.link call).notes + 1; line = l; note = n }) refl

line_keeps : (w after : World) (line : ℕ) (event : LineEvent) (call other : ℕ) → LineOccurs w line event after
    → w.gateway.holder line ≡ Some call → (call ≡ other → ⊥) → IsSameFor w after other
line_keeps w after line event call other o held differ =
    let h = o.happens in
    let mine : h.call ≡ call = the_some h.call call (sym h.held ∙ held) in
    let apart : h.call ≡ other → ⊥ = λ e. differ (sym mine ∙ e) in
    subst (λ v. IsSameFor w v other) (sym o.after_is) (record {
      agent = refl;
      link = ap (λ (g : Gateway). g.link other) h.after_is
          ∙ at_another h.call other (record { last = (w.gateway.link h.call).last; notes = (w.gateway.link h.call).notes + length o.sent })
          (w.gateway.link other) (λ e. apart (sym e));
      requests = λ request is there. there;
      replies = λ answer is there. there;
      notes = λ sent is there. not_new (λ (n : SentNote). n.call) h.call other o.sent w.notes sent
          (subst (AreOf (λ (n : SentNote). n.call) h.call) (sym h.notes_are) (note_of_call w.gateway h.call line h.outcome.note)) apart is there;
    })

-- ---- a request

cons_of : {A : Type 0} (of : A → ℕ) (call : ℕ) (x : A) (xs : List A) → of x ≡ call → AreOf of call xs → AreOf of call (x ∷ xs)
cons_of of call x xs is own y among = elim (Contains-append_cases (x ∷ []) xs y among) [
  | inl first ↦ one_of of call x is y first
  | inr later ↦ own y later
]

notes_of_call : (call association count : ℕ) (notes : List RaisedNote) → AreOf (λ (n : SentNote). n.call) call (sent_notes call association count notes)
notes_of_call call association count [] = none_of (λ (n : SentNote). n.call) call
notes_of_call call association count (n ∷ more) =
    cons_of (λ (m : SentNote). m.call) call (record { call = call; association = association; number = count + 1; line = n.line; note = n.note })
    (sent_notes call association (count + 1) more) refl (notes_of_call call association (count + 1) more)

first_keeps : (w after : World) (request : Request) (refusal : Option ChosenRefusal) (call other : ℕ) → IsFirst w request refusal after → request.call ≡ call
    → (call ≡ other → ⊥) → IsSameFor w after other
first_keeps w after request refusal call other f of differ =
    let x = f.executed in
    let apart : request.call ≡ other → ⊥ = λ e. differ (sym of ∙ e) in
    subst (λ v. IsSameFor w v other) (sym f.after_is) (record {
      agent = refl;
      link = ap (λ (g : Gateway). g.link other) x.after_is ∙ at_another request.call other
          (record { last = Some (reply_of request x.end x.failure); notes = (w.gateway.link request.call).notes + length x.end.notes })
          (w.gateway.link other) (λ e. apart (sym e));
      requests = λ r is there. there;
      replies = λ answer is there. not_new (λ (r : Reply). r.call) request.call other (f.answer ∷ []) w.replies answer
          (one_of (λ (r : Reply). r.call) request.call f.answer (ap (λ (r : Reply). r.call) x.reply_is)) apart is there;
      notes = λ sent is there. not_new (λ (n : SentNote). n.call) request.call other f.sent w.notes sent
          (subst (AreOf (λ (n : SentNote). n.call) request.call) (sym x.notes_are)
          (notes_of_call request.call request.association (w.gateway.link request.call).notes x.end.notes)) apart is there;
    })

request_keeps : (w after : World) (request : Request) (refusal : Option ChosenRefusal) (call other : ℕ) → AreNumbered w → Executes w request refusal after
    → request.call ≡ call → (call ≡ other → ⊥) → IsSameFor w after other
request_keeps w after request refusal call other numbered (inl first) of differ = first_keeps w after request refusal call other first of differ
request_keeps w after request refusal call other numbered (inr (inl again)) of differ = subst (λ v. IsSameFor w v other) (sym again.after_is) (record {
  agent = refl;
  link = refl;
  requests = λ r is there. there;
  replies = λ answer is there. not_new (λ (r : Reply). r.call) request.call other (again.answer ∷ []) w.replies answer
      (one_of (λ (r : Reply). r.call) request.call again.answer
      (numbered.replies request.call again.answer (kept_at w.gateway request again.answer again.kept)))
      (λ e. differ (sym of ∙ e)) is there;
  notes = λ sent is there. there;
})
request_keeps w after request refusal call other numbered (inr (inr dropped)) of differ = subst (λ v. IsSameFor w v other) (sym dropped.1)
    (record { agent = refl; link = refl; requests = λ r is there. there; replies = λ answer is there. there; notes = λ sent is there. there })

-- a call that begins leaves all others but the one that has ended
begin_keeps : (script : Script) (w after : World) (call old other : ℕ) → (call ≡ other → ⊥) → (old ≡ other → ⊥) → Begins script w call old after
    → IsSameFor w after other
begin_keeps script w after call old other differ not_ended x = subst (λ v. IsSameFor w v other) (sym x.after_is) (record {
  agent = agent_other script w call old other x.before (λ e. not_ended (sym e)) (λ e. differ (sym e));
  link = link_other w.gateway old call other (λ e. not_ended (sym e)) (λ e. differ (sym e));
  requests = λ request is there. there;
  replies = λ answer is there. there;
  notes = λ sent is there. there;
})

pub events_keep : EventsKeepOthers
events_keep script w after call other (to_call.OnLine line event) numbered occurs differ not_ended =
    line_keeps w after line.0 event call other occurs.1 occurs.0 differ
events_keep script w after call other (to_call.Execute number chosen) numbered (request, of_call, executes) differ not_ended =
    request_keeps w after request chosen call other numbered executes of_call.1 differ
events_keep script w after call other (to_call.Reply number) numbered (answer, of_call, steps) differ not_ended =
    agent_keeps w after call other (λ a. replied script a answer) numbered (λ a. replied_own script a answer) differ steps
events_keep script w after call other to_call.Pass numbered occurs differ not_ended =
    agent_keeps w after call other (passed script) numbered (passed_own script) differ occurs
events_keep script w after call other (to_call.Note number) numbered (sent, of_call, steps) differ not_ended =
    agent_keeps w after call other (λ a. noted script a (line_places script) sent) numbered (λ a. noted_own script a (line_places script) sent) differ steps
events_keep script w after call other (to_call.Begin old) numbered occurs differ not_ended = begin_keeps script w after call old.0 other differ not_ended occurs
events_keep script w after call other to_call.Timer numbered occurs differ not_ended =
    agent_keeps w after call other (timed script) numbered (timed_own script) differ occurs
events_keep script w after call other (to_call.Hear association) numbered occurs differ not_ended =
    agent_keeps w after call other (λ a. heard script a association.0) numbered (λ a. heard_own script a association.0) differ occurs.1
