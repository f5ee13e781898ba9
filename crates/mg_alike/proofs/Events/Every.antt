-- Each event of a call that is open leaves two worlds that treat it alike alike.
use Rattle.std.proofs.Common.{◌≡◌, ◌∙◌, ℕ, Bool, true, false, Option, Some, None, refl, sym, ap, subst, if◌then◌else◌}
use Rattle.mg_merge.proofs.Words.{Agent, AgentSteps, CallEvent, HasIdentifiersLeft, IsNoteOf, IsReplyOf, OccursTo, Phase, Reply, Script, SentNote, World}
use Rattle.mg_merge.proofs.Words.{answers, awaits_reply, heard, line_places, none_is_some, noted, passed, replied, replied_to, the_some, timed}
use Rattle.mg_alike.proofs.Words.{AreNamedByNumber, AreReached, CallAlike, EventsAlike, IsBeginning, Renaming, RepliesAlike, RestartsAlike, StepAlike}
use Rattle.mg_alike.proofs.Words.{StepsAlike, TreatAlike, is_awaited}
use Rattle.mg_model.specs.declared.events.CallEvent.TheVariants as to_call
use Rattle.mg_safety.proofs.Messages.AgentNumbers.{replied_next, passed_next, noted_next, timed_next, heard_next}
use Rattle.mg_safety.proofs.Messages.NamedMessages.{named_by_number, opening_numbered, runs_numbered}
use Rattle.mg_safety.proofs.Messages.NumberedWorlds.{IsNumbered}
use Rattle.mg_alike.proofs.Agents.Steps.{agents_step}
use Rattle.mg_alike.proofs.Events.LineEvents.{lines_alike, restarted_alike}
use Rattle.mg_alike.proofs.Events.Requests.{executes_alike}
use Rattle.mg_alike.proofs.Events.Steps.{steps_alike}

-- an agent takes no other reply than that which it awaits
pub taken_is_awaited : (script : Script) (a b : Agent) (phase : Phase) (answer : Reply) → replied_to script a phase answer ≡ Some b → is_awaited phase answer ≡ true
taken_is_awaited script a b (awaits_reply request) answer e = go _ (answers answer request) e
  where
    go : (o : Option Agent) (test : Bool) → (if test then o else None) ≡ Some b → test ≡ true
    go o true is = refl
    go o false is = absurd (none_is_some b is)
taken_is_awaited script a b _ answer e = absurd (none_is_some b e)

module _ (script : Script) (w v : World) (numbered : IsNumbered w) (once : AreNamedByNumber v) (call : ℕ) (r : Renaming) (a b : Agent) (alike : CallAlike r w v call a b) where
  each : StepAlike script r a b
  each = agents_step script r a b alike.renaming alike.agents

  -- the reply of one number that the agent awaits is the same but for the renaming
  reply_same : (number : ℕ) (one other : Reply) → IsReplyOf w call number one → IsReplyOf v call number other → is_awaited a.phase one ≡ true → RepliesAlike r one other
  reply_same number one other of its awaited =
      let it = alike.replies.onward one of.0 of.1 in
      let same : it.0 ≡ other = once.replies it.0 other it.1 its.0 (it.2.shape.call ∙ of.1 ∙ sym its.1) (it.2.shape.number ∙ of.2 ∙ sym its.2) in
      subst (λ (x : Reply). RepliesAlike r one x) same (it.2.awaited awaited)

  note_same : (number : ℕ) (one other : SentNote) → IsNoteOf w call number one → IsNoteOf v call number other → one ≡ other
  note_same number one other of its =
      let it = alike.notes.onward one of.0 of.1 in
      it.2 ∙ once.notes it.0 other it.1 its.0 (sym (ap (λ (x : SentNote). x.call) it.2) ∙ of.1 ∙ sym its.1) (sym (ap (λ (x : SentNote). x.number) it.2) ∙ of.2 ∙ sym its.2)

  replies_too : (number : ℕ) (one other : Reply) → IsReplyOf w call number one → IsReplyOf v call number other → (after next : World)
      → AgentSteps w call (λ x. replied script x one) after → AgentSteps v call (λ x. replied script x other) next → TreatAlike after next call
  replies_too number one other of its after next s t =
      let first : replied script a one ≡ Some s.agent =
      ap (λ (x : Agent). replied script x one) (the_some a s.before (sym alike.open_one ∙ s.open_call)) ∙ s.steps in
      steps_alike w v call r a b alike numbered (λ x. replied script x one) (λ x. replied script x other)
      (each.replied one other (reply_same number one other of its (taken_is_awaited script a s.agent a.phase one first))) (replied_next script a one) after next s t

  notes_too : (number : ℕ) (one other : SentNote) → IsNoteOf w call number one → IsNoteOf v call number other → (after next : World)
      → AgentSteps w call (λ x. noted script x (line_places script) one) after → AgentSteps v call (λ x. noted script x (line_places script) other) next
      → TreatAlike after next call
  notes_too number one other of its after next s t =
      steps_alike w v call r a b alike numbered (λ x. noted script x (line_places script) one) (λ x. noted script x (line_places script) other)
      (subst (λ (x : SentNote). StepsAlike r (noted script a (line_places script) one) (noted script b (line_places script) x)) (note_same number one other of its)
      (each.noted (line_places script) one)) (noted_next script a (line_places script) one) after next s t

  pub each_alike : AreReached script w v → HasIdentifiersLeft w → HasIdentifiersLeft v → (happens : CallEvent) → (IsBeginning happens → ⊥) → (after next : World) → OccursTo script w call happens after
      → OccursTo script v call happens next → TreatAlike after next call
  each_alike at left also_left (to_call.OnLine line event) open_call after next (held, o) (also, p) = lines_alike w v call r a b alike line.0 held event after next o also p
  each_alike at left also_left (to_call.Execute number chosen) open_call after next o p =
      executes_alike script w v at left also_left call number chosen (record { renaming = r; one = a; other = b; alike = alike }) after next o p
  each_alike at left also_left (to_call.Reply number) open_call after next (one, of, s) (other, its, t) = replies_too number one other of its after next s t
  each_alike at left also_left to_call.Pass open_call after next s t =
      steps_alike w v call r a b alike numbered (passed script) (passed script) each.passed (passed_next script a) after next s t
  each_alike at left also_left (to_call.Note number) open_call after next (one, of, s) (other, its, t) = notes_too number one other of its after next s t
  each_alike at left also_left to_call.Timer open_call after next s t =
      steps_alike w v call r a b alike numbered (timed script) (timed script) each.timed (timed_next script a) after next s t
  each_alike at left also_left (to_call.Begin old) open_call after next s t = absurd (open_call tt)
  each_alike at left also_left (to_call.Hear association) open_call after next (past, s) (also, t) =
      steps_alike w v call r a b alike numbered (λ x. heard script x association.0) (λ x. heard script x association.0) (each.heard association.0)
      (heard_next script a association.0) after next s t

pub events_alike : EventsAlike
events_alike script w v at left also_left call happens open_call treat after next o p =
    each_alike script w v (runs_numbered script at.events at.start w (opening_numbered script at.calls at.start at.opens) at.runs)
    (named_by_number script at.others at.history at.first v at.also_opens at.also_runs) call treat.renaming treat.one treat.other treat.alike at left also_left happens open_call after next o p

pub restarts_alike : RestartsAlike
restarts_alike script w v call treat after next o p = record {
  renaming = treat.renaming;
  one = treat.one;
  other = treat.other;
  alike = rw (o.1, p.1) (restarted_alike w v call treat.renaming treat.one treat.other treat.alike);
}
