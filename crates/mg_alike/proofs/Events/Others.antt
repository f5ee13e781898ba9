-- An event of another call, and the opening: what they leave of a call that isn't theirs is as it was.
use Rattle.std.proofs.Common.{◌≡◌, ◌∙◌, ℕ, Bool, true, false, List, [], Option, Some, None, is_some, refl, sym, ap, subst, inl, inr, ◌||◌, ◌&&◌, ◌↔◌, not}
use Rattle.std.proofs.Common.{Contains, if◌then◌else◌}
use Rattle.mg_merge.proofs.Words.{Agent, AgentSteps, CallEvent, CallLink, ChosenRefusal, Contains-append_right, Entry, Eph, Executes, Gateway, IsFirst}
use Rattle.mg_merge.proofs.Words.{IsLineOf, IsOpening, IsRepeat, IsRequestOf, IsScript, Line, LineNo, OccursTo, Opened, Reply, Request, Row, Script, SentNote}
use Rattle.mg_merge.proofs.Words.{TermId, World, at_another, exists, false_not_true, handed_over, later_in, none_in, none_is_some, notes_from, opened, sent_in}
use Rattle.mg_merge.proofs.Words.{the_some}
use Rattle.mg_alike.proofs.Words.{AreSentInBoth, CallAlike, IsLeftAlone, IsOwnedBy, IsRetiredBy, IsSameFor, KeptAlike, OpeningsTreatAlike, OptionalRowsAlike}
use Rattle.mg_alike.proofs.Words.{OthersLeaveAlike, OwnAlike, Renaming}
use Rattle.mg_model.specs.Entries.{IsCovered}
use Rattle.mg_model.specs.declared.events.CallEvent.TheVariants as to_call
use Rattle.mg_safety.proofs.Certificate.Closed.{closed}
use Rattle.mg_safety.proofs.Events.Executing.{HasRun, not_call_of}
use Rattle.mg_safety.proofs.Events.ExecuteSound.{has_run}
use Rattle.mg_safety.proofs.Events.Handover.{handed_other, handed_from}
use Rattle.mg_safety.proofs.GoodWorlds.Beginning.{reached}
use Rattle.mg_safety.proofs.GoodWorlds.EveryRun.{commands_carry}
use Rattle.mg_safety.proofs.GoodWorlds.LeftAlone.{left_alone, others_kept}
use Rattle.mg_safety.proofs.Invariant.Sound.{IsSound, is_call}
use Rattle.mg_safety.proofs.Invariant.Statements.{IsClosed}
use Rattle.mg_safety.proofs.Requests.Run.{requests_run}
use Rattle.mg_alike.proofs.Events.LineEvents.{occurred}
use Rattle.mg_alike.proofs.Events.Kept.{step_of}

-- ---- what an event of another call leaves

pub record IsLeft (w after : World) (call : ℕ) : Type 0 where
  pub association : after.gateway.association ≡ w.gateway.association
  pub holds : (l : ℕ) → w.gateway.holder l ≡ Some call → after.gateway.holder l ≡ Some call
  pub held : (l : ℕ) → after.gateway.holder l ≡ Some call → w.gateway.holder l ≡ Some call
  pub line : (l : ℕ) → w.gateway.holder l ≡ Some call → after.gateway.line l ≡ w.gateway.line l
  pub creator : (x : ℕ) → after.gateway.creator x ≡ Some call → w.gateway.creator x ≡ Some call
  pub created : (x : ℕ) → w.gateway.creator x ≡ Some call → after.gateway.creator x ≡ Some call
  pub requests : (q : Request) → Contains w.requests q → Contains after.requests q
  pub replies : (q : Reply) → Contains w.replies q → Contains after.replies q
  pub notes : (n : SentNote) → Contains w.notes n → Contains after.notes n

left_itself : (w : World) (call : ℕ) → IsLeft w w call
left_itself w call = assumption

steps_left : (w after : World) (call other : ℕ) (step : Agent → Option Agent) → AgentSteps w other step after → IsLeft w after call
steps_left w after call other step s =
    subst (λ (x : World). IsLeft w x call) (sym s.after_is) (assumption (Contains-append_right (sent_in s.agent.phase) w.requests))

-- whose an ephemeral is after a request of another call
still_created : (stands stood : Bool) (was : Option ℕ) (other call : ℕ) → (other ≡ call → ⊥)
    → (if stands then (if stood then was else Some other) else None) ≡ Some call → was ≡ Some call
still_created true true was other call differ e = e
still_created true false was other call differ e = absurd (differ (the_some other call e))
still_created false stood was other call differ e = absurd (none_is_some call e)

still_there : (stands stood : Bool) (was : Option ℕ) (other : ℕ) → stands ≡ true → stood ≡ true → (if stands then (if stood then was else Some other) else None) ≡ was
still_there true true was other first second = refl
still_there true false was other first second = absurd (false_not_true second)
still_there false stood was other first second = absurd (false_not_true first)

not_its : (created now before : Bool) → created ≡ false → before ≡ true → (created || (now && not before)) ≡ false
not_its true now before e given = absurd (false_not_true (sym e))
not_its false true false e given = absurd (false_not_true given)
not_its _ _ _ e given = refl

module _ (script : Script) (entries : List Entry) (is_script : IsScript script) (closes : IsClosed script (IsCovered entries)) (w after : World) (sound : IsSound script (IsCovered entries) w)
    (call other : ℕ) (differ : other ≡ call → ⊥) where
  first_left : (request : Request) (number : ℕ) (chosen : Option ChosenRefusal) → IsRequestOf w other number request → IsFirst w request chosen after → IsLeft w after call
  first_left request number chosen of f = record {
    association = ap (λ (x : World). x.gateway.association) f.after_is ∙ ap (λ (g : Gateway). g.association) f.executed.after_is;
    holds = λ l e. holder l ∙ e;
    held = λ l e. sym (holder l) ∙ e;
    line = λ l e. ap (λ (x : World). x.gateway.line l) f.after_is ∙ ap (λ (g : Gateway). g.line l) f.executed.after_is
        ∙ h.run.other_lines l (not_call_of (w.gateway.holder l) call h.agent.call e (λ same. differ (sym of.1 ∙ sym h.call ∙ sym same)));
    creator = λ x e. still_created (exists f.executed.end.board (Eph x)) (exists w.gateway.board (Eph x)) (w.gateway.creator x) request.call call (λ same. differ (sym of.1 ∙ same))
        (sym (ap (λ (v : World). v.gateway.creator x) f.after_is ∙ ap (λ (g : Gateway). g.creator x) f.executed.after_is) ∙ e);
    created = λ x e. ap (λ (v : World). v.gateway.creator x) f.after_is ∙ ap (λ (g : Gateway). g.creator x) f.executed.after_is
        ∙ still_there (exists f.executed.end.board (Eph x)) (exists w.gateway.board (Eph x)) (w.gateway.creator x) request.call (stands x e) (sound.gateway.creator_stands x call e) ∙ e;
    requests = λ q there. subst (λ (list : List Request). Contains list q) (sym (ap (λ (x : World). x.requests) f.after_is)) there;
    replies = λ q there. subst (λ (list : List Reply). Contains list q) (sym (ap (λ (x : World). x.replies) f.after_is)) (later_in f.answer w.replies q there);
    notes = λ n there. rw (ap (λ (x : World). x.notes) f.after_is) (Contains-append_right f.sent w.notes n there);
  }
    where
      h : HasRun script (IsCovered entries) w request f.executed.end f.executed.failure
      h = has_run (requests_run commands_carry) script (IsCovered entries) is_script closes w request chosen f.gateway f.answer f.sent sound of.0 f.executed

      stands : (x : ℕ) → w.gateway.creator x ≡ Some call → exists f.executed.end.board (Eph x) ≡ true
      stands x e =
          let stood = sound.gateway.creator_stands x call e in
          ap is_some (h.run.changes.row (Eph x) (not_its (is_call (w.gateway.creator x) h.agent.call) (f.executed.end.board.used_ephemeral x) (w.gateway.board.used_ephemeral x)
          (not_call_of (w.gateway.creator x) call h.agent.call e (λ same. differ (sym of.1 ∙ sym h.call ∙ sym same))) (sound.gateway.accounted.ephemerals x stood))) ∙ stood

      holder : (l : ℕ) → after.gateway.holder l ≡ w.gateway.holder l
      holder l = ap (λ (x : World). x.gateway.holder l) f.after_is ∙ ap (λ (g : Gateway). g.holder l) f.executed.after_is

  repeat_left : (request : Request) → IsRepeat w request after → IsLeft w after call
  repeat_left request f = subst (λ (x : World). IsLeft w x call) (sym f.after_is) (assumption (later_in f.answer w.replies))

  execute_left : (request : Request) (number : ℕ) (chosen : Option ChosenRefusal) → IsRequestOf w other number request → Executes w request chosen after → IsLeft w after call
  execute_left request number chosen of (inl f) = first_left request number chosen of f
  execute_left request number chosen of (inr (inl f)) = repeat_left request f
  execute_left request number chosen of (inr (inr f)) = subst (λ (x : World). IsLeft w x call) (sym f.1) (left_itself w call)

  event_left : (happens : CallEvent) → (IsRetiredBy happens call → ⊥) → OccursTo script w other happens after → IsLeft w after call
  event_left (to_call.OnLine line event) stays (held, o) =
      let it = occurred w line.0 other event after held o in
      subst (λ (x : World). IsLeft w x call) (sym it.after_is) (assumption (
        λ (l : ℕ) (e : w.gateway.holder l ≡ Some call). at_another line.0 l it.outcome.row (w.gateway.line l)
            (λ is. differ (the_some other call (sym held ∙ ap w.gateway.holder (sym is) ∙ e))),
        Contains-append_right (notes_from w.gateway other line.0 it.outcome.note) w.notes,
      ))
  event_left (to_call.Execute number chosen) stays (request, of, executes) = execute_left request number chosen of executes
  event_left (to_call.Begin old) stays b = subst (λ (x : World). IsLeft w x call) (sym b.after_is) (assumption (
    λ (l : ℕ) (e : w.gateway.holder l ≡ Some call). handed_other old.0 other call (w.gateway.holder l) e (λ is. stays (sym is)),
    was_held,
  ))
    where
      was_held : (l : ℕ) → handed_over old.0 other (w.gateway.holder l) ≡ Some call → w.gateway.holder l ≡ Some call
      was_held l e = elim (handed_from old.0 other (w.gateway.holder l) call e) [
        | inl new ↦ absurd (differ (sym new.1))
        | inr same ↦ same.0
      ]
  event_left happens stays occurs = steps_left w after call other _ (step_of script w after other happens tt occurs).1

-- ---- so it leaves them alike

still_sent : {A : Type 0} (of : A → ℕ) (call : ℕ) (alike : A → A → Type 0) (sent now others : List A) → ((x : A) → Contains sent x → Contains now x)
    → ((x : A) → of x ≡ call → Contains now x → Contains sent x) → AreSentInBoth of call alike sent others → AreSentInBoth of call alike now others
still_sent of call alike sent now others on back before = record {
  onward = λ x there its. before.onward x (back x its there) its;
  back = λ y there its. let x = before.back y there its in (x.0, on x.0 x.1, x.2);
}

module _ (w v after : World) (call : ℕ) (r : Renaming) (a b : Agent) (alike : CallAlike r w v call a b) (left : IsLeft w after call) (same : IsSameFor w after call)
    (kept : IsLeftAlone w after call) where
  was_own : (t u : TermId) → OwnAlike r after v call t u → OwnAlike r w v call t u
  was_own (Line l) (Line m) own = (own.0, left.held l.0 own.1)
  was_own (Eph x) (Eph y) own = (own.0, left.creator x own.1, own.2)
  was_own _ _ own = absurd own

  row_same : (t u : TermId) → OwnAlike r after v call t u → after.gateway.board.row t ≡ w.gateway.board.row t
  row_same (Line l) (Line m) own = kept.row (Line l) (left.held l.0 own.1)
  row_same (Eph x) (Eph y) own = kept.row (Eph x) (left.creator x own.1)
  row_same _ _ own = absurd own

  owned : (t u : TermId) → OwnAlike r after v call t u → IsOwnedBy w call t
  owned (Line l) (Line m) own = left.held l.0 own.1
  owned (Eph x) (Eph y) own = left.creator x own.1
  owned _ _ own = absurd own

  pub left_alike : CallAlike r after v call a b
  left_alike = record {
    renaming = alike.renaming;
    open_one = same.agent ∙ alike.open_one;
    open_other = alike.open_other;
    agents = alike.agents;
    association = alike.association ∙ sym left.association;
    kept = subst (λ (link : CallLink). KeptAlike r link.last (v.gateway.link call).last) (sym same.link) alike.kept;
    count = alike.count ∙ sym (ap (λ (link : CallLink). link.notes) same.link);
    held = λ l. ((λ e. (alike.held l).0 (left.held l e)), (λ e. left.holds l ((alike.held l).1 e)));
    lines = λ l e. alike.lines l (left.held l e) ∙ sym (left.line l (left.held l e));
    rows = λ t u own. subst (λ (o : Option Row). OptionalRowsAlike r t o (v.gateway.board.row u)) (sym (row_same t u own)) (alike.rows t u (was_own t u own));
    created = λ x e. alike.created x (left.creator x e);
    created_back = λ y e. let x = alike.created_back y e in (x.0, x.1, left.created x.0 x.2);
    cuts = λ t u s x first second. alike.cuts t u s x (was_own t u first) (was_own s x second) ∙ sym (kept.cut t s (owned t u first) (owned s x second));
    requests = still_sent (λ (q : Request). q.call) call _ w.requests after.requests v.requests left.requests same.requests alike.requests;
    replies = still_sent (λ (q : Reply). q.call) call _ w.replies after.replies v.replies left.replies same.replies alike.replies;
    notes = still_sent (λ (n : SentNote). n.call) call _ w.notes after.notes v.notes left.notes same.notes alike.notes;
  }

pub others_alike : OthersLeaveAlike
others_alike script w v at call other happens differ stays treat after occurs = record {
  renaming = treat.renaming;
  one = treat.one;
  other = treat.other;
  alike = left_alike w v after call treat.renaming treat.one treat.other treat.alike
      (event_left script at.entries at.is_script (closed script at.entries at.is_script at.listed at.none_broken) w after
      (reached script at.entries at.is_script at.listed at.none_broken at.calls at.events at.start w at.opens at.runs) call other differ happens stays occurs)
      (others_kept script at.calls at.events at.start w after at.opens at.runs other call happens occurs differ stays)
      (left_alone script at.entries at.is_script at.listed at.none_broken at.calls at.events at.start w after at.opens at.runs other call happens occurs differ);
}

-- ---- openings

abbrev nothing_renamed : Renaming
nothing_renamed = record { contexts = λ c d. false; ephemerals = λ x y. false }

none_sent : {A : Type 0} (of : A → ℕ) (call : ℕ) (alike : A → A → Type 0) (sent others : List A) → sent ≡ [] → others ≡ [] → AreSentInBoth of call alike sent others
none_sent of call alike sent others none also = record {
  onward = λ x there its. absurd (none_in x (subst (λ (list : _). Contains list x) none there));
  back = λ y there its. absurd (none_in y (subst (λ (list : _). Contains list y) also there));
}

module _ (script : Script) (one : Opened) where
  line_too : (calls others : List Opened) (w : World) → IsOpening script calls w → Contains calls one → Contains others one → (l : ℕ) → IsLineOf script calls l one.call
      → IsLineOf script others l one.call
  line_too calls others w opens among there l x =
      let same : x.one ≡ one = opens.distinct.calls_differ x.one one x.among among x.is_call in
      record {
        one = one;
        i = x.i;
        among = there;
        is_call = refl;
        within = x.within;
        is_line = sym (ap (λ (o : Opened). o.lines x.i) same) ∙ x.is_line;
      }

  module _ (calls others : List Opened) (w v : World) (opens : IsOpening script calls w) (also : IsOpening script others v) (among : Contains calls one) (there : Contains others one) where
    abbrev a : Agent
    a = opened script one.call one.lines

    held_too : (l : ℕ) → (w.gateway.holder l ≡ Some one.call) ↔ (v.gateway.holder l ≡ Some one.call)
    held_too l = (
      λ e. (also.lines.held l one.call).1 (line_too calls others w opens among there l ((opens.lines.held l one.call).0 e)),
      λ e. (opens.lines.held l one.call).1 (line_too others calls v also there among l ((also.lines.held l one.call).0 e)),
    )

    rows_too : (t u : TermId) → OwnAlike nothing_renamed w v one.call t u → OptionalRowsAlike nothing_renamed t (w.gateway.board.row t) (v.gateway.board.row u)
    rows_too (Line l) (Line m) own =
        subst (λ (o : Option Row). OptionalRowsAlike nothing_renamed (Line l) o (v.gateway.board.row (Line m))) (sym (opens.lines.stand l.0 one.call own.1))
        (rw (also.lines.stand m.0 one.call ((held_too m.0).0 (subst (λ (k : LineNo). w.gateway.holder k.0 ≡ Some one.call) own.0 own.1)))
        (record { place = inl (refl, refl); mode = refl; remote = tt }))
    rows_too (Eph x) (Eph y) own = absurd (false_not_true own.0)
    rows_too _ _ own = absurd own

    opened_alike : CallAlike nothing_renamed w v one.call (opened script one.call one.lines) (opened script one.call one.lines)
    opened_alike = record {
      renaming = record {
        contexts = record { onward = λ x y z e f. absurd (false_not_true e); back = λ x y z e f. absurd (false_not_true e) };
        ephemerals = record { onward = λ x y z e f. absurd (false_not_true e); back = λ x y z e f. absurd (false_not_true e) };
        numbers = λ x y e. absurd (false_not_true e);
      };
      open_one = opens.agents.opened one among;
      open_other = also.agents.opened one there;
      agents = assumption;
      association = also.gateway.association ∙ sym opens.gateway.association;
      kept = subst (λ (o : Option Reply). KeptAlike nothing_renamed o (v.gateway.link one.call).last) (sym (ap (λ (link : ℕ → CallLink). (link one.call).last) opens.gateway.no_reply_kept))
          (rw (ap (λ (link : ℕ → CallLink). (link one.call).last) also.gateway.no_reply_kept) tt);
      count = ap (λ (link : ℕ → CallLink). (link one.call).notes) also.gateway.no_reply_kept ∙ sym (ap (λ (link : ℕ → CallLink). (link one.call).notes) opens.gateway.no_reply_kept);
      held = held_too;
      lines = λ l e. also.lines.armed l one.call ((held_too l).0 e) ∙ sym (opens.lines.armed l one.call e);
      rows = rows_too;
      created = λ x e. absurd (none_is_some one.call (sym (ap (λ (creator : ℕ → Option ℕ). creator x) opens.gateway.no_creator) ∙ e));
      created_back = λ y e. absurd (none_is_some one.call (sym (ap (λ (creator : ℕ → Option ℕ). creator y) also.gateway.no_creator) ∙ e));
      cuts = λ t u s x first second. ap (λ (cut : TermId → TermId → Bool). cut u x) also.gateway.nothing_cut ∙ sym (ap (λ (cut : TermId → TermId → Bool). cut t s) opens.gateway.nothing_cut);
      requests = none_sent (λ (q : Request). q.call) one.call _ w.requests v.requests opens.messages.no_request also.messages.no_request;
      replies = none_sent (λ (q : Reply). q.call) one.call _ w.replies v.replies opens.messages.no_answer also.messages.no_answer;
      notes = none_sent (λ (n : SentNote). n.call) one.call _ w.notes v.notes opens.messages.no_note also.messages.no_note;
    }

pub openings_alike : OpeningsTreatAlike
openings_alike script calls others one w v opens also among there = record {
  renaming = nothing_renamed;
  one = opened script one.call one.lines;
  other = opened script one.call one.lines;
  alike = opened_alike script one calls others w v opens also among there;
}
