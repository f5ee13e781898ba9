-- A request that reaches the gateway keeps messages numbered: its reply is the first with its number, or the kept one once more.
use Rattle.mg_safety.proofs.Words.{◌≡◌, ◌∙◌, ◌+◌, ◌<◌, ◌≤◌, ◌++◌, ◌==◌, ◌⊎◌, ℕ, false, List, [], ◌∷◌, length, Option, Some, refl, sym, ap, subst, arith, inl}
use Rattle.mg_safety.proofs.Words.{inr, Contains, eqb-true, eqb-false, ChosenRefusal, Gateway, CallLink, IsExecutedBy, last_executed, after_request, reply_of}
use Rattle.mg_safety.proofs.Words.{Request, Reply, SentNote, World, with_gateway, IsFirst, IsRepeat, Executes, the_some, at_one, at_another, fresh_is_open}
use Rattle.mg_safety.proofs.Words.{fresh_at, kept_at, number_of, only_one, by_test}
use Rattle.mg_safety.proofs.InvariantWords.{IsKnown}
use Rattle.mg_safety.proofs.Messages.Numbered.{one_once, both_once, AreNumberedOn, sent_on, notes_added, IsAnswered, RepliesAreNumbered, one_association}
use Rattle.mg_safety.proofs.Messages.Numbered.{reply_again, first_and_later}
use Rattle.mg_safety.proofs.Messages.NumberedWorlds.{IsNumbered}

module _ (w : World) (was : IsNumbered w) (request : Request) (among : Contains w.requests request) (chosen : Option ChosenRefusal) (gateway : Gateway)
    (answer : Reply) (sent : List SentNote) (x : IsExecutedBy w.gateway request chosen gateway answer sent) where
  abbrev call : ℕ
  call = request.call

  abbrev reply : Reply
  reply = reply_of request x.end x.failure

  abbrev changed : CallLink
  changed = record { last = Some reply; notes = (w.gateway.link call).notes + length x.end.notes }

  abbrev later : Gateway
  later = after_request w.gateway request x.end x.settled x.failure

  abbrev executed : World
  executed = record (with_gateway w later) { replies = reply ∷ w.replies; notes = sent ++ w.notes }

  current : request.association ≡ w.gateway.association
  current = (fresh_at w.gateway request x.is_fresh).0

  newer : last_executed w.gateway call < request.number
  newer = (fresh_at w.gateway request x.is_fresh).1

  is_open : w.gateway.retired call ≡ false
  is_open = fresh_is_open w.gateway request x.is_fresh

  is_answered : IsAnswered w.requests reply
  is_answered = (request, among, refl, refl, refl)

  -- no reply before has the request's number
  none_before : (y : Reply) → Contains w.replies y → y.call ≡ call → y.number ≡ request.number → ⊥
  none_before y there same also =
      let now : y.association ≡ w.gateway.association =
      one_association w.requests was.requests.once y reply (was.replies.answered y there) is_answered same also ∙ current in
      let old = was.replies.executed y there (ap w.gateway.retired same ∙ is_open) now in
      let below : y.number ≤ last_executed w.gateway call = subst (λ c. y.number ≤ number_of (w.gateway.link c).last) same old in
      let above = newer in omega (arith, below, above, also)

  -- what is kept of a call: the new reply, or what was kept of another one
  kept_at_call : (c : ℕ) (k : Reply) → (later.link c).last ≡ Some k → ((c ≡ call) × (reply ≡ k)) ⊎ ((c ≡ call → ⊥) × ((w.gateway.link c).last ≡ Some k))
  kept_at_call c k is = by_test (λ (l : CallLink). l.last ≡ Some k → ((c ≡ call) × (reply ≡ k)) ⊎ ((c ≡ call → ⊥) × ((w.gateway.link c).last ≡ Some k)))
      changed (w.gateway.link c) (c == call) (λ e here. inl (eqb-true c call e, the_some reply k here)) (λ e here. inr (eqb-false c call e, here)) is

  still_below : (y : Reply) → y.number ≤ number_of (w.gateway.link y.call).last → y.number ≤ number_of (later.link y.call).last
  still_below y below = by_test (λ (l : CallLink). y.number ≤ number_of l.last) changed (w.gateway.link y.call) (y.call == call)
      (λ e. let small : y.number ≤ last_executed w.gateway call = subst (λ c. y.number ≤ number_of (w.gateway.link c).last) (eqb-true y.call call e) below in
      let above = newer in omega (arith, small, above)) (λ e. below)

  kept_after : (c : ℕ) (k : Reply) → (later.link c).last ≡ Some k → (k.call ≡ c) × (k.association ≡ w.gateway.association) × IsAnswered w.requests k
  kept_after c k is = elim (kept_at_call c k is) [
    | inl here ↦ (
      ap (λ (y : Reply). y.call) (sym here.1) ∙ sym here.0,
      ap (λ (y : Reply). y.association) (sym here.1) ∙ current,
      subst (IsAnswered w.requests) here.1 is_answered,
    )
    | inr other ↦ was.replies.kept c k other.1
  ]

  old_same : (y k : Reply) → Contains w.replies y → (later.link y.call).last ≡ Some k → y.number ≡ k.number → y ≡ k
  old_same y k old is also = elim (kept_at_call y.call k is) [
    | inl here ↦ absurd (none_before y old here.0 (also ∙ ap (λ (z : Reply). z.number) (sym here.1)))
    | inr other ↦ was.replies.same_kept y k old other.1 also
  ]

  new_same : (k : Reply) → (later.link call).last ≡ Some k → reply ≡ k
  new_same k is = the_some reply k (ap (λ (link : CallLink). link.last) (sym (at_one call changed (w.gateway.link call))) ∙ is)

  replies_after : RepliesAreNumbered w.gateway.retired later.link w.gateway.association w.requests (reply ∷ w.replies)
  replies_after = record {
    kept = kept_after;
    answered = λ y there. first_and_later reply w.replies y (IsAnswered w.requests) is_answered (was.replies.answered y) there;
    past = λ y there. first_and_later reply w.replies y (λ (z : Reply). z.association ≤ w.gateway.association)
        (let now = current in omega (arith, now)) (was.replies.past y) there;
    executed = λ y there. first_and_later reply w.replies y
        (λ (z : Reply). w.gateway.retired z.call ≡ false → z.association ≡ w.gateway.association → z.number ≤ number_of (later.link z.call).last)
        (λ open_call now. subst (λ (link : CallLink). request.number ≤ number_of link.last) (sym (at_one call changed (w.gateway.link call))) (omega arith))
        (λ old open_call now. still_below y (was.replies.executed y old open_call now)) there;
    same_kept = λ y k there. first_and_later reply w.replies y (λ (z : Reply). (later.link z.call).last ≡ Some k → z.number ≡ k.number → z ≡ k)
        (λ is also. new_same k is) (old_same y k) there;
    once = both_once (λ (y : Reply). y.call) (λ (y : Reply). y.number) (reply ∷ []) w.replies (one_once (λ (y : Reply). y.call) (λ (y : Reply). y.number) reply)
        was.replies.once (λ y z at old same also. let is = only_one reply y at in
        absurd (none_before z old (sym same ∙ ap (λ (v : Reply). v.call) (sym is)) (sym also ∙ ap (λ (v : Reply). v.number) (sym is))));
  }

  pub executed_numbered : IsNumbered executed
  executed_numbered = record {
    agents = was.agents;
    open_calls = was.open_calls;
    held = was.held;
    requests = record { each_known = was.requests.each_known; below = was.requests.below; once = was.requests.once };
    replies = replies_after;
    notes = notes_added (IsKnown w) w.gateway.retired w.gateway.link later.link w.notes sent call ((w.gateway.link call).notes + length x.end.notes)
        (subst (AreNumberedOn call (w.gateway.link call).notes ((w.gateway.link call).notes + length x.end.notes)) (sym x.notes_are)
        (sent_on call request.association (w.gateway.link call).notes x.end.notes))
        (was.requests.each_known request among) is_open (ap (λ (link : CallLink). link.notes) (at_one call changed (w.gateway.link call)))
        (λ c differs. ap (λ (link : CallLink). link.notes) (at_another call c changed (w.gateway.link c) differs)) was.notes;
  }

first_numbered : (w after : World) (request : Request) (chosen : Option ChosenRefusal) → IsNumbered w → Contains w.requests request
    → IsFirst w request chosen after → IsNumbered after
first_numbered w after request chosen was among f =
    let x = f.executed in
    subst IsNumbered (sym (f.after_is
    ∙ ap (λ (g : Gateway). record (with_gateway w g) { replies = f.answer ∷ w.replies; notes = f.sent ++ w.notes }) x.after_is
    ∙ ap (λ (a : Reply). record (with_gateway w (after_request w.gateway request x.end x.settled x.failure)) {
      replies = a ∷ w.replies;
      notes = f.sent ++ w.notes;
    }) x.reply_is))
    (executed_numbered w was request among chosen f.gateway f.answer f.sent x)

repeat_numbered : (w after : World) (request : Request) → IsNumbered w → IsRepeat w request after → IsNumbered after
repeat_numbered w after request was again = subst IsNumbered (sym again.after_is) (record {
  agents = was.agents;
  open_calls = was.open_calls;
  held = was.held;
  requests = record { each_known = was.requests.each_known; below = was.requests.below; once = was.requests.once };
  replies = reply_again w.gateway.retired w.gateway.link w.gateway.association w.requests w.replies request.call again.answer
      (kept_at w.gateway request again.answer again.kept) was.replies;
  notes = record { each_known = was.notes.each_known; counted = was.notes.counted; once = was.notes.once };
})

pub execute_numbered : (w after : World) (request : Request) (chosen : Option ChosenRefusal) → IsNumbered w → Contains w.requests request
    → Executes w request chosen after → IsNumbered after
execute_numbered w after request chosen was among (inl first) = first_numbered w after request chosen was among first
execute_numbered w after request chosen was among (inr (inl again)) = repeat_numbered w after request was again
execute_numbered w after request chosen was among (inr (inr dropped)) = subst IsNumbered (sym dropped.1) was
