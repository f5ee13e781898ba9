-- The worlds after a request that both gateways executed: they treat its call alike, by the renaming that the two runs leave.
use Rattle.std.proofs.Common.{◌≡◌, ◌∙◌, ◌+◌, ◌++◌, ℕ, Bool, true, List, ◌∷◌, length, Option, Some, refl, sym, ap, subst, inl, inr, Contains}
use Rattle.mg_merge.proofs.Words.{Agent, Board, CallLink, Contains-append_cases, Contains-append_left, Contains-append_right, Eph, Failure, Gateway, IsSettled}
use Rattle.mg_merge.proofs.Words.{Line, Phase, RaisedNote, Reply, Request, Running, Script, SentNote, TermId, World, after_request, at_one, eq-eqb, first_in}
use Rattle.mg_merge.proofs.Words.{first_or_later, later_in, reply_of, sent_notes}
use Rattle.mg_alike.proofs.Words.{AgentsAlike, AreSentInBoth, CallAlike, KeptAlike, OptionsAlike, OwnAlike, PhasesAlike, Renaming, RepliesAlike, SameReply}
use Rattle.mg_alike.proofs.Words.{TermsAlike, anything, is_awaited}
use Rattle.mg_safety.proofs.Events.Executing.{link_made}
use Rattle.mg_safety.proofs.Events.ExecutedCalls.{world_after}
use Rattle.mg_safety.proofs.Invariant.Sound.{is_call}
use Rattle.mg_alike.proofs.Requests.OneCommand.{RunningAlike}
use Rattle.mg_alike.proofs.Shared.Pairs.{IsWider, results_more}

-- ---- replies

pub anything_wider : (r : Renaming) → IsWider r anything
anything_wider r = record { contexts = λ x y is. refl; ephemerals = λ x y is. refl }

pub reply_shape : (r : Renaming) (one other : Reply) → RepliesAlike r one other → RepliesAlike anything one other
reply_shape r one other alike = assumption (results_more r anything (anything_wider r) one.results other.results alike.results)

-- one more message in both
pub sent_more : {A : Type 0} (of : A → ℕ) (call : ℕ) (alike wide : A → A → Type 0) (one other : A) (sent others : List A) → wide one other
    → ((x y : A) → alike x y → of y ≡ of x) → ((x y : A) → Contains sent x → of x ≡ call → alike x y → wide x y) → AreSentInBoth of call alike sent others
    → AreSentInBoth of call wide (one ∷ sent) (other ∷ others)
sent_more of call alike wide one other sent others new same still before = record { onward = onward; back = back }
  where
    onward : (x : _) → Contains (one ∷ sent) x → of x ≡ call → (y : _) × Contains (other ∷ others) y × wide x y
    onward x there its = elim (first_or_later one sent x there) [
      | inl is ↦ (other, first_in other others, subst (λ z. wide z other) is new)
      | inr later ↦ (let y = before.onward x later its in (y.0, later_in other others y.0 y.1, still x y.0 later its y.2))
    ]

    back : (y : _) → Contains (other ∷ others) y → of y ≡ call → (x : _) × Contains (one ∷ sent) x × wide x y
    back y there its = elim (first_or_later other others y there) [
      | inl is ↦ (one, first_in one sent, subst (λ z. wide one z) is new)
      | inr later ↦ (let x = before.back y later its in (x.0, later_in one sent x.0 x.1, still x.0 y x.1 (sym (same x.0 y x.2) ∙ its) x.2))
    ]

-- one more reply in both
pub one_more : (r wide : Renaming) (phase its : Phase) (call : ℕ) (one other : Reply) (sent others : List Reply) → RepliesAlike wide one other
    → ((x y : Reply) → Contains sent x → x.call ≡ call → SameReply r phase x y → SameReply wide its x y)
    → AreSentInBoth (λ (q : Reply). q.call) call (SameReply r phase) sent others
    → AreSentInBoth (λ (q : Reply). q.call) call (SameReply wide its) (one ∷ sent) (other ∷ others)
one_more r wide phase its call one other sent others new still before =
    sent_more (λ (q : Reply). q.call) call (SameReply r phase) (SameReply wide its) one other sent others
    (record { shape = reply_shape wide one other new; awaited = λ e. new }) (λ x y same. same.shape.call) still before

-- the same notes more in both
pub more_notes : (call : ℕ) (new other sent others : List SentNote) → new ≡ other
    → AreSentInBoth (λ (n : SentNote). n.call) call (λ (x y : SentNote). x ≡ y) sent others
    → AreSentInBoth (λ (n : SentNote). n.call) call (λ (x y : SentNote). x ≡ y) (new ++ sent) (other ++ others)
more_notes call new other sent others same before = record { onward = onward; back = back }
  where
    onward : (x : SentNote) → Contains (new ++ sent) x → x.call ≡ call → (y : SentNote) × Contains (other ++ others) y × (x ≡ y)
    onward x there of = elim (Contains-append_cases new sent x there) [
      | inl first ↦ (x, Contains-append_left other others x (subst (λ (l : List SentNote). Contains l x) same first), refl)
      | inr later ↦ (let y = before.onward x later of in (y.0, Contains-append_right other others y.0 y.1, y.2))
    ]

    back : (y : SentNote) → Contains (other ++ others) y → y.call ≡ call → (x : SentNote) × Contains (new ++ sent) x × (x ≡ y)
    back y there of = elim (Contains-append_cases other others y there) [
      | inl first ↦ (y, Contains-append_left new sent y (subst (λ (l : List SentNote). Contains l y) (sym same) first), refl)
      | inr later ↦ (let x = before.back y later of in (x.0, Contains-append_right new sent x.0 x.1, x.2))
    ]

-- ---- the link

pub link_is : (g : Gateway) (request : Request) (end : Running) (settled : Board) (failure : Option Failure) (call : ℕ) → request.call ≡ call
    → (after_request g request end settled failure).link call ≡ link_made g request end failure
link_is g request end settled failure call of =
    ap (λ (n : ℕ). (after_request g request end settled failure).link n) (sym of)
    ∙ at_one request.call (link_made g request end failure) (g.link request.call)

-- ---- the worlds

module _ (script : Script) (w v : World) (call : ℕ) (r : Renaming) (a b : Agent) (alike : CallAlike r w v call a b) (q p : Request) (of : q.call ≡ call) (its : p.call ≡ call)
    (association : p.association ≡ q.association) (number : p.number ≡ q.number) (end last : Running) (settled also : Board) (failure other : Option Failure)
    (is_settled : IsSettled end.board settled) (also_settled : IsSettled last.board also) (wide : Renaming)
    (running : RunningAlike wide (λ l. is_call (w.gateway.holder l) call) end last) (same : other ≡ failure)
    (contexts : (j : ℕ) → OptionsAlike wide.contexts (a.contexts j) (b.contexts j)) (ephemerals : (k : ℕ) → OptionsAlike wide.ephemerals (a.ephemerals k) (b.ephemerals k))
    (created : (x : ℕ) → (world_after w q end settled failure).gateway.creator x ≡ Some call
    → (y : ℕ) × (wide.ephemerals x y ≡ true) × ((world_after v p last also other).gateway.creator y ≡ Some call))
    (created_back : (y : ℕ) → (world_after v p last also other).gateway.creator y ≡ Some call
    → (x : ℕ) × (wide.ephemerals x y ≡ true) × ((world_after w q end settled failure).gateway.creator x ≡ Some call))
    (phases : PhasesAlike wide a.phase b.phase) (unanswered : (x : Reply) → Contains w.replies x → x.call ≡ call → is_awaited a.phase x ≡ true → ⊥) where
  new_reply : RepliesAlike wide (reply_of q end failure) (reply_of p last other)
  new_reply = assumption (its ∙ sym of)

  agents : AgentsAlike wide a b
  agents = assumption

  holds : (l : ℕ) → w.gateway.holder l ≡ Some call → is_call (w.gateway.holder l) call ≡ true
  holds l held = ap (λ (o : Option ℕ). is_call o call) held ∙ eq-eqb call call refl

  terms : (t u : TermId) → OwnAlike wide (world_after w q end settled failure) (world_after v p last also other) call t u
      → TermsAlike wide (λ l. is_call (w.gateway.holder l) call) t u
  terms (Line l) (Line m) own = (own.0, holds l.0 own.1)
  terms (Eph x) (Eph y) own = own.0
  terms _ _ own = absurd own

  kept : KeptAlike wide ((after_request w.gateway q end settled failure).link call).last ((after_request v.gateway p last also other).link call).last
  kept =
      rw (ap (λ (link : CallLink). link.last) (link_is w.gateway q end settled failure call of))
      (rw (ap (λ (link : CallLink). link.last) (link_is v.gateway p last also other call its)) new_reply)

  counts : (v.gateway.link p.call).notes ≡ (w.gateway.link q.call).notes
  counts =
      ap (λ (n : ℕ). (v.gateway.link n).notes) its ∙ alike.count ∙ ap (λ (n : ℕ). (w.gateway.link n).notes) (sym of)

  count : ((after_request v.gateway p last also other).link call).notes ≡ ((after_request w.gateway q end settled failure).link call).notes
  count =
      ap (λ (link : CallLink). link.notes) (link_is v.gateway p last also other call its)
      ∙ ap (λ (n : ℕ). n + length last.notes) counts
      ∙ ap (λ (notes : List RaisedNote). (w.gateway.link q.call).notes + length notes) running.notes
      ∙ sym (ap (λ (link : CallLink). link.notes) (link_is w.gateway q end settled failure call of))

  new_notes : sent_notes q.call q.association (w.gateway.link q.call).notes end.notes ≡ sent_notes p.call p.association (v.gateway.link p.call).notes last.notes
  new_notes =
      ap (λ (n : ℕ). sent_notes n q.association (w.gateway.link q.call).notes end.notes) (of ∙ sym its)
      ∙ ap (λ (n : ℕ). sent_notes p.call n (w.gateway.link q.call).notes end.notes) (sym association)
      ∙ ap (λ (n : ℕ). sent_notes p.call p.association n end.notes) (sym counts)
      ∙ ap (λ (notes : List RaisedNote). sent_notes p.call p.association (v.gateway.link p.call).notes notes) (sym running.notes)

  pub after_alike : CallAlike wide (world_after w q end settled failure) (world_after v p last also other) call a b
  after_alike = record {
    renaming = running.renaming;
    open_one = alike.open_one;
    open_other = alike.open_other;
    agents = agents;
    association = alike.association;
    kept = kept;
    count = count;
    held = alike.held;
    lines = λ l held. running.lines l (holds l held);
    rows = λ t u own.
        rw (is_settled.row, also_settled.row) (running.boards.rows t u (terms t u own));
    created = created;
    created_back = created_back;
    cuts = λ t u s x first second.
        ap (λ (cuts : TermId → TermId → Bool). cuts u x) also_settled.cut ∙ running.boards.cuts t u s x (terms t u first) (terms s x second)
        ∙ sym (ap (λ (cuts : TermId → TermId → Bool). cuts t s) is_settled.cut);
    requests = alike.requests;
    replies = one_more r wide a.phase a.phase call (reply_of q end failure) (reply_of p last other) w.replies v.replies new_reply
        (λ x y there its_call was. record { shape = was.shape; awaited = λ e. absurd (unanswered x there its_call e) }) alike.replies;
    notes = more_notes call (sent_notes q.call q.association (w.gateway.link q.call).notes end.notes)
        (sent_notes p.call p.association (v.gateway.link p.call).notes last.notes) w.notes v.notes new_notes alike.notes;
  }
