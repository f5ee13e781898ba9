-- No two ephemerals of different calls name each other: a Remote is only ever set to an ephemeral of the setter, and what the setter's
-- ephemerals name at the end of its request is its own, or is no more.
use Rattle.mg_safety.proofs.Words.{◌≡◌, ◌∙◌, ◌==◌, ℕ, Bool, true, false, Option, Some, None, refl, sym, ap, subst, true≢false, if◌then◌else◌, eqb-true}
use Rattle.mg_safety.proofs.Words.{eqb-false, eq-eqb, Eph, Remote, Unset, Gone, To, Board, exists, remote_of, remote_in, Configuration, Gateway, Script}
use Rattle.mg_safety.proofs.Words.{none_is_some, the_some}
use Rattle.mg_safety.proofs.InvariantWords.{Naming, Shown, RemoteReads, IsAccounted, owned_at, row_on, eph_of, is_call, owner_of, owned_in, IsOwnChange}
use Rattle.mg_safety.proofs.Events.Others.{is_call_of, created_only, apart_at, owners_agree}

-- of another call than the one that changed things it was so before
creator_was : (stands before : Bool) (was : Option ℕ) (call one : ℕ) → (if stands then (if before then was else Some call) else None) ≡ Some one
    → (one ≡ call → ⊥) → was ≡ Some one
creator_was true true was call one e apart = e
creator_was true false was call one e apart = absurd (apart (the_some one call (sym e)))
creator_was false before was call one e apart = absurd (none_is_some one e)

module _ (script : Script) (g : Gateway) (end : Board) (after : Gateway) (call : ℕ) (own : IsOwnChange g end after call) (accounted : IsAccounted end)
    (n : Naming) (c : Configuration) (shown : Shown script (owned_at (owner_of g call) end) n end c) where
  owned_of : (x : ℕ) → exists end (Eph x) ≡ true → after.creator x ≡ Some call → owned_at (owner_of g call) end (Eph x) ≡ true
  owned_of x there is =
      sym (owners_agree g end after call accounted own (Eph x) there) ∙ created_only (is_call (after.creator x) call) (after.board.used_ephemeral x)
      ∙ ap (λ (o : Option ℕ). is_call o call) is ∙ eq-eqb call call refl

  creator_of : (x : ℕ) → exists end (Eph x) ≡ true → owned_at (owner_of g call) end (Eph x) ≡ true → after.creator x ≡ Some call
  creator_of x there its = is_call_of (after.creator x) call
      (sym (created_only (is_call (after.creator x) call) (after.board.used_ephemeral x)) ∙ owners_agree g end after call accounted own (Eph x) there ∙ its)

  -- what the call's ephemerals name, and exists, is the call's
  names_own : (x y : ℕ) → exists end (Eph x) ≡ true → after.creator x ≡ Some call → remote_of end (Eph x) ≡ Some y → exists end (Eph y) ≡ true
      → after.creator y ≡ Some call
  names_own x y there is remote stands = at (c.remote named.0) refl
      (subst (RemoteReads end n (c.remote named.0)) reads (shown.remote named.0 (shown.ephemeral_slot named.0 x named.1)))
    where
      named : (k : ℕ) × (n.ephemerals k ≡ Some x)
      named = shown.ephemeral_named x (owned_of x there is) there

      reads : remote_in (row_on end (eph_of (n.ephemerals named.0))) ≡ Some y
      reads = ap (λ o. remote_in (row_on end (eph_of o))) named.1 ∙ remote

      at : (r : Remote) → c.remote named.0 ≡ r → RemoteReads end n r (Some y) → after.creator y ≡ Some call
      at Unset e here = absurd (none_is_some y (sym here))
      at Gone e here = absurd (true≢false (sym stands ∙ ap (λ z. exists end (Eph z)) (the_some y here.0 here.1) ∙ here.2))
      at (To i) e here = creator_of y stands (shown.ephemeral_owned i y (here.2 ∙ sym here.1))

  -- another call's are as they were
  as_before : (x one : ℕ) → exists end (Eph x) ≡ true → after.creator x ≡ Some one → (one ≡ call → ⊥)
      → (g.creator x ≡ Some one) × (remote_of end (Eph x) ≡ remote_of g.board (Eph x))
  as_before x one there is apart =
      let was : g.creator x ≡ Some one =
      creator_was (exists end (Eph x)) (g.board.used_ephemeral x) (g.creator x) call one (sym (own.creator x) ∙ is) apart in
      let its : owned_in g one (Eph x) ≡ true =
      created_only (is_call (g.creator x) one) (g.board.used_ephemeral x) ∙ ap (λ (o : Option ℕ). is_call o one) was ∙ eq-eqb one one refl in
      (was, ap remote_in (own.changes.row (Eph x) (apart_at g end after call one own (λ e. apart (sym e)) (Eph x) its end)))

  pub stay_apart : ((x y one other : ℕ) → g.creator x ≡ Some one → g.creator y ≡ Some other → (one ≡ other → ⊥)
      → remote_of g.board (Eph x) ≡ Some y → remote_of g.board (Eph y) ≡ Some x → ⊥)
      → (x y one other : ℕ) → exists end (Eph x) ≡ true → exists end (Eph y) ≡ true → after.creator x ≡ Some one → after.creator y ≡ Some other
      → (one ≡ other → ⊥) → remote_of end (Eph x) ≡ Some y → remote_of end (Eph y) ≡ Some x → ⊥
  stay_apart before x y one other first second of_one of_other differ there back = by_calls (one == call) refl (other == call) refl
    where
      by_calls : (p : Bool) → (one == call) ≡ p → (q : Bool) → (other == call) ≡ q → ⊥
      by_calls true e q f =
          let same : one ≡ call = eqb-true one call e in
          let other_is = names_own x y first (of_one ∙ ap (λ k. Some k) same) there second in
          differ (same ∙ the_some call other (sym other_is ∙ of_other))
      by_calls false e true f =
          let same : other ≡ call = eqb-true other call f in
          let one_is = names_own y x second (of_other ∙ ap (λ k. Some k) same) back first in
          differ (sym (the_some call one (sym one_is ∙ of_one)) ∙ sym same)
      by_calls false e false f =
          let a = as_before x one first of_one (eqb-false one call e) in
          let b = as_before y other second of_other (eqb-false other call f) in
          before x y one other a.0 b.0 differ (sym a.1 ∙ there) (sym b.1 ∙ back)
