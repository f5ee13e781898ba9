-- The start of a request. No name is stale then and no Remote is gone, so whatever is seen is shown as long as the request runs.
use Rattle.mg_safety.proofs.Words.{◌≡◌, ◌∙◌, ◌<◌, ℕ, Bool, true, Option, Some, None, is_some, refl, sym, ap, subst, arith, true≢false, inl, inr, not}
use Rattle.mg_safety.proofs.Words.{unwrap_or, ContextValue, Free, Live, Stale, TermId, Termination, Remote, Unset, Gone, To, Absent, In, IsSlot, Board}
use Rattle.mg_safety.proofs.Words.{place_of, place_in, remote_in, Configuration, IsWellFormed, is_in, is_free, is_live, terminations, IsLive, Script, is_in_is}
use Rattle.mg_safety.proofs.Words.{Any-from_list_any}
use Rattle.mg_safety.proofs.InvariantWords.{Naming, Shown, Seen, RemoteReads, RemoteSeen, IsAccounted, row_on, term_of, eph_of, number_at, IsOfScript}
use Rattle.mg_safety.proofs.Certificate.Declared.{slot_or_not}

-- what is in a context is a slot of the script
slot_of : (script : Script) (c : Configuration) → IsOfScript script c → (t : Termination) (j : ℕ) → c.spot t ≡ In j → IsSlot script t
slot_of script c of_script t j e = elim (slot_or_not script t) [
  | inl slot ↦ slot
  | inr undeclared ↦ (let apart : In j ≡ Absent = sym e ∙ of_script.spot t undeclared in absurd (cc))
]

-- one of the call's terminations, and that it stands in a context
pub record Stander (script : Script) (c : Configuration) (j : ℕ) : Type 0 where
  pub v : Termination
  pub slot : IsSlot script v
  pub at : c.spot v ≡ In j

-- in a context that is live one of them stands
pub stander : (script : Script) (c : Configuration) → IsWellFormed c → IsOfScript script c → (j : ℕ) → is_live (c.context j) ≡ true → Stander script c j
stander script c formed of_script j live =
    let some = Any-from_list_any (λ t. is_in (c.spot t) j) terminations (sym (formed.live j) ∙ live) in
    let at = is_in_is (c.spot some.1) j some.4 in
    record { v = some.1; slot = slot_of script c of_script some.1 j at; at = at }

module _ (script : Script) (owned : TermId → Bool) (n : Naming) (b : Board) (c : Configuration) (seen : Seen script owned n b c)
    (accounted : IsAccounted b) where
  -- a context in which one of the call's terminations stands is in use
  pub spot_used : (v : Termination) (j x : ℕ) → IsSlot script v → c.spot v ≡ In j → n.contexts j ≡ Some x → b.used_context x ≡ true
  spot_used v j x slot at bound = by_term (term_of n v) (seen.place v slot ∙ ap (number_at n) at ∙ ap (λ (o : Option ℕ). unwrap_or o 0) bound)
    where
      by_term : (o : Option TermId) → place_in (row_on b o) ≡ x → b.used_context x ≡ true
      by_term None reads = absurd (let above : 0 < x = (seen.context_number j x bound).0 in let none : 0 ≡ x = reads in omega (arith, above, none))
      by_term (Some t) reads = subst (λ (y : ℕ). b.used_context y ≡ true) reads (accounted.contexts t (λ e.
          absurd (let above : 0 < x = (seen.context_number j x bound).0 in let stands : place_of b t ≡ x = reads in omega (arith, above, stands, e))))

module _ (script : Script) (owned : TermId → Bool) (n : Naming) (b : Board) (c : Configuration) (seen : Seen script owned n b c)
    (formed : IsWellFormed c) (of_script : IsOfScript script c) (accounted : IsAccounted b) where
  module _ (names : IsLive c) where
    -- a name that is bound is live
    bound_live : (j x : ℕ) → n.contexts j ≡ Some x → c.context j ≡ Live
    bound_live j x bound = at (c.context j) refl (sym (ap is_some bound) ∙ seen.bound j)
      where
        at : (v : ContextValue) → c.context j ≡ v → true ≡ not (is_free (c.context j)) → c.context j ≡ Live
        at Live e here = e
        at Stale e here = absurd (names.contexts j e)
        at Free e here = absurd (true≢false (here ∙ ap (λ v. not (is_free v)) e))

    -- so one of the call's terminations stands in it
    bound_stander : (j x : ℕ) → n.contexts j ≡ Some x → Stander script c j
    bound_stander j x bound = stander script c formed of_script j (ap is_live (bound_live j x bound))

    reads : (k : ℕ) (r : Remote) (remote : Option ℕ) → c.remote k ≡ r → RemoteSeen n r remote → RemoteReads b n r remote
    reads k Unset remote e here = here
    reads k Gone remote e here = absurd (names.remotes k e)
    reads k (To i) remote e here = here

    pub shown_at_start : Shown script owned n b c
    shown_at_start = record {
      stands = seen.stands;
      place = seen.place;
      in_bound = seen.in_bound;
      mode = seen.mode;
      remote = λ k slot. reads k (c.remote k) (remote_in (row_on b (eph_of (n.ephemerals k)))) refl (seen.remote k slot);
      cut = seen.cut;
      bound = seen.bound;
      line_stands = seen.line_stands;
      line_owned = seen.line_owned;
      line_once = seen.line_once;
      context_real = λ j x bound. let s = bound_stander j x bound in
          (seen.context_number j x bound, spot_used script owned n b c seen accounted s.v j x s.slot s.at bound);
      context_once = seen.context_once;
      members = λ j x t bound. let s = bound_stander j x bound in seen.members s.v j x t s.slot s.at bound;
      ephemeral_slot = seen.ephemeral_slot;
      ephemeral_stands = seen.ephemeral_stands;
      ephemeral_owned = seen.ephemeral_owned;
      ephemeral_once = seen.ephemeral_once;
      ephemeral_named = seen.ephemeral_named;
    }
