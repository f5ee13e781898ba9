-- A termination that a call's name stands for gets another row: what is read at each name after it, and that the board then shows the
-- configuration in which this termination alone is changed.
use Rattle.mg_safety.proofs.Words.{◌≡◌, ◌∙◌, ℕ, Bool, true, false, not, Option, Some, None, is_some, refl, sym, ap, subst, length, ◌<◌, eqb-true, eq-eqb, ◌==◌}
use Rattle.mg_safety.proofs.Words.{TermId, Line, Eph, Termination, Remote, Unset, Gone, To, In, Row, Board, same_term, exists, place_of, place_in, mode_in}
use Rattle.mg_safety.proofs.Words.{remote_in, Configuration, is_same, is_present, is_free, Script, IsSlot, same_test, none_is_some, the_some, is_same_is}
use Rattle.mg_safety.proofs.Words.{same_term_is, same_term_self, different, cases_Bool, subst₂, Spot, Mode, is_same_self, inl, inr}
use Rattle.mg_model.specs.declared.commands.Termination.TheVariants as termination
use Rattle.mg_safety.proofs.InvariantWords.{Naming, eph_of, term_of, row_on, cut_on, number_at, RemoteReads, Shown}
use Rattle.mg_safety.proofs.Commands.OneRow.{HasOneRow, row_here, row_elsewhere, exists_as_before}
use Rattle.mg_safety.proofs.Shared.Components.{eph_is}

-- ---- names

-- what a name stands for, if anything, is this termination
abbrev pub is_term : Option TermId → TermId → Bool
is_term None u = false
is_term (Some v) u = same_term v u

-- two tests of numbers that imply each other are one
tests_agree : (i j k l : ℕ) → (i ≡ j → k ≡ l) → (k ≡ l → i ≡ j) → (i == j) ≡ (k == l)
tests_agree i j k l there back = same_test (i == j) (k == l) (λ e. eq-eqb k l (there (eqb-true i j e))) (λ e. eq-eqb i j (back (eqb-true k l e)))

-- names that are declared stand for different terminations
pub term_test : (script : Script) (owned : TermId → Bool) (n : Naming) (b : Board) (c : Configuration) → Shown script owned n b c
    → (t s : Termination) (u : TermId) → IsSlot script t → IsSlot script s → term_of n t ≡ Some u → is_term (term_of n s) u ≡ is_same s t
term_test script owned n b c shown (termination.Line i) (termination.Line j) u first second stands =
    ap (same_term (Line (record { 0 = n.lines j }))) (sym (the_some (Line (record { 0 = n.lines i })) u stands))
    ∙ tests_agree (n.lines j) (n.lines i) j i (shown.line_once j i second first) (ap n.lines)
term_test script owned n b c shown (termination.Line i) (termination.Ephemeral k) u first second stands =
    ap (is_term (eph_of (n.ephemerals k))) (sym (the_some (Line (record { 0 = n.lines i })) u stands)) ∙ never (n.ephemerals k)
  where
    never : (o : Option ℕ) → is_term (eph_of o) (Line (record { 0 = n.lines i })) ≡ false
    never None = refl
    never (Some x) = refl
term_test script owned n b c shown (termination.Ephemeral k) (termination.Line j) u first second stands =
    ap (same_term (Line (record { 0 = n.lines j }))) (eph_is (n.ephemerals k) u stands).2
term_test script owned n b c shown (termination.Ephemeral k) (termination.Ephemeral i) u first second stands =
    let x = eph_is (n.ephemerals k) u stands in
    ap (is_term (eph_of (n.ephemerals i))) x.2 ∙ by_name x.0 x.1 (n.ephemerals i) refl
  where
    by_name : (x : ℕ) → n.ephemerals k ≡ Some x → (o : Option ℕ) → n.ephemerals i ≡ o → is_term (eph_of o) (Eph x) ≡ (i == k)
    by_name x bound None e = sym (different i k (λ same. none_is_some x (sym e ∙ ap n.ephemerals same ∙ bound)))
    by_name x bound (Some y) e = tests_agree y x i k
        (λ same. shown.ephemeral_once i k x (e ∙ ap (λ z. Some z) same) bound)
        (λ same. the_some y x (sym e ∙ ap n.ephemerals same ∙ bound))

-- ---- the configuration in which one termination is changed

pub record HasOneName (script : Script) (n : Naming) (after : Board) (c next : Configuration) (t : Termination) (r : Row) : Type 0 where
  pub present : is_present (next.spot t) ≡ true
  pub number : r.place.0 ≡ number_at n (next.spot t)
  pub in_bound : (j : ℕ) → next.spot t ≡ In j → is_some (n.contexts j) ≡ true
  pub mode : next.mode t ≡ r.mode
  pub remote : (k : ℕ) → termination.Ephemeral k ≡ t → RemoteReads after n (next.remote k) r.remote
  pub spot_kept : (s : Termination) → is_same s t ≡ false → next.spot s ≡ c.spot s
  pub mode_kept : (s : Termination) → is_same s t ≡ false → next.mode s ≡ c.mode s
  pub remote_kept : (k : ℕ) → is_same (termination.Ephemeral k) t ≡ false → next.remote k ≡ c.remote k
  pub cut : (s v : Termination) → IsSlot script s → IsSlot script v → next.cut s v ≡ cut_on after (term_of n s) (term_of n v)
  pub free : (j : ℕ) → is_free (next.context j) ≡ is_free (c.context j)

module _ (script : Script) (owned : TermId → Bool) (n : Naming) (b after : Board) (c next : Configuration) (t : Termination) (u : TermId) (r : Row)
    (shown : Shown script owned n b c) (slot : IsSlot script t) (stands : term_of n t ≡ Some u) (stood : exists b u ≡ true)
    (one : HasOneRow b after u r) (changed : HasOneName script n after c next t r) where
  here : (s : Termination) → is_same s t ≡ true → row_on after (term_of n s) ≡ Some r
  here s e = ap (λ v. row_on after (term_of n v)) (is_same_is s t e) ∙ ap (row_on after) stands ∙ row_here b after u r one u (same_term_self u)

  elsewhere : (s : Termination) → IsSlot script s → is_same s t ≡ false → row_on after (term_of n s) ≡ row_on b (term_of n s)
  elsewhere s named e = go (term_of n s) (term_test script owned n b c shown t s u slot named stands ∙ e)
    where
      go : (o : Option TermId) → is_term o u ≡ false → row_on after o ≡ row_on b o
      go None other = refl
      go (Some v) other = row_elsewhere b after u r one v other

  existing : (v : TermId) → exists after v ≡ exists b v
  existing = exists_as_before b after u r one stood

  -- what is read at a name: the new row where it is the changed one, and what was read before elsewhere
  read : (s : Termination) → IsSlot script s → (P : Option Row → Spot → Mode → Type 0) → P (Some r) (next.spot t) (next.mode t)
      → P (row_on b (term_of n s)) (c.spot s) (c.mode s) → P (row_on after (term_of n s)) (next.spot s) (next.mode s)
  read s named P new old = elim (cases_Bool (is_same s t)) [
    | inl e ↦ subst (λ v. P (row_on after (term_of n v)) (next.spot v) (next.mode v)) (sym (is_same_is s t e))
        (subst (λ row. P row (next.spot t) (next.mode t)) (sym (here t (is_same_self t))) new)
    | inr e ↦ subst (λ row. P row (next.spot s) (next.mode s)) (sym (elsewhere s named e))
        (subst₂ (P (row_on b (term_of n s))) (sym (changed.spot_kept s e)) (sym (changed.mode_kept s e)) old)
  ]

  remote_as_before : (value : Remote) (o : Option ℕ) → RemoteReads b n value o → RemoteReads after n value o
  remote_as_before Unset o reads = reads
  remote_as_before Gone o reads = (reads.0, reads.1, existing (Eph reads.0) ∙ reads.2, one.used_ephemeral reads.0 reads.3)
  remote_as_before (To i) o reads = reads

  remote : (k : ℕ) → k < length script.ephemerals → (p : Bool) → is_same (termination.Ephemeral k) t ≡ p
      → RemoteReads after n (next.remote k) (remote_in (row_on after (eph_of (n.ephemerals k))))
  remote k named true e =
      subst (λ row. RemoteReads after n (next.remote k) (remote_in row)) (sym (here (termination.Ephemeral k) e))
      (changed.remote k (is_same_is (termination.Ephemeral k) t e))
  remote k named false e =
      subst (λ row. RemoteReads after n (next.remote k) (remote_in row)) (sym (elsewhere (termination.Ephemeral k) named e))
      (subst (λ value. RemoteReads after n value (remote_in (row_on b (eph_of (n.ephemerals k))))) (sym (changed.remote_kept k e))
      (remote_as_before (c.remote k) (remote_in (row_on b (eph_of (n.ephemerals k)))) (shown.remote k named)))

  members : (j x : ℕ) (v : TermId) (p : Bool) → same_term v u ≡ p → n.contexts j ≡ Some x → place_of after v ≡ x
      → (s : Termination) × IsSlot script s × (term_of n s ≡ Some v)
  members j x v true e bound at = (t, slot, stands ∙ ap (λ w. Some w) (sym (same_term_is v u e)))
  members j x v false e bound at = shown.members j x v bound (sym (ap place_in (row_elsewhere b after u r one v e)) ∙ at)

  pub placed_shown : Shown script owned n after next
  placed_shown = record {
    stands = λ s named. read s named (λ row spot mode. is_some row ≡ is_present spot) (sym changed.present) (shown.stands s named);
    place = λ s named. read s named (λ row spot mode. place_in row ≡ number_at n spot) changed.number (shown.place s named);
    in_bound = λ s j named. read s named (λ row spot mode. spot ≡ In j → is_some (n.contexts j) ≡ true) (changed.in_bound j) (shown.in_bound s j named);
    mode = λ s named. read s named (λ row spot mode. mode ≡ mode_in row) changed.mode (shown.mode s named);
    remote = λ k named. remote k named (is_same (termination.Ephemeral k) t) refl;
    cut = changed.cut;
    bound = λ j. shown.bound j ∙ sym (ap not (changed.free j));
    line_stands = λ i named. existing (Line (record { 0 = n.lines i })) ∙ shown.line_stands i named;
    line_owned = shown.line_owned;
    line_once = shown.line_once;
    context_real = λ j x bound. let real = shown.context_real j x bound in (real.0, one.used_context x real.1);
    context_once = shown.context_once;
    members = λ j x v. members j x v (same_term v u) refl;
    ephemeral_slot = shown.ephemeral_slot;
    ephemeral_stands = λ k x bound. existing (Eph x) ∙ shown.ephemeral_stands k x bound;
    ephemeral_owned = shown.ephemeral_owned;
    ephemeral_once = shown.ephemeral_once;
    ephemeral_named = λ x mine there. shown.ephemeral_named x mine (sym (existing (Eph x)) ∙ there);
  }
