-- The board with an ephemeral that was created for a name shows the configuration in which the name stands in the null context.
use Rattle.mg_safety.proofs.Words.{◌≡◌, ◌∙◌, ◌||◌, ◌<◌, ℕ, Bool, true, false, length, Option, Some, None, is_some, refl, sym, ap, subst, true≢false, arith}
use Rattle.mg_safety.proofs.Words.{eqb-true, eq-eqb, if◌then◌else◌, ◌==◌, TermId, Line, Eph, Termination, Remote, Unset, Gone, To, Null, In, Board, same_term}
use Rattle.mg_safety.proofs.Words.{exists, place_of, place_in, mode_in, remote_in, with_at, Configuration, is_same, is_present, Script, IsSlot, none_is_some}
use Rattle.mg_safety.proofs.Words.{the_some, is_same_is, same_term_self, different, false_from_ne_true, not_both, none_of, some_of, where_true, or_right}
use Rattle.mg_safety.proofs.Words.{same_term_turned, cases_Bool, subst₂, Spot, Row, inl, inr}
use Rattle.mg_model.specs.declared.commands.Termination.TheVariants as termination
use Rattle.mg_safety.proofs.InvariantWords.{Naming, eph_of, term_of, row_on, cut_on, number_at, RemoteReads, Shown, IsAccounted, Owner, owned_at}
use Rattle.mg_safety.proofs.Commands.Binding.{with_at_here, with_at_kept, with_at_some, given_still}
use Rattle.mg_safety.proofs.Commands.Creating.{first_row, with_created, with_ephemeral_name, with_present, created_row, created_owned, owned_elsewhere}
use Rattle.mg_safety.proofs.Commands.Creating.{given_apart, stands_apart, kept}
use Rattle.mg_safety.proofs.Commands.OneRow.{row_here, row_elsewhere}
use Rattle.mg_safety.proofs.Commands.Setting.{with_of_here, with_of_kept}
use Rattle.mg_safety.proofs.Shared.Components.{eph_is, no_second}

module _ (script : Script) (own : Owner) (n : Naming) (b : Board) (c : Configuration) (k x : ℕ) (shown : Shown script (owned_at own b) n b c)
    (accounted : IsAccounted b) (fresh : b.used_ephemeral x ≡ false) (earlier : (y : ℕ) → own.before y ≡ true → b.used_ephemeral y ≡ true)
    (slot : k < length script.ephemerals) (absent : is_present (c.spot (termination.Ephemeral k)) ≡ false) where
  abbrev after : Board
  after = with_created b x

  abbrev names : Naming
  names = with_ephemeral_name n k x

  abbrev name : Termination
  name = termination.Ephemeral k

  pub unbound_ephemeral : n.ephemerals k ≡ None
  unbound_ephemeral = none_of (n.ephemerals k) (false_from_ne_true (is_some (n.ephemerals k)) (λ bound. let y = some_of (n.ephemerals k) bound in
      not_both (shown.ephemeral_stands k y.0 y.1) (ap (λ q. is_some (row_on b (eph_of q))) (sym y.1) ∙ shown.stands name slot ∙ absent)))

  row_before : row_on b (term_of n name) ≡ None
  row_before = ap (λ q. row_on b (eph_of q)) unbound_ephemeral

  -- the new name stands for the new ephemeral
  named_here : (t : Termination) → is_same t name ≡ true → term_of names t ≡ Some (Eph x)
  named_here t e = ap (term_of names) (is_same_is t name e) ∙ ap eph_of (with_at_here n.ephemerals k (Some x))

  -- another name stands for what it stood for
  pub named_elsewhere : (t : Termination) → is_same t name ≡ false → term_of names t ≡ term_of n t
  named_elsewhere (termination.Line i) e = refl
  named_elsewhere (termination.Ephemeral i) e = ap eph_of (with_at_kept n.ephemerals k (Some x) i e)

  named_still : (t : Termination) (u : TermId) → term_of n t ≡ Some u → term_of names t ≡ Some u
  named_still t u named = named_elsewhere t (false_from_ne_true (is_same t name)
      (λ e. none_is_some u (sym (ap (term_of n) (is_same_is t name e) ∙ ap eph_of unbound_ephemeral) ∙ named))) ∙ named

  bound_still : (i y : ℕ) → n.ephemerals i ≡ Some y → with_at n.ephemerals k (Some x) i ≡ Some y
  bound_still i y bound = with_at_kept n.ephemerals k (Some x) i
      (different i k (λ same. none_is_some y (sym (ap n.ephemerals same ∙ unbound_ephemeral) ∙ bound))) ∙ bound

  -- what a name stands for is another termination than the new one
  term_apart : (t : Termination) (u : TermId) → term_of n t ≡ Some u → same_term u (Eph x) ≡ false
  term_apart (termination.Line i) u named = ap (λ v. same_term v (Eph x)) (sym (the_some (Line (record { 0 = n.lines i })) u named))
  term_apart (termination.Ephemeral i) u named =
      let y = eph_is (n.ephemerals i) u named in
      ap (λ v. same_term v (Eph x)) y.2 ∙ stands_apart b x fresh accounted y.0 (shown.ephemeral_stands i y.0 y.1)

  read_here : (t : Termination) → is_same t name ≡ true → row_on after (term_of names t) ≡ Some first_row
  read_here t e = ap (row_on after) (named_here t e) ∙ row_here b after (Eph x) first_row (created_row b x fresh accounted) (Eph x) (same_term_self (Eph x))

  read_elsewhere : (t : Termination) → is_same t name ≡ false → row_on after (term_of names t) ≡ row_on b (term_of n t)
  read_elsewhere t e = ap (row_on after) (named_elsewhere t e) ∙ go (term_of n t) refl
    where
      go : (o : Option TermId) → term_of n t ≡ o → row_on after o ≡ row_on b o
      go None named = refl
      go (Some u) named = row_elsewhere b after (Eph x) first_row (created_row b x fresh accounted) u (term_apart t u named)

  abbrev next : Configuration
  next = with_present c k

  -- what is read at a name: the new row where it is the new one, and what was read before elsewhere
  read : (t : Termination) (P : Option Row → Spot → Type 0) → (t ≡ name → P (Some first_row) Null) → P (row_on b (term_of n t)) (c.spot t)
      → P (row_on after (term_of names t)) (next.spot t)
  read t P new old = elim (cases_Bool (is_same t name)) [
    | inl e ↦ subst₂ P (sym (read_here t e)) (sym (ap next.spot (is_same_is t name e) ∙ with_of_here c.spot name Null)) (new (is_same_is t name e))
    | inr e ↦ subst₂ P (sym (read_elsewhere t e)) (sym (with_of_kept c.spot name Null t e)) old
  ]

  remote_still : (value : Remote) (o : Option ℕ) → RemoteReads b n value o → RemoteReads after names value o
  remote_still Unset o reads = reads
  remote_still Gone o reads = (
    reads.0,
    reads.1,
    kept b x fresh accounted reads.0 (given_apart b x fresh accounted reads.0 reads.3) ∙ reads.2,
    given_still true x b.used_ephemeral reads.0 reads.3,
  )
  remote_still (To i) o reads = (reads.0, reads.1, bound_still i reads.0 reads.2)

  remote : (i : ℕ) → i < length script.ephemerals → RemoteReads after names (c.remote i) (remote_in (row_on after (term_of names (termination.Ephemeral i))))
  remote i declared =
      let old = remote_still (c.remote i) (remote_in (row_on b (term_of n (termination.Ephemeral i)))) (shown.remote i declared) in
      read (termination.Ephemeral i) (λ row spot. RemoteReads after names (c.remote i) (remote_in row))
      (λ e. subst (λ (row : Option Row). RemoteReads after names (c.remote i) (remote_in row)) (ap (λ t. row_on b (term_of n t)) e ∙ row_before) old) old

  -- ---- cuts

  cut_first : (o : Option TermId) → cut_on after (Some (Eph x)) o ≡ false
  cut_first None = refl
  cut_first (Some w) = ap (λ p. if p || same_term (Eph x) w then false else b.cut (Eph x) w) (same_term_self (Eph x))

  cut_second : (o : Option TermId) → cut_on after o (Some (Eph x)) ≡ false
  cut_second None = refl
  cut_second (Some v) = where_true (same_term (Eph x) v || same_term (Eph x) (Eph x)) false (b.cut v (Eph x))
      (or_right (same_term (Eph x) v) (same_term (Eph x) (Eph x)) (same_term_self (Eph x)))

  cut_others : (o q : Option TermId) → ((u : TermId) → o ≡ Some u → same_term (Eph x) u ≡ false)
      → ((u : TermId) → q ≡ Some u → same_term (Eph x) u ≡ false) → cut_on b o q ≡ cut_on after o q
  cut_others None q first second = refl
  cut_others (Some v) None first second = refl
  cut_others (Some v) (Some w) first second =
      sym (ap (λ p. if p || same_term (Eph x) w then false else b.cut v w) (first v refl) ∙ ap (λ p. if p then false else b.cut v w) (second w refl))

  turned : (t : Termination) (u : TermId) → term_of n t ≡ Some u → same_term (Eph x) u ≡ false
  turned t u named = same_term_turned (Eph x) u ∙ term_apart t u named

  cut : (t s : Termination) → IsSlot script t → IsSlot script s → (p q : Bool) → is_same t name ≡ p → is_same s name ≡ q
      → c.cut t s ≡ cut_on after (term_of names t) (term_of names s)
  cut t s first second true q e f = shown.cut t s first second
      ∙ ap (λ o. cut_on b o (term_of n s)) (ap (term_of n) (is_same_is t name e) ∙ ap eph_of unbound_ephemeral)
      ∙ sym (ap (λ o. cut_on after o (term_of names s)) (named_here t e) ∙ cut_first (term_of names s))
  cut t s first second false true e f = shown.cut t s first second
      ∙ ap (cut_on b (term_of n t)) (ap (term_of n) (is_same_is s name f) ∙ ap eph_of unbound_ephemeral)
      ∙ no_second b (term_of n t)
      ∙ sym (ap (cut_on after (term_of names t)) (named_here s f) ∙ cut_second (term_of names t))
  cut t s first second false false e f = shown.cut t s first second
      ∙ cut_others (term_of n t) (term_of n s) (turned t) (turned s)
      ∙ sym (ap (λ o. cut_on after o (term_of names s)) (named_elsewhere t e) ∙ ap (cut_on after (term_of n t)) (named_elsewhere s f))

  -- ---- contexts, ephemerals

  members : (j y : ℕ) (u : TermId) → n.contexts j ≡ Some y → place_of after u ≡ y → (p : Bool) → same_term u (Eph x) ≡ p
      → (t : Termination) × IsSlot script t × (term_of names t ≡ Some u)
  members j y u bound at true e =
      let null : 0 ≡ y = sym (ap place_in (row_here b after (Eph x) first_row (created_row b x fresh accounted) u e)) ∙ at in
      let positive : 0 < y = (shown.context_real j y bound).0.0 in
      absurd (omega (arith, null, positive))
  members j y u bound at false e =
      let was = shown.members j y u bound
      (sym (ap place_in (row_elsewhere b after (Eph x) first_row (created_row b x fresh accounted) u e)) ∙ at) in
      (was.0, was.1, named_still was.0 u was.2)

  exists_new : exists after (Eph x) ≡ true
  exists_new = ap is_some (row_here b after (Eph x) first_row (created_row b x fresh accounted) (Eph x) (same_term_self (Eph x)))

  other_than_new : (i y : ℕ) → n.ephemerals i ≡ Some y → (y == x) ≡ false
  other_than_new i y bound = stands_apart b x fresh accounted y (shown.ephemeral_stands i y bound)

  once : (i l y : ℕ) → with_at n.ephemerals k (Some x) i ≡ Some y → with_at n.ephemerals k (Some x) l ≡ Some y → i ≡ l
  once i l y first second = with_at_some n.ephemerals k (Some x) i (Some y) (i ≡ l) first
      (λ same is. with_at_some n.ephemerals k (Some x) l (Some y) (i ≡ l) second
      (λ too also. same ∙ sym too)
      (λ other before. absurd (alone l before (the_some x y is))))
      (λ other before. with_at_some n.ephemerals k (Some x) l (Some y) (i ≡ l) second
      (λ too also. absurd (alone i before (the_some x y also)))
      (λ apart known. shown.ephemeral_once i l y before known))
    where
      alone : (i : ℕ) → n.ephemerals i ≡ Some y → x ≡ y → ⊥
      alone i bound is = true≢false (sym (eq-eqb y x (sym is)) ∙ other_than_new i y bound)

  ephemeral_named : (y : ℕ) → owned_at own after (Eph y) ≡ true → exists after (Eph y) ≡ true → (p : Bool) → (y == x) ≡ p
      → (i : ℕ) × (with_at n.ephemerals k (Some x) i ≡ Some y)
  ephemeral_named y mine there true e = (k, with_at_here n.ephemerals k (Some x) ∙ ap (λ z. Some z) (sym (eqb-true y x e)))
  ephemeral_named y mine there false e =
      let was = shown.ephemeral_named y (sym (owned_elsewhere b x fresh accounted own earlier y e) ∙ mine) (sym (kept b x fresh accounted y e) ∙ there) in
      (was.0, bound_still was.0 y was.1)

  pub created_shown : Shown script (owned_at own after) names after next
  created_shown = record {
    stands = λ t named. read t (λ row spot. is_some row ≡ is_present spot) (λ e. refl) (shown.stands t named);
    place = λ t named. read t (λ row spot. place_in row ≡ number_at n spot) (λ e. refl) (shown.place t named);
    in_bound = λ t j named. read t (λ row spot. spot ≡ In j → is_some (n.contexts j) ≡ true) (λ e apart. absurd (cc)) (shown.in_bound t j named);
    mode = λ t named. read t (λ row spot. c.mode t ≡ mode_in row) (λ e. ap c.mode e ∙ shown.mode name slot ∙ ap mode_in row_before) (shown.mode t named);
    remote = remote;
    cut = λ t s first second. cut t s first second (is_same t name) (is_same s name) refl refl;
    bound = shown.bound;
    line_stands = shown.line_stands;
    line_owned = shown.line_owned;
    line_once = shown.line_once;
    context_real = shown.context_real;
    context_once = shown.context_once;
    members = λ j y u bound at. members j y u bound at (same_term u (Eph x)) refl;
    ephemeral_slot = λ i y bound. with_at_some n.ephemerals k (Some x) i (Some y) (i < length script.ephemerals) bound
        (λ same is. subst (λ l. l < length script.ephemerals) (sym same) slot)
        (λ other before. shown.ephemeral_slot i y before);
    ephemeral_stands = λ i y bound. with_at_some n.ephemerals k (Some x) i (Some y) (exists after (Eph y) ≡ true) bound
        (λ same is. ap (λ z. exists after (Eph z)) (sym (the_some x y is)) ∙ exists_new)
        (λ other before. kept b x fresh accounted y (other_than_new i y before) ∙ shown.ephemeral_stands i y before);
    ephemeral_owned = λ i y bound. with_at_some n.ephemerals k (Some x) i (Some y) (owned_at own after (Eph y) ≡ true) bound
        (λ same is. ap (λ z. owned_at own after (Eph z)) (sym (the_some x y is)) ∙ created_owned b x fresh accounted own earlier)
        (λ other before. owned_elsewhere b x fresh accounted own earlier y (other_than_new i y before) ∙ shown.ephemeral_owned i y before);
    ephemeral_once = once;
    ephemeral_named = λ y mine there. ephemeral_named y mine there (y == x) refl;
  }
