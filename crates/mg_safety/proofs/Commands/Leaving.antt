-- Terminations of a call leave their context for good: the board after it shows the configuration without them.
use Rattle.mg_safety.proofs.Words.{◌≡◌, ◌∙◌, ◌<◌, ℕ, Bool, true, false, length, Option, Some, None, is_some, refl, sym, ap, subst, arith, ◌||◌, not}
use Rattle.mg_safety.proofs.Words.{if◌then◌else◌, unwrap_or, or_right, ContextValue, TermId, Line, Eph, Mode, Inactive, Termination, Remote, Unset, Gone, To}
use Rattle.mg_safety.proofs.Words.{Spot, Absent, Null, In, Row, Board, exists, place_of, place_in, mode_in, remote_in, Configuration, is_present, is_free}
use Rattle.mg_safety.proofs.Words.{settled, stands_in, without_terminations, without_cuts_of, spot_after, remote_after, null, subtracted, without, Script}
use Rattle.mg_safety.proofs.Words.{IsSlot, where_true, where_false, some_is_none, cases_Bool, inl, inr, false_not_true, by_test}
use Rattle.mg_model.specs.declared.commands.Termination.TheVariants as termination
use Rattle.mg_safety.proofs.InvariantWords.{Naming, Shown, RemoteReads, Owner, owned_at, row_on, cut_on, term_of, eph_of, number_at, IsAccounted}
use Rattle.mg_safety.proofs.Shared.Components.{free_as_before, no_second}

-- the terminations of the board that leave are those of the slots that leave, and their names are unbound; a context's name is unbound only
-- where nobody stays in it
pub record Leaves (script : Script) (n : Naming) (contexts ephemerals : ℕ → Option ℕ) (b : Board) (c : Configuration) (gone : TermId → Bool)
    (left : Termination → Bool) (values : ℕ → ContextValue) : Type 0 where
  pub agree : (u : Termination) → IsSlot script u → (t : TermId) → term_of n u ≡ Some t → gone t ≡ left u
  pub slots : (t : TermId) → gone t ≡ true → (u : Termination) × IsSlot script u × (term_of n u ≡ Some t)
  pub unbound : (k : ℕ) → ephemerals k ≡ (if left (termination.Ephemeral k) then None else n.ephemerals k)
  pub stay_bound : (j x : ℕ) → contexts j ≡ Some x → n.contexts j ≡ Some x
  pub in_use : (u : Termination) (j : ℕ) → IsSlot script u → left u ≡ false → c.spot u ≡ In j → contexts j ≡ n.contexts j
  pub bound : (j : ℕ) → is_some (contexts j) ≡ not (is_free (values j))
  pub dropped : (j x : ℕ) (t : TermId) → n.contexts j ≡ Some x → contexts j ≡ None → gone t ≡ false → place_of b t ≡ x → ⊥

abbrev pub names_left : Naming → (ℕ → Option ℕ) → (ℕ → Option ℕ) → Naming
names_left n contexts ephemerals = record { lines = n.lines; contexts = contexts; ephemerals = ephemerals }

abbrev pub configuration_left : Configuration → (Termination → Bool) → (ℕ → ContextValue) → Configuration
configuration_left c left values = settled (record (without_terminations c left) { context = values })

-- ---- one row

abbrev row_left : Termination → Option Row
row_left (termination.Line i) = Some (record { place = record { 0 = null }; mode = Inactive; remote = None })
row_left (termination.Ephemeral k) = None

stands_after : (u : Termination) (p : Bool) (r : Option Row) (s : Spot) → is_some r ≡ is_present s
    → is_some (if p then row_left u else r) ≡ is_present (if p then spot_after u else s)
stands_after (termination.Line i) true r s e = refl
stands_after (termination.Ephemeral k) true r s e = refl
stands_after u false r s e = e

place_after : (n : Naming) (u : Termination) (p : Bool) (r : Option Row) (s : Spot) → (p ≡ false → place_in r ≡ number_at n s)
    → place_in (if p then row_left u else r) ≡ number_at n (if p then spot_after u else s)
place_after n (termination.Line i) true r s e = refl
place_after n (termination.Ephemeral k) true r s e = refl
place_after n u false r s e = e refl

mode_after : (u : Termination) (p : Bool) (r : Option Row) (mode : Mode) → mode ≡ mode_in r
    → (if p then Inactive else mode) ≡ mode_in (if p then row_left u else r)
mode_after (termination.Line i) true r mode e = refl
mode_after (termination.Ephemeral k) true r mode e = refl
mode_after u false r mode e = e

-- a termination that stays in a context is not one that left
stays_in : (u : Termination) (p : Bool) (s : Spot) (j : ℕ) → (if p then spot_after u else s) ≡ In j → (p ≡ false) × (s ≡ In j)
stays_in (termination.Line i) true s j e = absurd (cc)
stays_in (termination.Ephemeral k) true s j e = absurd (cc)
stays_in u false s j e = (refl, e)

-- a name of an ephemeral that stays
pub stays_bound : (p : Bool) (o now : Option ℕ) (x : ℕ) → now ≡ (if p then None else o) → now ≡ Some x → (p ≡ false) × (o ≡ Some x)
stays_bound true o now x e is = absurd (some_is_none x (sym is ∙ e))
stays_bound false o now x e is = (refl, sym e ∙ is)

-- a row that is one of those that don't leave
pub exists_after : (b : Board) (gone : TermId → Bool) (x : ℕ) → exists (without b gone) (Eph x) ≡ true → (gone (Eph x) ≡ false) × (exists b (Eph x) ≡ true)
exists_after b gone x e = elim (cases_Bool (gone (Eph x))) [
  | inl leaves ↦ absurd (false_not_true (sym (ap is_some (where_true (gone (Eph x)) None (b.row (Eph x)) leaves)) ∙ e))
  | inr stays ↦ (stays, sym (ap is_some (where_false (gone (Eph x)) None (b.row (Eph x)) stays)) ∙ e)
]

pub not_after : (b : Board) (gone : TermId → Bool) (x : ℕ) → exists b (Eph x) ≡ false → exists (without b gone) (Eph x) ≡ false
not_after b gone x e = by_test (λ (row : Option Row). is_some row ≡ false) None (b.row (Eph x)) (gone (Eph x)) (λ leaves. refl) (λ stays. e)

line_stays : (b : Board) (gone : TermId → Bool) (l : ℕ) → exists b (Line (record { 0 = l })) ≡ true
    → exists (without b gone) (Line (record { 0 = l })) ≡ true
line_stays b gone l e = by_test (λ (row : Option Row). is_some row ≡ true) (subtracted (Line (record { 0 = l }))) (b.row (Line (record { 0 = l })))
    (gone (Line (record { 0 = l }))) (λ leaves. refl) (λ stays. e)

-- who stands in a context after it stood there before
pub place_before : (b : Board) (gone : TermId → Bool) (t : TermId) → (place_of (without b gone) t ≡ 0 → ⊥)
    → (gone t ≡ false) × (place_of b t ≡ place_of (without b gone) t)
place_before b gone t = go t (gone t)
  where
    go : (t : TermId) (p : Bool) → (place_in (if p then subtracted t else b.row t) ≡ 0 → ⊥)
        → (p ≡ false) × (place_of b t ≡ place_in (if p then subtracted t else b.row t))
    go (Line l) true e = absurd (e refl)
    go (Eph x) true e = absurd (e refl)
    go t false e = (refl, refl)

-- ---- what is read at a name

-- what stays keeps its cuts
both_stay : (b : Board) (gone : TermId → Bool) (o p : Option TermId) → ((v : TermId) → o ≡ Some v → gone v ≡ false)
    → ((v : TermId) → p ≡ Some v → gone v ≡ false) → cut_on (without b gone) o p ≡ cut_on b o p
both_stay b gone None p first second = refl
both_stay b gone (Some v) None first second = refl
both_stay b gone (Some v) (Some w) first second = rw (first v refl, second w refl) refl

number_after : (n : Naming) (contexts ephemerals : ℕ → Option ℕ) (s : Spot) → ((j : ℕ) → s ≡ In j → contexts j ≡ n.contexts j)
    → number_at n s ≡ number_at (names_left n contexts ephemerals) s
number_after n contexts ephemerals Absent e = refl
number_after n contexts ephemerals Null e = refl
number_after n contexts ephemerals (In j) e = ap (λ o. unwrap_or o 0) (sym (e j refl))

module _ (script : Script) (own : Owner) (n : Naming) (contexts ephemerals : ℕ → Option ℕ) (b : Board) (c : Configuration) (gone : TermId → Bool)
    (left : Termination → Bool) (values : ℕ → ContextValue) (shown : Shown script (owned_at own b) n b c)
    (leaves : Leaves script n contexts ephemerals b c gone left values) where
  abbrev names : Naming
  names = names_left n contexts ephemerals

  -- an ephemeral leaves exactly where its name does
  pub ephemeral_agrees : (k x : ℕ) → n.ephemerals k ≡ Some x → gone (Eph x) ≡ left (termination.Ephemeral k)
  ephemeral_agrees k x is = leaves.agree (termination.Ephemeral k) (shown.ephemeral_slot k x is) (Eph x) (ap eph_of is)

  row_after : (u : Termination) → IsSlot script u → row_on (without b gone) (term_of names u) ≡ (if left u then row_left u else row_on b (term_of n u))
  row_after (termination.Line i) slot = rw (leaves.agree (termination.Line i) slot (Line (record { 0 = n.lines i })) refl) refl
  row_after (termination.Ephemeral k) slot =
      ap (λ o. row_on (without b gone) (eph_of o)) (leaves.unbound k) ∙ go (left (termination.Ephemeral k)) (n.ephemerals k) refl refl
    where
      go : (p : Bool) (o : Option ℕ) → left (termination.Ephemeral k) ≡ p → n.ephemerals k ≡ o
          → row_on (without b gone) (eph_of (if p then None else o)) ≡ (if p then None else row_on b (eph_of o))
      go true o is e = refl
      go false None is e = refl
      go false (Some x) is e = where_false (gone (Eph x)) (subtracted (Eph x)) (b.row (Eph x)) (ephemeral_agrees k x e ∙ is)

  -- a slot that stays stands for what it stood for
  name_after : (u : Termination) → left u ≡ false → term_of names u ≡ term_of n u
  name_after (termination.Line i) stays = refl
  name_after (termination.Ephemeral k) stays = ap eph_of (leaves.unbound k ∙ where_false (left (termination.Ephemeral k)) None (n.ephemerals k) stays)

  -- what leaves has no cuts
  first_left : (t : Termination) → IsSlot script t → left t ≡ true → (p : Option TermId) → cut_on (without b gone) (term_of names t) p ≡ false
  first_left (termination.Line i) slot leaving None = refl
  first_left (termination.Line i) slot leaving (Some v) =
      rw (leaves.agree (termination.Line i) slot (Line (record { 0 = n.lines i })) refl ∙ leaving) refl
  first_left (termination.Ephemeral k) slot leaving p = ap (λ o. cut_on (without b gone) (eph_of o) p)
      (leaves.unbound k ∙ where_true (left (termination.Ephemeral k)) None (n.ephemerals k) leaving)

  second_left : (t : Termination) → IsSlot script t → left t ≡ true → (o : Option TermId) → cut_on (without b gone) o (term_of names t) ≡ false
  second_left (termination.Line i) slot leaving None = refl
  second_left (termination.Line i) slot leaving (Some v) =
      rw (leaves.agree (termination.Line i) slot (Line (record { 0 = n.lines i })) refl ∙ leaving)
      (where_true (gone v || true) false (b.cut v (Line (record { 0 = n.lines i }))) (or_right (gone v) true refl))
  second_left (termination.Ephemeral k) slot leaving o = ap (λ p. cut_on (without b gone) o (eph_of p))
      (leaves.unbound k ∙ where_true (left (termination.Ephemeral k)) None (n.ephemerals k) leaving) ∙ no_second (without b gone) o

  cut_after : (t u : Termination) → IsSlot script t → IsSlot script u
      → without_cuts_of left c.cut t u ≡ cut_on (without b gone) (term_of names t) (term_of names u)
  cut_after t u slot also = go (left t) (left u) refl refl
    where
      go : (p q : Bool) → left t ≡ p → left u ≡ q
          → (if p || q then false else c.cut t u) ≡ cut_on (without b gone) (term_of names t) (term_of names u)
      go true q is and = sym (first_left t slot is (term_of names u))
      go false true is and = sym (second_left u also and (term_of names t))
      go false false is and = rw (name_after t is, name_after u and) (shown.cut t u slot also ∙ sym (both_stay b gone (term_of n t) (term_of n u)
          (λ v e. leaves.agree t slot v e ∙ is) (λ v e. leaves.agree u also v e ∙ and)))

  module _ (accounted : IsAccounted b) where
    -- a Remote that named an ephemeral which left names nothing that exists, though its number was given
    remote_left : (k : ℕ) → k < length script.ephemerals
        → RemoteReads (without b gone) names (remote_after left k (c.remote k)) (remote_in (row_on (without b gone) (eph_of (ephemerals k))))
    remote_left k slot =
        subst (λ (o : Option Row). RemoteReads (without b gone) names (remote_after left k (c.remote k)) (remote_in o))
        (sym (row_after (termination.Ephemeral k) slot))
        (go (left (termination.Ephemeral k)) refl (c.remote k) (row_on b (eph_of (n.ephemerals k))) (shown.remote k slot))
      where
        names_other : (i x : ℕ) (q : Bool) (remote : Option ℕ) → left (termination.Ephemeral i) ≡ q → remote ≡ Some x → n.ephemerals i ≡ Some x
            → RemoteReads (without b gone) names (if q then Gone else To i) remote
        names_other i x true remote is named bound = (
          x,
          named,
          ap is_some (where_true (gone (Eph x)) None (b.row (Eph x)) (ephemeral_agrees i x bound ∙ is)),
          accounted.ephemerals x (shown.ephemeral_stands i x bound),
        )
        names_other i x false remote is named bound =
            (x, named, leaves.unbound i ∙ where_false (left (termination.Ephemeral i)) None (n.ephemerals i) is ∙ bound)

        go : (p : Bool) → left (termination.Ephemeral k) ≡ p → (r : Remote) (row : Option Row) → RemoteReads b n r (remote_in row)
            → RemoteReads (without b gone) names (remote_after left k r) (remote_in (if p then None else row))
        go true is Unset row reads = refl
        go true is r row reads = rw is refl
        go false is Unset row reads = reads
        go false is Gone row reads = rw is (reads.0, reads.1, not_after b gone reads.0 reads.2, reads.3)
        go false is (To i) row reads = rw is (names_other i reads.0 (left (termination.Ephemeral i)) (remote_in row) refl reads.1 reads.2)

    -- ---- the whole

    bound_in : (k x : ℕ) → ephemerals k ≡ Some x → (left (termination.Ephemeral k) ≡ false) × (n.ephemerals k ≡ Some x)
    bound_in k x is = stays_bound (left (termination.Ephemeral k)) (n.ephemerals k) (ephemerals k) x (leaves.unbound k) is

    pub shown_left : Shown script (owned_at own (without b gone)) names (without b gone) (configuration_left c left values)
    shown_left = record {
      stands = λ u slot. ap is_some (row_after u slot) ∙ stands_after u (left u) (row_on b (term_of n u)) (c.spot u) (shown.stands u slot);
      place = λ u slot. ap place_in (row_after u slot) ∙ place_after names u (left u) (row_on b (term_of n u)) (c.spot u)
          (λ stays. shown.place u slot ∙ number_after n contexts ephemerals (c.spot u) (λ j is. leaves.in_use u j slot stays is));
      in_bound = λ u j slot is.
          let stays = stays_in u (left u) (c.spot u) j is in
          ap is_some (leaves.in_use u j slot stays.0 stays.1) ∙ shown.in_bound u j slot stays.1;
      mode = λ u slot. mode_after u (left u) (row_on b (term_of n u)) (c.mode u) (shown.mode u slot) ∙ sym (ap mode_in (row_after u slot));
      remote = remote_left;
      cut = cut_after;
      bound = λ j. leaves.bound j ∙ ap not (sym (free_as_before (values j) (stands_in (configuration_left c left values).spot j)));
      line_stands = λ i slot. line_stays b gone (n.lines i) (shown.line_stands i slot);
      line_owned = shown.line_owned;
      line_once = shown.line_once;
      context_real = λ j x is. shown.context_real j x (leaves.stay_bound j x is);
      context_once = λ i j x is also. shown.context_once i j x (leaves.stay_bound i x is) (leaves.stay_bound j x also);
      members = λ j x t is at.
          let above : 0 < x = (shown.context_real j x (leaves.stay_bound j x is)).0.0 in
          let stays = place_before b gone t (λ (null : place_of (without b gone) t ≡ 0). omega (arith, above, null, at)) in
          let slot = shown.members j x t (leaves.stay_bound j x is) (stays.1 ∙ at) in
          (slot.0, slot.1, name_after slot.0 (sym (leaves.agree slot.0 slot.1 t slot.2) ∙ stays.0) ∙ slot.2);
      ephemeral_slot = λ k x is. shown.ephemeral_slot k x (bound_in k x is).1;
      ephemeral_stands = λ k x is.
          let stays = bound_in k x is in
          ap is_some (where_false (gone (Eph x)) None (b.row (Eph x)) (ephemeral_agrees k x stays.1 ∙ stays.0)) ∙ shown.ephemeral_stands k x stays.1;
      ephemeral_owned = λ k x is. shown.ephemeral_owned k x (bound_in k x is).1;
      ephemeral_once = λ k i x is also. shown.ephemeral_once k i x (bound_in k x is).1 (bound_in i x also).1;
      ephemeral_named = λ x mine stands.
          let was = exists_after b gone x stands in
          let name = shown.ephemeral_named x mine was.1 in (
            name.0,
            leaves.unbound name.0 ∙ where_false (left (termination.Ephemeral name.0)) None (n.ephemerals name.0)
                (sym (ephemeral_agrees name.0 x name.1) ∙ was.0) ∙ name.1,
          );
    }
