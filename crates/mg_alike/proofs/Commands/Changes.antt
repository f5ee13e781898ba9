-- What a command changes on a board: the row of the termination that it names, and those of the terminations that leave. So whoever stands in a context of
-- the call is still the call's, and what stands can't be given again.
use Rattle.std.proofs.Common.{◌≡◌, ◌∙◌, ℕ, Bool, true, false, Option, is_some, refl, sym, ap, subst, inl, inr, ◌==◌, ◌&&◌, ◌⊎◌, if◌then◌else◌}
use Rattle.mg_merge.proofs.Words.{Add, Board, Chosen, Eph, IsFresh, Item, Line, Modify, Move, Row, SetTopology, Subtract, SubtractAll, TermId, and_from}
use Rattle.mg_merge.proofs.Words.{creates_context, creates_ephemeral, effect, given, not_both, null, or_left, or_right, place_in, place_of, row_with}
use Rattle.mg_merge.proofs.Words.{same_itself, same_term, subtracted, the_line}
use Rattle.mg_alike.proofs.Words.{BoardsAlike, IsRenaming, OptionalRowsAlike, PlacesAlike, Renaming, TermsAlike}
use Rattle.mg_model.specs.declared.items.Added.TheVariants as added
use Rattle.mg_model.proofs.Terminations.{same_term_is}
use Rattle.mg_safety.proofs.Invariant.Shown.{IsAccounted}
use Rattle.mg_alike.proofs.Commands.Reading.{first_real, second_real, rows_place}
use Rattle.mg_alike.proofs.Commands.Renamed.{renamed, renamed_wider, renaming_after, creates_same, makes_same}
use Rattle.mg_alike.proofs.Commands.Effects.{rows_after, cuts_after}
use Rattle.mg_alike.proofs.Commands.Twins.{Twin, add_line, add_ephemeral, modify, move, one_of, other_of, IsTwin, InUse}
use Rattle.mg_alike.proofs.Shared.Pairs.{pair_cases, pair_new, terms_more, with_pair}

-- ---- whose row changes

-- the termination on which a command sets
abbrev pub NamedBy : Item → Chosen → TermId → Type 0
NamedBy (Add context (added.Line l) settings) chosen t = t ≡ Line l
NamedBy (Add context added.NewEphemeral settings) chosen t = t ≡ Eph chosen.ephemeral
NamedBy (Modify context u settings) chosen t = t ≡ u
NamedBy (Move context u settings) chosen t = t ≡ u
NamedBy _ chosen t = ⊥

set_or_not : (rows : TermId → Option Row) (v : TermId) (row : Option Row) (t : TermId) (P : Type 0) → (t ≡ v → P)
    → (row_with rows v row t ≡ rows t) ⊎ ((row_with rows v row t ≡ subtracted t) ⊎ P)
set_or_not rows v row t P named = go (same_term t v) refl
  where
    go : (test : Bool) → same_term t v ≡ test → ((if test then row else rows t) ≡ rows t) ⊎ (((if test then row else rows t) ≡ subtracted t) ⊎ P)
    go true e = inr (inr (named (same_term_is t v e)))
    go false e = inl refl

left_or_not : (leaves : Bool) (t : TermId) (row : Option Row) (P : Type 0)
    → ((if leaves then subtracted t else row) ≡ row) ⊎ (((if leaves then subtracted t else row) ≡ subtracted t) ⊎ P)
left_or_not true t row P = inr (inl refl)
left_or_not false t row P = inl refl

pub who_changes : (b : Board) (item : Item) (chosen : Chosen) (t : TermId)
    → ((effect b item chosen).row t ≡ b.row t) ⊎ (((effect b item chosen).row t ≡ subtracted t) ⊎ NamedBy item chosen t)
who_changes b (Add context (added.Line l) settings) chosen t = set_or_not b.row (Line l) _ t (t ≡ Line l) (λ e. e)
who_changes b (Add context added.NewEphemeral settings) chosen t = set_or_not b.row (Eph chosen.ephemeral) _ t (t ≡ Eph chosen.ephemeral) (λ e. e)
who_changes b (Modify context u settings) chosen t = set_or_not b.row u _ t (t ≡ u) (λ e. e)
who_changes b (Move context u settings) chosen t = set_or_not b.row u _ t (t ≡ u) (λ e. e)
who_changes b (Subtract context u) chosen t = left_or_not (same_term t u) t (b.row t) ⊥
who_changes b (SubtractAll context) chosen t = left_or_not (place_of b t == context.0) t (b.row t) ⊥
who_changes b (SetTopology context u v topology) chosen t = inl refl

left_nowhere : (t : TermId) → place_in (subtracted t) ≡ null
left_nowhere (Line l) = refl
left_nowhere (Eph x) = refl

used_on : (b : Board) (item : Item) (chosen : Chosen) (n : ℕ) → b.used_context n ≡ true → (effect b item chosen).used_context n ≡ true
used_on b item chosen n used = or_right _ (b.used_context n) used

given_on : (b : Board) (item : Item) (chosen : Chosen) (k : ℕ) → b.used_ephemeral k ≡ true → (effect b item chosen).used_ephemeral k ≡ true
given_on b item chosen k used = or_right _ (b.used_ephemeral k) used

new_given : (creates : Bool) (number : ℕ) (was : ℕ → Bool) → creates ≡ true → given creates number was number ≡ true
new_given creates number was is = or_left (creates && number == number) (was number) (and_from creates (number == number) is (same_itself number))

-- what stands for one another is given in both
used_both : (pairs : ℕ → ℕ → Bool) (creates also : Bool) (x y : ℕ) (was its : ℕ → Bool) → also ≡ creates
    → ((p q : ℕ) → pairs p q ≡ true → (was p ≡ true) × (its q ≡ true)) → (p q : ℕ)
    → with_pair creates x y pairs p q ≡ true → (given creates x was p ≡ true) × (given also y its q ≡ true)
used_both pairs creates also x y was its same used p q it = elim (pair_cases creates x y pairs p q it) [
  | inl new ↦ (
    subst (λ (n : ℕ). given creates x was n ≡ true) (sym new.1) (new_given creates x was new.0),
    subst (λ (n : ℕ). given also y its n ≡ true) (sym new.2) (new_given also y its (same ∙ new.0)),
  )
  | inr old ↦ let both = used p q old in (or_right _ (was p) both.0, or_right _ (its q) both.1)
]

-- ---- what stands can't be given again

-- so it is of the termination on which the command sets
record IsAccountedFor (b : Board) (t : TermId) : Type 0 where
  ephemeral : (x : ℕ) → t ≡ Eph x → b.used_ephemeral x ≡ true
  context : (place_of b t ≡ 0 → ⊥) → b.used_context (place_of b t) ≡ true

accounted_on : (b : Board) (item : Item) (chosen : Chosen) → IsAccounted b → ((t : TermId) → NamedBy item chosen t → IsAccountedFor (effect b item chosen) t)
    → IsAccounted (effect b item chosen)
accounted_on b item chosen accounted named = record {
  ephemerals = λ x there. elim (who_changes b item chosen (Eph x)) [
    | inl same ↦ given_on b item chosen x (accounted.ephemerals x (sym (ap is_some same) ∙ there))
    | inr (inl left) ↦ absurd (not_both there (ap is_some left))
    | inr (inr its) ↦ (named (Eph x) its).ephemeral x refl
  ];
  contexts = λ t real. elim (who_changes b item chosen t) [
    | inl same ↦ rw (ap place_in same) (used_on b item chosen (place_of b t) (accounted.contexts t (λ e. real (ap place_in same ∙ e))))
    | inr (inl left) ↦ absurd (real (ap place_in left ∙ left_nowhere t))
    | inr (inr its) ↦ (named t its).context real
  ];
}

eph_paired : (r : Renaming) (held : ℕ → Bool) (x : ℕ) (u : TermId) → TermsAlike r held (Eph x) u → (y : ℕ) × (r.ephemerals x y ≡ true)
eph_paired r held x (Eph y) is = (y, is)
eph_paired r held x (Line l) is = absurd is

eph_paired_back : (r : Renaming) (held : ℕ → Bool) (y : ℕ) (t : TermId) → TermsAlike r held t (Eph y) → (x : ℕ) × (r.ephemerals x y ≡ true)
eph_paired_back r held y (Eph x) is = (x, is)
eph_paired_back r held y (Line l) is = absurd is

module _ (r : Renaming) (held : ℕ → Bool) (renaming : IsRenaming r) (b m : Board) (alike : BoardsAlike r held b m) (ready : InUse r held b m) (twin : Twin)
    (is : IsTwin r held twin) (one other : Chosen) (fresh : IsFresh b (one_of twin) one) (also : IsFresh m (other_of twin) other) where
  still : IsRenaming (renamed r (one_of twin) one other)
  still = renaming_after r held renaming b m ready twin is one other fresh also

  more : (t u : TermId) → TermsAlike r held t u → TermsAlike (renamed r (one_of twin) one other) held t u
  more = terms_more r (renamed r (one_of twin) one other) held (renamed_wider r (one_of twin) one other).ephemerals

  contexts_used : (x y : ℕ) → (renamed r (one_of twin) one other).contexts x y ≡ true
      → ((effect b (one_of twin) one).used_context x ≡ true) × ((effect m (other_of twin) other).used_context y ≡ true)
  contexts_used = used_both r.contexts (creates_context (one_of twin)) (creates_context (other_of twin)) one.context other.context b.used_context m.used_context
      (creates_same r held renaming twin is) ready.contexts

  ephemerals_used : (x y : ℕ) → (renamed r (one_of twin) one other).ephemerals x y ≡ true
      → ((effect b (one_of twin) one).used_ephemeral x ≡ true) × ((effect m (other_of twin) other).used_ephemeral y ≡ true)
  ephemerals_used = used_both r.ephemerals (creates_ephemeral (one_of twin)) (creates_ephemeral (other_of twin)) one.ephemeral other.ephemeral b.used_ephemeral
      m.used_ephemeral (makes_same r held renaming twin) ready.ephemerals

  -- ---- the termination on which the command sets

  -- the two that it sets on stand for one another, or it sets on none
  named_pair : (((t : TermId) → NamedBy (one_of twin) one t → ⊥) × ((u : TermId) → NamedBy (other_of twin) other u → ⊥))
      ⊎ ((t : TermId) × (u : TermId) × ((v : TermId) → NamedBy (one_of twin) one v → v ≡ t) × ((v : TermId) → NamedBy (other_of twin) other v → v ≡ u)
      × TermsAlike (renamed r (one_of twin) one other) held t u)
  named_pair = of twin is (pair_new (creates_ephemeral (one_of twin)) one.ephemeral other.ephemeral r.ephemerals) more
    where
      of : (twin : Twin) → IsTwin r held twin → (creates_ephemeral (one_of twin) ≡ true → (renamed r (one_of twin) one other).ephemerals one.ephemeral other.ephemeral ≡ true)
          → ((t u : TermId) → TermsAlike r held t u → TermsAlike (renamed r (one_of twin) one other) held t u)
          → (((t : TermId) → NamedBy (one_of twin) one t → ⊥) × ((u : TermId) → NamedBy (other_of twin) other u → ⊥))
          ⊎ ((t : TermId) × (u : TermId) × ((v : TermId) → NamedBy (one_of twin) one v → v ≡ t) × ((v : TermId) → NamedBy (other_of twin) other v → v ≡ u)
          × TermsAlike (renamed r (one_of twin) one other) held t u)
      of (add_line c d l s z) is new more = inr (Line (the_line l), Line (the_line l), λ v e. e, λ v e. e, (refl, is.1))
      of (add_ephemeral c d s z) is new more = inr (Eph one.ephemeral, Eph other.ephemeral, λ v e. e, λ v e. e, new refl)
      of (modify c d v x s z) is new more = inr (v, x, λ v e. e, λ v e. e, more v x is.1)
      of (move c d v x s z) is new more = inr (v, x, λ v e. e, λ v e. e, more v x is.1)
      of _ is new more = inl (λ t e. e, λ u e. e)

  named_term : (t : TermId) → NamedBy (one_of twin) one t → (u : TermId) × TermsAlike (renamed r (one_of twin) one other) held t u
  named_term t named = elim named_pair [
    | inl none ↦ absurd (none.0 t named)
    | inr it ↦ (it.1, subst (λ (k : TermId). TermsAlike (renamed r (one_of twin) one other) held k it.1) (sym (it.2 t named)) it.4)
  ]

  named_back : (u : TermId) → NamedBy (other_of twin) other u → (t : TermId) × TermsAlike (renamed r (one_of twin) one other) held t u
  named_back u named = elim named_pair [
    | inl none ↦ absurd (none.1 u named)
    | inr it ↦ (it.0, subst (λ (k : TermId). TermsAlike (renamed r (one_of twin) one other) held it.0 k) (sym (it.3 u named)) it.4)
  ]

  rows_end : (t u : TermId) → TermsAlike (renamed r (one_of twin) one other) held t u
      → OptionalRowsAlike (renamed r (one_of twin) one other) t ((effect b (one_of twin) one).row t) ((effect m (other_of twin) other).row u)
  rows_end = rows_after r held renaming b m alike ready twin is one other fresh also

  places_end : (t u : TermId) → TermsAlike (renamed r (one_of twin) one other) held t u
      → PlacesAlike (renamed r (one_of twin) one other) (place_of (effect b (one_of twin) one) t) (place_of (effect m (other_of twin) other) u)
  places_end t u it = rows_place (renamed r (one_of twin) one other) t ((effect b (one_of twin) one).row t) ((effect m (other_of twin) other).row u) (rows_end t u it)

  accounted_one : (t : TermId) → NamedBy (one_of twin) one t → IsAccountedFor (effect b (one_of twin) one) t
  accounted_one t named =
      let u = named_term t named in
      record {
        ephemeral = λ x e.
            let y = eph_paired (renamed r (one_of twin) one other) held x u.0 (subst (λ (k : TermId). TermsAlike (renamed r (one_of twin) one other) held k u.0) e u.1) in
            (ephemerals_used x y.0 y.1).0;
        context = λ real. elim (places_end t u.0 u.1) [
          | inl none ↦ absurd (real none.0)
          | inr it ↦ (contexts_used (place_of (effect b (one_of twin) one) t) (place_of (effect m (other_of twin) other) u.0) it).0
        ];
      }

  accounted_other : (u : TermId) → NamedBy (other_of twin) other u → IsAccountedFor (effect m (other_of twin) other) u
  accounted_other u named =
      let t = named_back u named in
      record {
        ephemeral = λ y e.
            let x = eph_paired_back (renamed r (one_of twin) one other) held y t.0 (subst (λ (k : TermId). TermsAlike (renamed r (one_of twin) one other) held t.0 k) e t.1) in
            (ephemerals_used x.0 y x.1).1;
        context = λ real. elim (places_end t.0 u t.1) [
          | inl none ↦ absurd (real none.1)
          | inr it ↦ (contexts_used (place_of (effect b (one_of twin) one) t.0) (place_of (effect m (other_of twin) other) u) it).1
        ];
      }

  -- ---- who stands in a context of the call

  members_end : (x y : ℕ) → (renamed r (one_of twin) one other).contexts x y ≡ true → (t : TermId) → place_of (effect b (one_of twin) one) t ≡ x
      → (u : TermId) × TermsAlike (renamed r (one_of twin) one other) held t u
  members_end x y it t at = elim (who_changes b (one_of twin) one t) [
    | inl same ↦ elim (pair_cases (creates_context (one_of twin)) one.context other.context r.contexts x y it) [
      | inl new ↦ absurd (not_both (subst (λ (c : ℕ). b.used_context c ≡ true) (sym (ap place_in same) ∙ at ∙ new.1)
          (ready.accounted.contexts t (λ none. first_real (renamed r (one_of twin) one other) held still x y it (sym at ∙ ap place_in same ∙ none)))) (fresh.context new.0).1)
      | inr old ↦ let u = ready.members x y old t (sym (ap place_in same) ∙ at) in (u.0, more t u.0 u.1)
    ]
    | inr (inl left) ↦ absurd (first_real (renamed r (one_of twin) one other) held still x y it (sym at ∙ ap place_in left ∙ left_nowhere t))
    | inr (inr named) ↦ named_term t named
  ]

  members_last : (x y : ℕ) → (renamed r (one_of twin) one other).contexts x y ≡ true → (u : TermId) → place_of (effect m (other_of twin) other) u ≡ y
      → (t : TermId) × TermsAlike (renamed r (one_of twin) one other) held t u
  members_last x y it u at = elim (who_changes m (other_of twin) other u) [
    | inl same ↦ elim (pair_cases (creates_context (one_of twin)) one.context other.context r.contexts x y it) [
      | inl new ↦ absurd (not_both (subst (λ (c : ℕ). m.used_context c ≡ true) (sym (ap place_in same) ∙ at ∙ new.2)
          (ready.accounted_back.contexts u (λ none. second_real (renamed r (one_of twin) one other) held still x y it (sym at ∙ ap place_in same ∙ none))))
          (also.context (creates_same r held renaming twin is ∙ new.0)).1)
      | inr old ↦ let t = ready.members_back x y old u (sym (ap place_in same) ∙ at) in (t.0, more t.0 u t.1)
    ]
    | inr (inl left) ↦ absurd (second_real (renamed r (one_of twin) one other) held still x y it (sym at ∙ ap place_in left ∙ left_nowhere u))
    | inr (inr named) ↦ named_back u named
  ]

  pub boards_after : BoardsAlike (renamed r (one_of twin) one other) held (effect b (one_of twin) one) (effect m (other_of twin) other)
  boards_after = record { rows = rows_end; cuts = cuts_after r held renaming b m alike ready twin is one other fresh also }

  pub use_after : InUse (renamed r (one_of twin) one other) held (effect b (one_of twin) one) (effect m (other_of twin) other)
  use_after = record {
    members = members_end;
    members_back = members_last;
    contexts = contexts_used;
    ephemerals = ephemerals_used;
    accounted = accounted_on b (one_of twin) one ready.accounted accounted_one;
    accounted_back = accounted_on m (other_of twin) other ready.accounted_back accounted_other;
  }
