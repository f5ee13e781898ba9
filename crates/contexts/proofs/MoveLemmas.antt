-- A termination leaves one context and enters another.
use Rattle.std.proofs.Common.{◌≡◌, ◌≢◌, ℕ, ◌==◌, Bool, true, false, IsTrue, if◌then◌else◌, refl, ap, sym, ◌∙◌, arith, List, Option, Some, None}
use Rattle.std.proofs.lemmas.Grind.{common_steps}
use Rattle.std.proofs.lemmas.Bool.{eqb-true}
use Rattle.mg_names.specs.declared.identifiers.TermId.{TermId}
use Rattle.mg_names.specs.declared.identifiers.TermId.TheVariants.{Eph}
use Rattle.mg_model.specs.declared.items.Settings.{Settings}
use Rattle.mg_model.specs.declared.rows.Row.{Row}
use Rattle.mg_model.specs.Board.{same_term, place_in}
use Rattle.mg_model.specs.Items.{without_cuts, is_ephemeral_number, given}
use Rattle.terminations.specs.Table.{Table, row_of, used_of, class_of, left, IsCreated}
use Rattle.mg_model.specs.Board.{row_with, null_row}
use Rattle.mg_model.proofs.Terminations.{same_term_is, same_term_turned}
use Rattle.mg_model.proofs.Cases.{same_itself}
use Rattle.contexts.specs.declared.cuts.Cut.{Cut}
use Rattle.contexts.specs.Groups.{with_member, without_member, without_cuts_of}
use Rattle.contexts.specs.Rows.{row_in}
use Rattle.contexts.specs.BoardValue.{cut_of, IsTied}
use Rattle.contexts.proofs.TermLemmas.{by_value}
use Rattle.contexts.proofs.TieLemmas.{Leaves, tied_left, cut_left, Enters, tied_entered, cut_entered}
use Rattle.contexts.proofs.RowLemmas.{row_with_here, changes_twice}

pub left_place : (row : Option Row) → place_in (left row) ≡ 0
left_place None = refl
left_place (Some row) = refl

pub record Moves (rows between after : TermId → Option Row) (m e n : ℕ → Option (List TermId)) (k j : ℕ → Option (List Cut)) (t : TermId) (one two : Option Row) (from to : ℕ) : Type 0 where
  pub was : place_in (rows t) ≡ from
  pub other : from ≢ to
  pub not_null : to ≡ 0 → ⊥
  pub first : place_in one ≡ 0
  pub second : place_in two ≡ to
  pub between_is : between ≡ row_with rows t one
  pub after_is : after ≡ row_with between t two
  pub entered : (d : ℕ) → e d ≡ (if d == to then with_member t (m to) else m d)
  pub left : (d : ℕ) → n d ≡ (if d == from then without_member t (e from) else e d)
  pub cuts : (d : ℕ) → j d ≡ (if d == from then without_cuts_of t (k from) else k d)

abbrev pub members_between : (ℕ → Option (List TermId)) → TermId → ℕ → ℕ → Option (List TermId)
members_between m t from d = if d == from then without_member t (m from) else m d

pub is_not : (n m : ℕ) → n ≢ m → (n == m) ≡ false
is_not n m e = grind (arith, common_steps)

pub moves_leaves : (rows between after : TermId → Option Row) (m e n : ℕ → Option (List TermId)) (k j : ℕ → Option (List Cut)) (t : TermId) (one two : Option Row) (from to : ℕ) →
    Moves rows between after m e n k j t one two from to → Leaves rows between m (members_between m t from) k j t one from
moves_leaves rows between after m e n k j t one two from to moves = record {
  was = moves.was;
  place = moves.first;
  rows_are = moves.between_is;
  members = λ d. refl;
  cuts = moves.cuts;
}

pub moves_enters : (rows between after : TermId → Option Row) (m e n : ℕ → Option (List TermId)) (k j : ℕ → Option (List Cut)) (t : TermId) (one two : Option Row) (from to : ℕ) →
    Moves rows between after m e n k j t one two from to → Enters between after (members_between m t from) n t two to
moves_enters rows between after m e n k j t one two from to moves = record {
  was = ap (λ (h : TermId → Option Row). place_in (h t)) moves.between_is ∙ ap place_in (row_with_here rows t one) ∙ moves.first;
  not_null = moves.not_null;
  place = moves.second;
  rows_are = moves.after_is;
  members = λ d. at d;
}
  where
    to_not : (to == from) ≡ false
    to_not = is_not to from (λ e. moves.other (sym e))

    from_not : (from == to) ≡ false
    from_not = is_not from to moves.other

    at : (d : ℕ) → n d ≡ (if d == to then with_member t (members_between m t from to) else members_between m t from d)
    at d = moves.left d ∙ by_value (d == from)
        (λ here. let is = eqb-true d from here in rw (is, from_not, same_itself from, moves.entered from, from_not) refl)
        (λ there. by_value (d == to)
        (λ here. rw (there, moves.entered d, here, to_not) refl)
        (λ other. rw (there, moves.entered d, other) refl))

pub tied_moved : (rows between after : TermId → Option Row) (m e n : ℕ → Option (List TermId)) (k j : ℕ → Option (List Cut)) (t : TermId) (one two : Option Row) (from to : ℕ) →
    Moves rows between after m e n k j t one two from to → IsTied rows m k → IsTied after n j
tied_moved rows between after m e n k j t one two from to moves tied =
    tied_entered _ _ _ _ _ _ _ _ (moves_enters rows between after m e n k j t one two from to moves)
    (tied_left _ _ _ _ _ _ _ _ _ (moves_leaves rows between after m e n k j t one two from to moves) tied)

pub same_turned : (t : TermId) → (λ (u : TermId). same_term u t) ≡ same_term t
same_turned t = λ i u. same_term_turned u t i

pub cut_moved : (rows between after : TermId → Option Row) (m e n : ℕ → Option (List TermId)) (k j : ℕ → Option (List Cut)) (t : TermId) (one two : Option Row) (from to : ℕ) →
    Moves rows between after m e n k j t one two from to → IsTied rows m k → cut_of after j ≡ without_cuts (same_term t) (cut_of rows k)
cut_moved rows between after m e n k j t one two from to moves tied =
    cut_entered _ _ _ _ _ _ _ _ (moves_enters rows between after m e n k j t one two from to moves)
    (tied_left _ _ _ _ _ _ _ _ _ (moves_leaves rows between after m e n k j t one two from to moves) tied)
    ∙ cut_left _ _ _ _ _ _ _ _ _ (moves_leaves rows between after m e n k j t one two from to moves) tied
    ∙ ap (λ (f : TermId → Bool). without_cuts f (cut_of rows k)) (same_turned t)

-- ---- the ephemeral that was created

pub record CreatedAt (old new : Table) (number : ℕ) : Type 0 where
  pub fits : is_ephemeral_number number
  pub of_class : IsTrue (class_of old number)
  pub fresh : used_of old number ≡ false
  pub absent : row_of old (Eph number) ≡ None
  pub rows : row_of new ≡ row_with (row_of old) (Eph number) (Some null_row)
  pub used : used_of new ≡ given true number (used_of old)
  pub class : new.ephemerals.class ≡ old.ephemerals.class

pub same_number : (i j : ℕ) → Eph i ≡ Eph j → i ≡ j
same_number i j e = cc

pub created_at : (old new : Table) (t : TermId) (number : ℕ) → t ≡ Eph number → IsCreated old new t → CreatedAt old new number
created_at old new t number is created =
    let same : created.number ≡ number = same_number created.number number (sym created.is ∙ is) in record {
      fits = rw (← same) created.fits;
      of_class = rw (← same) created.of_class;
      fresh = rw (← same) created.fresh;
      absent = rw (← is) created.absent;
      rows = rw (← is) created.rows;
      used = rw (← same) created.used;
      class = created.class;
    }

pub changed_new : (rows between after : TermId → Option Row) (t : TermId) (c : ℕ) (settings : Settings) → between ≡ row_with rows t (Some null_row) →
    after ≡ row_with between t (row_in c settings (between t)) → after ≡ row_with rows t (row_in c settings (Some null_row))
changed_new rows between after t c settings first second = changes_twice rows between after t (λ o. Some null_row) (row_in c settings) first second

-- an ephemeral that was created and is taken back leaves nothing
pub rows_back : (rows created back : TermId → Option Row) (k : ℕ) → rows (Eph k) ≡ None → created ≡ row_with rows (Eph k) (Some null_row) → back ≡ row_with created (Eph k) None → back ≡ rows
rows_back rows created back k absent made taken = taken ∙ (λ i t. (at t) i)
  where
    at : (t : TermId) → row_with created (Eph k) None t ≡ rows t
    at t = by_value (same_term t (Eph k))
        (λ e. let is = same_term_is t (Eph k) e in rw (e, is) (sym absent))
        (λ e. rw (e, made, e) refl)

pub used_back : (used created back : ℕ → Bool) (k : ℕ) → used k ≡ false → created ≡ given true k used → back ≡ (λ n. if n == k then false else created n) → back ≡ used
used_back used created back k fresh made taken = taken ∙ (λ i n. (at n) i)
  where
    at : (n : ℕ) → (if n == k then false else created n) ≡ used n
    at n = by_value (n == k)
        (λ e. let is : n ≡ k = grind (arith, common_steps) in rw (e, is) (sym fresh))
        (λ e. rw (e, made, e) refl)
