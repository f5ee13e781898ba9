-- The results of a command that both execute: who leaves the context, and what is told.
use Rattle.std.proofs.Common.{◌≡◌, ◌∙◌, ℕ, Bool, true, false, List, Option, refl, sym, ap, subst, inr, ◌&&◌}
use Rattle.mg_merge.proofs.Words.{Board, Chosen, Done, Eph, IsResult, Line, LineNo, Lists, TermId, and_first, and_from, and_second, creates_context}
use Rattle.mg_merge.proofs.Words.{creates_ephemeral, eqb-true, exists, false_not_true, only_if, place_of, same_test, subtracts, the_line}
use Rattle.mg_alike.proofs.Words.{BoardsAlike, DoneAlike, IsRenaming, OptionsAlike, Renaming, TermsAlike}
use Rattle.mg_model.proofs.Terminations.{same_term_is}
use Rattle.mg_alike.proofs.Commands.Reading.{same_term_same, at_same, place_alike, exists_same}
use Rattle.mg_alike.proofs.Commands.Renamed.{renamed, renamed_wider, creates_same, makes_same}
use Rattle.mg_alike.proofs.Commands.Twins.{Twin, subtract, subtract_all, one_of, other_of, IsTwin, InUse}
use Rattle.mg_alike.proofs.Shared.Pairs.{pair_new}
use Rattle.mg_alike.proofs.Shared.Images.{rising_same}

module _ (r : Renaming) (held : ℕ → Bool) (renaming : IsRenaming r) (b m : Board) (alike : BoardsAlike r held b m) (ready : InUse r held b m) where
  -- ---- who leaves

  pub leaves_same : (twin : Twin) → IsTwin r held twin → (t u : TermId) → TermsAlike r held t u → subtracts m (other_of twin) u ≡ subtracts b (one_of twin) t
  leaves_same (subtract c d v x) is t u it = same_term_same r held renaming t u v x it is.1
  leaves_same (subtract_all c d) is t u it =
      at_same r held renaming (place_of b t) (place_of m u) c d (place_alike r held renaming b m alike t u it) (inr is)
  leaves_same _ is t u it = refl

  leaves_known : (twin : Twin) → IsTwin r held twin → (t : TermId) → subtracts b (one_of twin) t ≡ true → (u : TermId) × TermsAlike r held t u
  leaves_known (subtract c d v x) is t e = (x, subst (λ (k : TermId). TermsAlike r held k x) (sym (same_term_is t v e)) is.1)
  leaves_known (subtract_all c d) is t e = ready.members c d is t (eqb-true (place_of b t) c e)
  leaves_known _ is t e = absurd (false_not_true e)

  leaves_back : (twin : Twin) → IsTwin r held twin → (u : TermId) → subtracts m (other_of twin) u ≡ true → (t : TermId) × TermsAlike r held t u
  leaves_back (subtract c d v x) is u e = (v, subst (λ (k : TermId). TermsAlike r held v k) (sym (same_term_is u x e)) is.1)
  leaves_back (subtract_all c d) is u e = ready.members_back c d is u (eqb-true (place_of m u) d e)
  leaves_back _ is u e = absurd (false_not_true e)

  -- ---- lines that leave

  line_paired : (l : LineNo) (u : TermId) → TermsAlike r held (Line l) u → TermsAlike r held (Line l) (Line l)
  line_paired l (Line k) is = (refl, is.1)
  line_paired l (Eph y) is = absurd is

  line_paired_back : (l : LineNo) (t : TermId) → TermsAlike r held t (Line l) → TermsAlike r held (Line l) (Line l)
  line_paired_back l (Line k) is = (refl, subst (λ (n : LineNo). held n.0 ≡ true) is.0 is.1)
  line_paired_back l (Eph y) is = absurd is

  pub lines_same : (twin : Twin) → IsTwin r held twin → (l : LineNo) → subtracts m (other_of twin) (Line l) ≡ subtracts b (one_of twin) (Line l)
  lines_same twin is l = same_test (subtracts m (other_of twin) (Line l)) (subtracts b (one_of twin) (Line l))
      (λ e. let t = leaves_back twin is (Line l) e in sym (leaves_same twin is (Line l) (Line l) (line_paired_back l t.0 t.1)) ∙ e)
      (λ e. let u = leaves_known twin is (Line l) e in leaves_same twin is (Line l) (Line l) (line_paired l u.0 u.1) ∙ e)

  -- whether it leaves, and exists
  pub told_same : (twin : Twin) → IsTwin r held twin → (l : LineNo)
      → (subtracts m (other_of twin) (Line l) && exists m (Line l)) ≡ (subtracts b (one_of twin) (Line l) && exists b (Line l))
  told_same twin is l = ap (λ (test : Bool). test && exists m (Line l)) (lines_same twin is l) ∙ go (subtracts b (one_of twin) (Line l)) refl
    where
      go : (test : Bool) → subtracts b (one_of twin) (Line l) ≡ test → (test && exists m (Line l)) ≡ (test && exists b (Line l))
      go true e = let u = leaves_known twin is (Line l) e in exists_same r held renaming b m alike (Line l) (Line l) (line_paired l u.0 u.1)
      go false e = refl

  -- ---- ephemerals that leave

  pub told_onward : (twin : Twin) → IsTwin r held twin → (x : ℕ) → (subtracts b (one_of twin) (Eph x) && exists b (Eph x)) ≡ true
      → (y : ℕ) × (r.ephemerals x y ≡ true) × ((subtracts m (other_of twin) (Eph y) && exists m (Eph y)) ≡ true)
  told_onward twin is x e = of (leaves_known twin is (Eph x) leaves).0 (leaves_known twin is (Eph x) leaves).1
    where
      leaves : subtracts b (one_of twin) (Eph x) ≡ true
      leaves = and_first (subtracts b (one_of twin) (Eph x)) (exists b (Eph x)) e

      of : (u : TermId) → TermsAlike r held (Eph x) u → (y : ℕ) × (r.ephemerals x y ≡ true) × ((subtracts m (other_of twin) (Eph y) && exists m (Eph y)) ≡ true)
      of (Eph y) it = (
        y,
        it,
        and_from (subtracts m (other_of twin) (Eph y)) (exists m (Eph y)) (leaves_same twin is (Eph x) (Eph y) it ∙ leaves)
            (exists_same r held renaming b m alike (Eph x) (Eph y) it ∙ and_second (subtracts b (one_of twin) (Eph x)) (exists b (Eph x)) e),
      )
      of (Line l) it = absurd it

  pub told_back : (twin : Twin) → IsTwin r held twin → (y : ℕ) → (subtracts m (other_of twin) (Eph y) && exists m (Eph y)) ≡ true
      → (x : ℕ) × (r.ephemerals x y ≡ true) × ((subtracts b (one_of twin) (Eph x) && exists b (Eph x)) ≡ true)
  told_back twin is y e = of (leaves_back twin is (Eph y) leaves).0 (leaves_back twin is (Eph y) leaves).1
    where
      leaves : subtracts m (other_of twin) (Eph y) ≡ true
      leaves = and_first (subtracts m (other_of twin) (Eph y)) (exists m (Eph y)) e

      of : (t : TermId) → TermsAlike r held t (Eph y) → (x : ℕ) × (r.ephemerals x y ≡ true) × ((subtracts b (one_of twin) (Eph x) && exists b (Eph x)) ≡ true)
      of (Eph x) it = (
        x,
        it,
        and_from (subtracts b (one_of twin) (Eph x)) (exists b (Eph x)) (sym (leaves_same twin is (Eph x) (Eph y) it) ∙ leaves)
            (sym (exists_same r held renaming b m alike (Eph x) (Eph y) it) ∙ and_second (subtracts m (other_of twin) (Eph y)) (exists m (Eph y)) e),
      )
      of (Line l) it = absurd it

  -- ---- what is told

  told_if : (pairs : ℕ → ℕ → Bool) (creates also : Bool) (x y : ℕ) → also ≡ creates → (creates ≡ true → pairs x y ≡ true) → (o p : Option ℕ) → o ≡ only_if creates x
      → p ≡ only_if also y → OptionsAlike pairs o p
  told_if pairs creates also x y same new o p first second =
      rw (first, second, same) (go creates new)
    where
      go : (test : Bool) → (test ≡ true → pairs x y ≡ true) → OptionsAlike pairs (only_if test x) (only_if test y)
      go true new = new refl
      go false new = tt

  members_same : (p q : ℕ → Bool) (xs ys : List ℕ) → Lists p xs → Lists q ys → ((n : ℕ) → q n ≡ p n) → ys ≡ xs
  members_same p q xs ys first second same = rising_same ys xs second.rising first.rising (λ n. (
    λ there. (first.exactly n).1 (sym (same n) ∙ (second.exactly n).0 there),
    λ there. (second.exactly n).1 (same n ∙ (first.exactly n).0 there),
  ))

  pub done_after : (twin : Twin) → IsTwin r held twin → (one other : Chosen) → (done also : Done) → IsResult b (one_of twin) one done
      → IsResult m (other_of twin) other also → DoneAlike (renamed r (one_of twin) one other) done also
  done_after twin is one other done also first second = record {
    context = told_if (renamed r (one_of twin) one other).contexts (creates_context (one_of twin)) (creates_context (other_of twin)) one.context other.context
        (creates_same r held renaming twin is) (pair_new (creates_context (one_of twin)) one.context other.context r.contexts) done.context also.context first.context second.context;
    ephemeral = told_if (renamed r (one_of twin) one other).ephemerals (creates_ephemeral (one_of twin)) (creates_ephemeral (other_of twin)) one.ephemeral other.ephemeral
        (makes_same r held renaming twin) (pair_new (creates_ephemeral (one_of twin)) one.ephemeral other.ephemeral r.ephemerals) done.ephemeral also.ephemeral
        first.ephemeral second.ephemeral;
    lines = members_same (λ n. subtracts b (one_of twin) (Line (the_line n)) && exists b (Line (the_line n)))
        (λ n. subtracts m (other_of twin) (Line (the_line n)) && exists m (Line (the_line n))) done.lines also.lines first.lines second.lines
        (λ n. told_same twin is (the_line n));
    ephemerals = record {
      onward = λ x there.
          let y = told_onward twin is x ((first.ephemerals.exactly x).0 there) in
          (y.0, (renamed_wider r (one_of twin) one other).ephemerals x y.0 y.1, (second.ephemerals.exactly y.0).1 y.2);
      back = λ y there.
          let x = told_back twin is y ((second.ephemerals.exactly y).0 there) in
          (x.0, (renamed_wider r (one_of twin) one other).ephemerals x.0 y x.1, (first.ephemerals.exactly x.0).1 x.2);
    };
  }
