-- A board on which a line went from the null context into another one is settled where it was so before: what is in use on it is what stands.
use Rattle.std.proofs.Common.{◌≡◌, ◌∙◌, ◌==◌, ℕ, Bool, true, false, Some, is_some, refl, sym, ap, subst, true≢false, inl, inr, ◌⊎◌}
use Rattle.std.specs.Prelude.{IsTrue, ◌&&◌, ◌||◌}
use Rattle.std.proofs.lemmas.Bool.{eqb-true, eq-eqb}
use Rattle.mg_examples.proofs.Words.{TermId, Eph, Row, Board, same_term, place_of, place_in, null_row, IsSettled, null, ContextExists, given}
use Rattle.mg_names.specs.declared.identifiers.TermId.TheVariants.{Line}

-- ---- numbers

pub given_or : (creates : Bool) (number : ℕ) (was : ℕ → Bool) (n : ℕ) → IsTrue (given creates number was n) → (n ≡ number) ⊎ IsTrue (was n)
given_or creates number was n h = by_test creates (n == number) refl h
  where
    by_test : (p q : Bool) → (n == number) ≡ q → IsTrue ((p && q) || was n) → (n ≡ number) ⊎ IsTrue (was n)
    by_test true true e here = inl (eqb-true n number e)
    by_test true false e here = inr here
    by_test false q e here = inr here

pub given_still : (creates : Bool) (number : ℕ) (was : ℕ → Bool) (n : ℕ) → IsTrue (was n) → IsTrue (given creates number was n)
given_still creates number was n h = by_test (creates && n == number)
  where
    by_test : (p : Bool) → IsTrue (p || was n)
    by_test true = refl
    by_test false = h

pub given_here : (number : ℕ) (was : ℕ → Bool) → IsTrue (given true number was number)
given_here number was = ap (λ p. p || was number) (eq-eqb number number refl)

-- ---- boards

-- the line l stands in the context c, and nothing else has changed
pub record Moves (b after : Board) (l c : ℕ) : Type 0 where
  pub row : Row
  pub was : b.row (Line (record { 0 = l })) ≡ Some null_row
  pub at : after.row (Line (record { 0 = l })) ≡ Some row
  pub place : row.place.0 ≡ c
  pub not_null : c ≡ null → ⊥
  pub elsewhere : (t : TermId) → same_term t (Line (record { 0 = l })) ≡ false → after.row t ≡ b.row t
  pub used : (n : ℕ) → IsTrue (after.used_context n) → (n ≡ c) ⊎ IsTrue (b.used_context n)
  pub used_here : IsTrue (after.used_context c)
  pub used_still : (n : ℕ) → IsTrue (b.used_context n) → IsTrue (after.used_context n)
  pub ephemerals : (k : ℕ) → after.used_ephemeral k ≡ b.used_ephemeral k

same_line : (t : TermId) (l : ℕ) → same_term t (Line (record { 0 = l })) ≡ true → t ≡ Line (record { 0 = l })
same_line (Line i) l e = ap (λ n. Line (record { 0 = n })) (eqb-true i.0 l e)
same_line (Eph k) l e = absurd (true≢false (sym e))

module _ (b after : Board) (l c : ℕ) (m : Moves b after l c) (is : IsSettled b b) where
  stands : (n : ℕ) → IsTrue (b.used_context n) → ContextExists after n
  stands n h = let e = (is.contexts n).0 h in (e.0, by_line e.0 e.1.0 e.1.1 (same_term e.1.0 (Line (record { 0 = l }))) refl)
    where
      by_line : (n ≡ null → ⊥) → (t : TermId) → place_of b t ≡ n → (p : Bool) → same_term t (Line (record { 0 = l })) ≡ p → (u : TermId) × (place_of after u ≡ n)
      by_line real t at true e = absurd (real (sym at ∙ ap (place_of b) (same_line t l e) ∙ ap place_in m.was))
      by_line real t at false e = (t, ap place_in (m.elsewhere t e) ∙ at)

  is_used : (n : ℕ) → ContextExists after n → IsTrue (after.used_context n)
  is_used n (real, (t, at)) = by_line (same_term t (Line (record { 0 = l }))) refl
    where
      by_line : (p : Bool) → same_term t (Line (record { 0 = l })) ≡ p → IsTrue (after.used_context n)
      by_line true e =
          let there : c ≡ n = sym m.place ∙ sym (ap place_in m.at) ∙ sym (ap (place_of after) (same_line t l e)) ∙ at in
          subst (λ (x : ℕ). IsTrue (after.used_context x)) there m.used_here
      by_line false e = m.used_still n ((is.contexts n).1 (real, (t, sym (ap place_in (m.elsewhere t e)) ∙ at)))

  pub still_settled : IsSettled after after
  still_settled = record {
    row = refl;
    cut = refl;
    class = refl;
    contexts = λ n. (λ h. by_use n (m.used n h), is_used n);
    ephemerals = λ k. m.ephemerals k ∙ is.ephemerals k ∙ sym (ap is_some (m.elsewhere (Eph k) refl));
  }
    where
      by_use : (n : ℕ) → (n ≡ c) ⊎ IsTrue (b.used_context n) → ContextExists after n
      by_use n (inl same) = (λ e. m.not_null (sym same ∙ e), (Line (record { 0 = l }), ap place_in m.at ∙ m.place ∙ sym same))
      by_use n (inr was) = stands n was
