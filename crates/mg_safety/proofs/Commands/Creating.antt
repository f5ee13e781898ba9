-- An ephemeral is created for a name that is bound to none: as if it first stood in the null context, Inactive, without a Remote and with
-- nothing cut. The board with it shows the configuration in which the name stands there, and it is owned.
use Rattle.mg_safety.proofs.Words.{◌≡◌, ◌∙◌, ◌&&◌, ◌||◌, ℕ, Bool, true, false, not, Some, None, is_some, refl, sym, ap, if◌then◌else◌, ◌==◌, TermId, Line, Eph}
use Rattle.mg_safety.proofs.Words.{Inactive, Null, Row, Board, same_term, exists, place_of, place_in, with_at, Configuration, with_of, given, without_cuts}
use Rattle.mg_safety.proofs.Words.{none_is_some, the_some, different, not_both, or_right, and_from, false_from_ne_true}
use Rattle.mg_model.specs.declared.commands.Termination.TheVariants as termination
use Rattle.mg_safety.proofs.InvariantWords.{Naming, IsAccounted, Owner, owned_at, AreBuilt}
use Rattle.mg_safety.proofs.Commands.Binding.{with_at_here, with_at_kept, with_at_some, given_new, given_still}
use Rattle.mg_safety.proofs.Commands.OneRow.{HasOneRow, row_here, row_elsewhere, accounted_after}

-- the row of an ephemeral for which nothing was set yet
abbrev pub first_row : Row
first_row = record { place = record { 0 = 0 }; mode = Inactive; remote = None }

abbrev pub with_created : Board → ℕ → Board
with_created b x = record b {
  row = λ v. if same_term v (Eph x) then Some first_row else b.row v;
  cut = without_cuts (same_term (Eph x)) b.cut;
  used_ephemeral = given true x b.used_ephemeral;
}

abbrev pub with_ephemeral_name : Naming → ℕ → ℕ → Naming
with_ephemeral_name n k x = record n { ephemerals = with_at n.ephemerals k (Some x) }

abbrev pub with_present : Configuration → ℕ → Configuration
with_present c k = record c { spot = with_of c.spot (termination.Ephemeral k) Null }

module _ (b : Board) (x : ℕ) (fresh : b.used_ephemeral x ≡ false) (accounted : IsAccounted b) where
  pub created_row : HasOneRow b (with_created b x) (Eph x) first_row
  created_row = record { row = λ v. refl; used_context = λ y e. e; used_ephemeral = λ y e. given_still true x b.used_ephemeral y e }

  -- what was given, or exists, isn't the fresh ephemeral
  pub given_apart : (y : ℕ) → b.used_ephemeral y ≡ true → (y == x) ≡ false
  given_apart y before = different y x (λ same. not_both before (ap b.used_ephemeral same ∙ fresh))

  pub stands_apart : (y : ℕ) → exists b (Eph y) ≡ true → (y == x) ≡ false
  stands_apart y stands = given_apart y (accounted.ephemerals y stands)

  pub kept : (y : ℕ) → (y == x) ≡ false → exists (with_created b x) (Eph y) ≡ exists b (Eph y)
  kept y other = ap is_some (row_elsewhere b (with_created b x) (Eph x) first_row created_row (Eph y) other)

  pub accounted_created : IsAccounted (with_created b x)
  accounted_created = accounted_after b (with_created b x) (Eph x) first_row created_row accounted
      (λ y same. let one : y ≡ x = cc in ap (given true x b.used_ephemeral) one ∙ given_new x b.used_ephemeral)
      (λ real. absurd (real refl))

  pub built_created : (n m : Naming) (k : ℕ) → AreBuilt n m b
      → AreBuilt (with_ephemeral_name n k x) (with_ephemeral_name m k x) (with_created b x)
  built_created n m k built = record {
    lines = built.lines;
    context = built.context;
    context_lost = λ j y bound lost there. lost_context j y bound lost there.0 there.1.0 (same_term there.1.0 (Eph x)) refl there.1.1;
    context_real = built.context_real;
    ephemeral = λ i y bound. with_at_some n.ephemerals k (Some x) i (Some y) (with_at m.ephemerals k (Some x) i ≡ Some y) bound
        (λ same is. ap (with_at m.ephemerals k (Some x)) same ∙ with_at_here m.ephemerals k (Some x) ∙ is)
        (λ other before. with_at_kept m.ephemerals k (Some x) i other ∙ built.ephemeral i y before);
    ephemeral_lost = λ i y bound lost. with_at_some n.ephemerals k (Some x) i None (exists (with_created b x) (Eph y) ≡ false) lost
        (λ same is. absurd (none_is_some x (sym is)))
        (λ other before. let was : m.ephemerals i ≡ Some y = sym (with_at_kept m.ephemerals k (Some x) i other) ∙ bound in
        kept y (given_apart y (built.ephemeral_given i y was)) ∙ built.ephemeral_lost i y was before);
    ephemeral_given = λ i y bound. with_at_some m.ephemerals k (Some x) i (Some y) (given true x b.used_ephemeral y ≡ true) bound
        (λ same is. ap (given true x b.used_ephemeral) (sym (the_some x y is)) ∙ given_new x b.used_ephemeral)
        (λ other before. given_still true x b.used_ephemeral y (built.ephemeral_given i y before));
  }
    where
      lost_context : (j y : ℕ) → m.contexts j ≡ Some y → n.contexts j ≡ None → (y ≡ 0 → ⊥) → (t : TermId) (p : Bool)
          → same_term t (Eph x) ≡ p → place_of (with_created b x) t ≡ y → ⊥
      lost_context j y bound lost real t true e at =
          real (sym at ∙ ap place_in (row_here b (with_created b x) (Eph x) first_row created_row t e))
      lost_context j y bound lost real t false e at =
          built.context_lost j y bound lost
          (real, (t, sym (ap place_in (row_elsewhere b (with_created b x) (Eph x) first_row created_row t e)) ∙ at))

  -- ---- what is owned

  module _ (own : Owner) (earlier : (y : ℕ) → own.before y ≡ true → b.used_ephemeral y ≡ true) where
    pub created_owned : owned_at own (with_created b x) (Eph x) ≡ true
    created_owned = or_right (own.created x) (given true x b.used_ephemeral x && not (own.before x))
        (and_from (given true x b.used_ephemeral x) (not (own.before x)) (given_new x b.used_ephemeral)
        (ap not (false_from_ne_true (own.before x) (λ e. not_both (earlier x e) fresh))))

    given_elsewhere : (y : ℕ) → (y == x) ≡ false → given true x b.used_ephemeral y ≡ b.used_ephemeral y
    given_elsewhere y other = ap (λ p. p || b.used_ephemeral y) other

    pub owned_elsewhere : (y : ℕ) → (y == x) ≡ false → owned_at own (with_created b x) (Eph y) ≡ owned_at own b (Eph y)
    owned_elsewhere y other = ap (λ p. own.created y || (p && not (own.before y))) (given_elsewhere y other)

    -- what is owned but the new one was owned before
    pub owned_back : (v : TermId) → same_term v (Eph x) ≡ false → owned_at own (with_created b x) v ≡ true → owned_at own b v ≡ true
    owned_back (Line l) other mine = mine
    owned_back (Eph y) other mine = sym (owned_elsewhere y other) ∙ mine
