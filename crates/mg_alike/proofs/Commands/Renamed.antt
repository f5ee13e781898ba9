-- The renaming after a command: what it created in the one world stands for what it created in the other.
use Rattle.std.proofs.Common.{◌≡◌, ◌∙◌, ℕ, Bool, true, false, refl, sym, subst, inl, inr, ◌==◌, if◌then◌else◌}
use Rattle.mg_merge.proofs.Words.{Board, Chosen, Eph, IsFresh, Item, Line, TermId, choose, creates_context, creates_ephemeral, different, eq-eqb}
use Rattle.mg_merge.proofs.Words.{is_context_number, not_both, same_term, where_false, where_true}
use Rattle.mg_alike.proofs.Words.{IsRenaming, Renaming, TermsAlike}
use Rattle.mg_alike.proofs.Commands.Reading.{first_not_choose, second_not_choose}
use Rattle.mg_alike.proofs.Commands.Twins.{Twin, add_line, add_ephemeral, one_of, other_of, TargetsAlike, IsTwin, InUse}
use Rattle.mg_alike.proofs.Shared.Pairs.{with_pair, IsNew, pair_cases, pair_more, pair_new, still_one_to_one, IsWider}

abbrev pub renamed : Renaming → Item → Chosen → Chosen → Renaming
renamed r item one other = record {
  contexts = with_pair (creates_context item) one.context other.context r.contexts;
  ephemerals = with_pair (creates_ephemeral item) one.ephemeral other.ephemeral r.ephemerals;
}

pub renamed_wider : (r : Renaming) (item : Item) (one other : Chosen) → IsWider r (renamed r item one other)
renamed_wider r item one other = record {
  contexts = pair_more (creates_context item) one.context other.context r.contexts;
  ephemerals = pair_more (creates_ephemeral item) one.ephemeral other.ephemeral r.ephemerals;
}

module _ (r : Renaming) (held : ℕ → Bool) (renaming : IsRenaming r) where
  choose_same : (c d : ℕ) → TargetsAlike r c d → (d == choose) ≡ (c == choose)
  choose_same c d (inl (first, second)) = eq-eqb d choose second ∙ sym (eq-eqb c choose first)
  choose_same c d (inr is) =
      different d choose (second_not_choose r held renaming c d is) ∙ sym (different c choose (first_not_choose r held renaming c d is))

  -- both create a context or an ephemeral, or neither does
  pub creates_same : (twin : Twin) → IsTwin r held twin → creates_context (other_of twin) ≡ creates_context (one_of twin)
  creates_same (add_line c d l s z) is = choose_same c d is.0
  creates_same (add_ephemeral c d s z) is = choose_same c d is.0
  creates_same _ is = refl

  pub makes_same : (twin : Twin) → creates_ephemeral (other_of twin) ≡ creates_ephemeral (one_of twin)
  makes_same (add_line c d l s z) = refl
  makes_same _ = refl

  -- the context that is added to
  pub target_renamed : (c d x y : ℕ) → TargetsAlike r c d
      → with_pair (c == choose) x y r.contexts (if c == choose then x else c) (if d == choose then y else d) ≡ true
  target_renamed c d x y (inl (first, second)) =
      let its = eq-eqb c choose first in
      rw (where_true (c == choose) x c its, where_true (d == choose) y d (eq-eqb d choose second)) (pair_new (c == choose) x y r.contexts its)
  target_renamed c d x y (inr is) =
      rw (where_false (c == choose) x c (different c choose (first_not_choose r held renaming c d is)))
      (rw (where_false (d == choose) y d (different d choose (second_not_choose r held renaming c d is))) (pair_more (c == choose) x y r.contexts c d is))

  module _ (b m : Board) (ready : InUse r held b m) (twin : Twin) (is : IsTwin r held twin) (one other : Chosen) (fresh : IsFresh b (one_of twin) one)
      (also : IsFresh m (other_of twin) other) where
    new_context : creates_context (one_of twin) ≡ true → IsNew one.context other.context r.contexts
    new_context creates = record {
      one = λ q it. not_both (ready.contexts one.context q it).0 (fresh.context creates).1;
      other = λ p it. not_both (ready.contexts p other.context it).1 (also.context (creates_same twin is ∙ creates)).1;
    }

    new_ephemeral : creates_ephemeral (one_of twin) ≡ true → IsNew one.ephemeral other.ephemeral r.ephemerals
    new_ephemeral creates = record {
      one = λ q it. not_both (ready.ephemerals one.ephemeral q it).0 (fresh.ephemeral creates).1;
      other = λ p it. not_both (ready.ephemerals p other.ephemeral it).1 (also.ephemeral (makes_same twin ∙ creates)).1;
    }

    pub renaming_after : IsRenaming (renamed r (one_of twin) one other)
    renaming_after = record {
      contexts = still_one_to_one (creates_context (one_of twin)) one.context other.context r.contexts renaming.contexts new_context;
      ephemerals = still_one_to_one (creates_ephemeral (one_of twin)) one.ephemeral other.ephemeral r.ephemerals renaming.ephemerals new_ephemeral;
      numbers = λ x y it. elim (pair_cases (creates_context (one_of twin)) one.context other.context r.contexts x y it) [
        | inl new ↦ (
          subst is_context_number (sym new.1) (fresh.context new.0).0,
          subst is_context_number (sym new.2) (also.context (creates_same twin is ∙ new.0)).0,
        )
        | inr old ↦ renaming.numbers x y old
      ];
    }

-- a termination that stands for another is new, or it stood for it before
pub old_term : (r : Renaming) (held : ℕ → Bool) (item : Item) (one other : Chosen) (t u : TermId) → TermsAlike (renamed r item one other) held t u
    → (creates_ephemeral item ≡ true → same_term (Eph one.ephemeral) t ≡ false) → TermsAlike r held t u
old_term r held item one other (Line l) (Line k) is old = is
old_term r held item one other (Eph x) (Eph y) is old = elim (pair_cases (creates_ephemeral item) one.ephemeral other.ephemeral r.ephemerals x y is) [
  | inl new ↦ absurd (not_both (eq-eqb one.ephemeral x (sym new.1)) (old new.0))
  | inr before ↦ before
]
old_term r held item one other _ _ is old = absurd is
