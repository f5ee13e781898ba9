-- A renaming to which a pair is added: it stays one to one where neither number of the pair is renamed. And what is alike stays so where more is renamed.
use Rattle.std.proofs.Common.{◌≡◌, ◌∙◌, ℕ, Bool, true, false, List, [], ◌∷◌, Option, Some, None, refl, sym, subst, inl, inr, ◌==◌, ◌||◌, ◌&&◌, ◌⊎◌}
use Rattle.mg_merge.proofs.Words.{Done, Eph, Line, Row, TermId, and_from, eqb-true, or_left, or_right, same_itself}
use Rattle.mg_alike.proofs.Words.{DoneAlike, IsOneToOne, OptionalRowsAlike, Pairwise, PlacesAlike, RemotesAlike, Renaming, TermsAlike}
use Rattle.mg_alike.proofs.Shared.Options.{options_more, sets_more}

-- ---- one pair more

abbrev pub with_pair : Bool → ℕ → ℕ → (ℕ → ℕ → Bool) → ℕ → ℕ → Bool
with_pair creates x y pairs p q = (creates && ((p == x) && (q == y))) || pairs p q

-- neither number is renamed
pub record IsNew (x y : ℕ) (pairs : ℕ → ℕ → Bool) : Type 0 where
  pub one : (q : ℕ) → pairs x q ≡ true → ⊥
  pub other : (p : ℕ) → pairs p y ≡ true → ⊥

pub pair_cases : (creates : Bool) (x y : ℕ) (pairs : ℕ → ℕ → Bool) (p q : ℕ) → with_pair creates x y pairs p q ≡ true
    → ((creates ≡ true) × (p ≡ x) × (q ≡ y)) ⊎ (pairs p q ≡ true)
pair_cases false x y pairs p q e = inr e
pair_cases true x y pairs p q e = go (p == x) (q == y) refl refl e
  where
    go : (first second : Bool) → (p == x) ≡ first → (q == y) ≡ second → ((first && second) || pairs p q) ≡ true
        → ((true ≡ true) × (p ≡ x) × (q ≡ y)) ⊎ (pairs p q ≡ true)
    go true true is its e = inl (refl, eqb-true p x is, eqb-true q y its)
    go _ _ is its e = inr e

pub pair_more : (creates : Bool) (x y : ℕ) (pairs : ℕ → ℕ → Bool) (p q : ℕ) → pairs p q ≡ true → with_pair creates x y pairs p q ≡ true
pair_more creates x y pairs p q is = or_right (creates && ((p == x) && (q == y))) (pairs p q) is

pub pair_new : (creates : Bool) (x y : ℕ) (pairs : ℕ → ℕ → Bool) → creates ≡ true → with_pair creates x y pairs x y ≡ true
pair_new creates x y pairs is =
    or_left (creates && ((x == x) && (y == y))) (pairs x y) (and_from creates ((x == x) && (y == y)) is (and_from (x == x) (y == y) (same_itself x) (same_itself y)))

pub still_one_to_one : (creates : Bool) (x y : ℕ) (pairs : ℕ → ℕ → Bool) → IsOneToOne pairs → (creates ≡ true → IsNew x y pairs)
    → IsOneToOne (with_pair creates x y pairs)
still_one_to_one creates x y pairs one new = record {
  onward = λ p q z e f. onward p q z (pair_cases creates x y pairs p q e) (pair_cases creates x y pairs p z f);
  back = λ p q z e f. back p q z (pair_cases creates x y pairs p z e) (pair_cases creates x y pairs q z f);
}
  where
    onward : (p q z : ℕ) → ((creates ≡ true) × (p ≡ x) × (q ≡ y)) ⊎ (pairs p q ≡ true) → ((creates ≡ true) × (p ≡ x) × (z ≡ y)) ⊎ (pairs p z ≡ true) → q ≡ z
    onward p q z (inl first) (inl second) = first.2 ∙ sym second.2
    onward p q z (inl first) (inr old) = absurd ((new first.0).one z (subst (λ (n : ℕ). pairs n z ≡ true) first.1 old))
    onward p q z (inr old) (inl second) = absurd ((new second.0).one q (subst (λ (n : ℕ). pairs n q ≡ true) second.1 old))
    onward p q z (inr old) (inr also) = one.onward p q z old also

    back : (p q z : ℕ) → ((creates ≡ true) × (p ≡ x) × (z ≡ y)) ⊎ (pairs p z ≡ true) → ((creates ≡ true) × (q ≡ x) × (z ≡ y)) ⊎ (pairs q z ≡ true) → p ≡ q
    back p q z (inl first) (inl second) = first.1 ∙ sym second.1
    back p q z (inl first) (inr old) = absurd ((new first.0).other q (subst (λ (n : ℕ). pairs q n ≡ true) first.2 old))
    back p q z (inr old) (inl second) = absurd ((new second.0).other p (subst (λ (n : ℕ). pairs p n ≡ true) second.2 old))
    back p q z (inr old) (inr also) = one.back p q z old also

-- ---- more is renamed

pub record IsWider (r wide : Renaming) : Type 0 where
  pub contexts : (x y : ℕ) → r.contexts x y ≡ true → wide.contexts x y ≡ true
  pub ephemerals : (x y : ℕ) → r.ephemerals x y ≡ true → wide.ephemerals x y ≡ true

pub wider_itself : (r : Renaming) → IsWider r r
wider_itself r = record { contexts = λ x y is. is; ephemerals = λ x y is. is }

pub wider_on : (r wide wider : Renaming) → IsWider r wide → IsWider wide wider → IsWider r wider
wider_on r wide wider first second = record {
  contexts = λ x y is. second.contexts x y (first.contexts x y is);
  ephemerals = λ x y is. second.ephemerals x y (first.ephemerals x y is);
}

pub terms_more : (r wide : Renaming) (held : ℕ → Bool) → ((x y : ℕ) → r.ephemerals x y ≡ true → wide.ephemerals x y ≡ true) → (t u : TermId)
    → TermsAlike r held t u → TermsAlike wide held t u
terms_more r wide held also (Line l) (Line k) is = is
terms_more r wide held also (Eph x) (Eph y) is = also x y is
terms_more r wide held also _ _ is = absurd is

module _ (r wide : Renaming) (wider : IsWider r wide) where
  pub places_more : (c d : ℕ) → PlacesAlike r c d → PlacesAlike wide c d
  places_more c d (inl none) = inl none
  places_more c d (inr is) = inr (wider.contexts c d is)

  pub remotes_more : (t : TermId) (o p : Option ℕ) → RemotesAlike r t o p → RemotesAlike wide t o p
  remotes_more (Line l) o p alike = tt
  remotes_more (Eph x) o p alike = options_more r.ephemerals wide.ephemerals wider.ephemerals o p alike

  pub rows_more : (t : TermId) (o p : Option Row) → OptionalRowsAlike r t o p → OptionalRowsAlike wide t o p
  rows_more t None None alike = tt
  rows_more t (Some one) (Some other) alike =
      assumption (places_more one.place.0 other.place.0 alike.place, remotes_more t one.remote other.remote alike.remote)
  rows_more t _ _ alike = absurd alike

  pub done_more : (one other : Done) → DoneAlike r one other → DoneAlike wide one other
  done_more one other alike = record {
    context = options_more r.contexts wide.contexts wider.contexts one.context other.context alike.context;
    ephemeral = options_more r.ephemerals wide.ephemerals wider.ephemerals one.ephemeral other.ephemeral alike.ephemeral;
    lines = alike.lines;
    ephemerals = sets_more r.ephemerals wide.ephemerals wider.ephemerals one.ephemerals other.ephemerals alike.ephemerals;
  }

  pub results_more : (results others : List Done) → Pairwise (DoneAlike r) results others → Pairwise (DoneAlike wide) results others
  results_more [] [] alike = tt
  results_more (one ∷ results) (other ∷ others) alike = (done_more one other alike.0, results_more results others alike.1)
  results_more _ _ alike = absurd alike
