-- What a board is after the row of one termination was changed: what exists, what was given, what names that are in force no more
-- name, and what was owned.
use Rattle.mg_safety.proofs.Words.{◌≡◌, ◌∙◌, ℕ, Bool, true, false, Some, None, is_some, refl, sym, ap, inl, inr, ◌⊎◌, eqb-true, if◌then◌else◌, TermId, Line}
use Rattle.mg_safety.proofs.Words.{Eph, Row, Board, same_term, exists, place_of, place_in, same_term_is, cases_Bool, false_from_ne_true, not_both}
use Rattle.mg_safety.proofs.InvariantWords.{Naming, IsAccounted, Owner, owned_at, AreBuilt, ChangesOwned}

-- ---- one row changed

-- the row of u became r, and nothing that was given is taken back
pub record HasOneRow (b after : Board) (u : TermId) (r : Row) : Type 0 where
  pub row : (v : TermId) → after.row v ≡ (if same_term v u then Some r else b.row v)
  pub used_context : (x : ℕ) → b.used_context x ≡ true → after.used_context x ≡ true
  pub used_ephemeral : (x : ℕ) → b.used_ephemeral x ≡ true → after.used_ephemeral x ≡ true

module _ (b after : Board) (u : TermId) (r : Row) (one : HasOneRow b after u r) where
  pub row_here : (v : TermId) → same_term v u ≡ true → after.row v ≡ Some r
  row_here v e = one.row v ∙ ap (λ p. if p then Some r else b.row v) e

  pub row_elsewhere : (v : TermId) → same_term v u ≡ false → after.row v ≡ b.row v
  row_elsewhere v e = one.row v ∙ ap (λ p. if p then Some r else b.row v) e

  pub exists_as_before : exists b u ≡ true → (v : TermId) → exists after v ≡ exists b v
  exists_as_before stood v = elim (cases_Bool (same_term v u)) [
    | inl e ↦ ap is_some (row_here v e) ∙ sym (ap (λ t. exists b t) (same_term_is v u e) ∙ stood)
    | inr e ↦ ap is_some (row_elsewhere v e)
  ]

  pub accounted_after : IsAccounted b → ((x : ℕ) → u ≡ Eph x → after.used_ephemeral x ≡ true)
      → ((r.place.0 ≡ 0 → ⊥) → after.used_context r.place.0 ≡ true) → IsAccounted after
  accounted_after accounted ephemeral context = record {
    ephemerals = λ x. ephemerals x (same_term (Eph x) u) refl;
    contexts = λ t. contexts t (same_term t u) refl;
  }
    where
      ephemerals : (x : ℕ) (p : Bool) → same_term (Eph x) u ≡ p → exists after (Eph x) ≡ true → after.used_ephemeral x ≡ true
      ephemerals x true e stands = ephemeral x (sym (same_term_is (Eph x) u e))
      ephemerals x false e stands = one.used_ephemeral x (accounted.ephemerals x (sym (ap is_some (row_elsewhere (Eph x) e)) ∙ stands))

      contexts : (t : TermId) (p : Bool) → same_term t u ≡ p → (place_of after t ≡ 0 → ⊥) → after.used_context (place_of after t) ≡ true
      contexts t true e stands =
          let at : place_of after t ≡ r.place.0 = ap place_in (row_here t e) in
          ap after.used_context at ∙ context (λ null. stands (at ∙ null))
      contexts t false e stands =
          let at : place_of after t ≡ place_of b t = ap place_in (row_elsewhere t e) in
          ap after.used_context at ∙ one.used_context (place_of b t) (accounted.contexts t (λ null. stands (at ∙ null)))

  -- what a name that is in force no more names stays away, where the changed row stands in no such context
  pub built_as_before : (n m : Naming) → AreBuilt n m b → exists b u ≡ true
      → ((r.place.0 ≡ 0 → ⊥) → (j : ℕ) → m.contexts j ≡ Some r.place.0 → n.contexts j ≡ None → ⊥) → AreBuilt n m after
  built_as_before n m built stood in_force = record {
    lines = built.lines;
    context = built.context;
    context_lost = λ j x bound lost there. lost_context j x bound lost there.0 there.1.0 (same_term there.1.0 u) refl there.1.1;
    context_real = λ j x bound. let real = built.context_real j x bound in (real.0, one.used_context x real.1);
    ephemeral = built.ephemeral;
    ephemeral_lost = λ k x bound lost. exists_as_before stood (Eph x) ∙ built.ephemeral_lost k x bound lost;
    ephemeral_given = λ k x bound. one.used_ephemeral x (built.ephemeral_given k x bound);
  }
    where
      lost_context : (j x : ℕ) → m.contexts j ≡ Some x → n.contexts j ≡ None → (x ≡ 0 → ⊥) → (t : TermId) (p : Bool) → same_term t u ≡ p
          → place_of after t ≡ x → ⊥
      lost_context j x bound lost real t true e at =
          let is : r.place.0 ≡ x = sym (ap place_in (row_here t e)) ∙ at in
          in_force (λ null. real (sym is ∙ null)) j (bound ∙ ap (λ y. Some y) (sym is)) lost
      lost_context j x bound lost real t false e at =
          built.context_lost j x bound lost (real, (t, sym (ap place_in (row_elsewhere t e)) ∙ at))

  pub changes_as_owned : (own : Owner) → owned_at own after u ≡ true
      → ((v w : TermId) → same_term v u ≡ false → same_term w u ≡ false → after.cut v w ≡ b.cut v w)
      → ((v : TermId) → same_term v u ≡ false → owned_at own after v ≡ true → owned_at own b v ≡ true)
      → ((r.place.0 ≡ 0 → ⊥) → ((w : TermId) × (owned_at own b w ≡ true) × (place_of b w ≡ r.place.0)) ⊎ (b.used_context r.place.0 ≡ false))
      → (exists b u ≡ true) ⊎ ((x : ℕ) × (u ≡ Eph x) × (b.used_ephemeral x ≡ false)) → ChangesOwned own b after
  changes_as_owned own mine cuts back stood existed = record {
    row = λ t other. row_elsewhere t (another t other);
    cut = λ t v first second. cuts t v (another t first) (another v second);
    used_context = one.used_context;
    used_ephemeral = one.used_ephemeral;
    place = λ t. place t (same_term t u) refl;
    line = λ l. line l existed;
    ephemeral = λ x. ephemeral x (same_term (Eph x) u) refl existed;
  }
    where
      another : (t : TermId) → owned_at own after t ≡ false → same_term t u ≡ false
      another t other = false_from_ne_true (same_term t u) (λ e. not_both mine (ap (λ v. owned_at own after v) (sym (same_term_is t u e)) ∙ other))

      place : (t : TermId) (p : Bool) → same_term t u ≡ p → owned_at own after t ≡ true → (place_of after t ≡ 0 → ⊥)
          → ((w : TermId) × (owned_at own b w ≡ true) × (place_of b w ≡ place_of after t)) ⊎ (b.used_context (place_of after t) ≡ false)
      place t true e owned there =
          let at : place_of after t ≡ r.place.0 = ap place_in (row_here t e) in
          elim (stood (λ null. there (at ∙ null))) [
            | inl w ↦ inl (w.0, w.1, w.2 ∙ sym at)
            | inr fresh ↦ inr (ap b.used_context at ∙ fresh)
          ]
      place t false e owned there = inl (t, back t e owned, sym (ap place_in (row_elsewhere t e)))

      line : (l : ℕ) → (exists b u ≡ true) ⊎ ((x : ℕ) × (u ≡ Eph x) × (b.used_ephemeral x ≡ false))
          → exists after (Line (record { 0 = l })) ≡ exists b (Line (record { 0 = l }))
      line l (inl stands) = exists_as_before stands (Line (record { 0 = l }))
      line l (inr new) = ap is_some (row_elsewhere (Line (record { 0 = l })) (ap (same_term (Line (record { 0 = l }))) new.1))

      ephemeral : (x : ℕ) (p : Bool) → same_term (Eph x) u ≡ p → (exists b u ≡ true) ⊎ ((y : ℕ) × (u ≡ Eph y) × (b.used_ephemeral y ≡ false))
          → exists after (Eph x) ≡ true → (exists b (Eph x) ≡ true) ⊎ (b.used_ephemeral x ≡ false)
      ephemeral x false e existed stands = inl (sym (ap is_some (row_elsewhere (Eph x) e)) ∙ stands)
      ephemeral x true e (inl before) stands = inl (sym (exists_as_before before (Eph x)) ∙ stands)
      ephemeral x true e (inr new) stands =
          inr (ap b.used_ephemeral (eqb-true x new.0 (sym (ap (same_term (Eph x)) new.1) ∙ e)) ∙ new.2)
