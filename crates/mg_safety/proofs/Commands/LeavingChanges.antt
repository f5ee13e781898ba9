-- Terminations of a call leave their context for good: what is given out, which names commands are built with, and what changed.
use Rattle.mg_safety.proofs.Words.{◌≡◌, ◌∙◌, ℕ, Bool, true, false, Option, Some, None, is_some, refl, sym, ap, inl, false_from_ne_true, ContextValue, TermId}
use Rattle.mg_safety.proofs.Words.{Line, Eph, Termination, Board, exists, place_of, ContextExists, Configuration, subtracted, without, Script, not_both}
use Rattle.mg_safety.proofs.Words.{where_true, where_false, some_is_none, cases_Bool, by_test, Row, inr}
use Rattle.mg_model.specs.declared.commands.Termination.TheVariants as termination
use Rattle.mg_safety.proofs.InvariantWords.{Naming, Shown, Owner, owned_at, AreBuilt, IsAccounted, ChangesOwned}
use Rattle.mg_safety.proofs.Commands.InForce.{name_stands}
use Rattle.mg_safety.proofs.Commands.Leaving.{Leaves, names_left, exists_after, not_after, place_before, ephemeral_agrees, stays_bound}
use Rattle.mg_safety.proofs.Events.Others.{name_owned}
use Rattle.mg_safety.proofs.Commands.Carrying.{owned_given}

pub accounted_left : (b : Board) (gone : TermId → Bool) → IsAccounted b → IsAccounted (without b gone)
accounted_left b gone accounted = record {
  ephemerals = λ x is. accounted.ephemerals x (exists_after b gone x is).1;
  contexts = λ t away.
      let was : place_of b t ≡ place_of (without b gone) t = (place_before b gone t away).1 in
      ap b.used_context (sym was) ∙ accounted.contexts t (λ e. away (sym was ∙ e));
}

same_owner : (own : Owner) (b : Board) (gone : TermId → Bool) (t : TermId) → owned_at own (without b gone) t ≡ owned_at own b t
same_owner own b gone = owned_given own b (without b gone) (λ x. refl)

-- a line that leaves stands in the null context
line_same : (b : Board) (gone : TermId → Bool) (l : ℕ) → (gone (Line (record { 0 = l })) ≡ true → exists b (Line (record { 0 = l })) ≡ true)
    → exists (without b gone) (Line (record { 0 = l })) ≡ exists b (Line (record { 0 = l }))
line_same b gone l stood = by_test (λ (row : Option Row). is_some row ≡ exists b (Line (record { 0 = l }))) (subtracted (Line (record { 0 = l })))
    (b.row (Line (record { 0 = l }))) (gone (Line (record { 0 = l }))) (λ leaves. sym (stood leaves)) (λ stays. refl)

module _ (script : Script) (own : Owner) (n : Naming) (contexts ephemerals : ℕ → Option ℕ) (b : Board) (c : Configuration) (gone : TermId → Bool)
    (left : Termination → Bool) (values : ℕ → ContextValue) (shown : Shown script (owned_at own b) n b c)
    (leaves : Leaves script n contexts ephemerals b c gone left values) where
  -- a name that isn't in force any more names nothing
  pub built_left : (m : Naming) → AreBuilt n m b → AreBuilt (names_left n contexts ephemerals) m (without b gone)
  built_left m built = record {
    lines = built.lines;
    context = λ j x is. built.context j x (leaves.stay_bound j x is);
    context_lost = λ j x is lost stands.
        let stays = place_before b gone stands.1.0 (λ e. stands.0 (sym stands.1.1 ∙ e)) in
        let stood : place_of b stands.1.0 ≡ x = stays.1 ∙ stands.1.1 in
        nobody j x is lost stands.1.0 stays.0 stood (stands.0, (stands.1.0, stood)) (n.contexts j) refl;
    context_real = built.context_real;
    ephemeral = λ k x is. built.ephemeral k x (stays_bound (left (termination.Ephemeral k)) (n.ephemerals k) (ephemerals k) x (leaves.unbound k) is).1;
    ephemeral_lost = λ k x is lost. none_left k x is lost (n.ephemerals k) refl;
    ephemeral_given = built.ephemeral_given;
  }
    where
      nobody : (j x : ℕ) → m.contexts j ≡ Some x → contexts j ≡ None → (t : TermId) → gone t ≡ false → place_of b t ≡ x → ContextExists b x
          → (o : Option ℕ) → n.contexts j ≡ o → ⊥
      nobody j x is lost t stays stood stands None was = built.context_lost j x is was stands
      nobody j x is lost t stays stood stands (Some y) was =
          leaves.dropped j x t (was ∙ sym (built.context j y was) ∙ is) lost stays stood

      none_left : (k x : ℕ) → m.ephemerals k ≡ Some x → ephemerals k ≡ None → (o : Option ℕ) → n.ephemerals k ≡ o
          → exists (without b gone) (Eph x) ≡ false
      none_left k x is lost None was = not_after b gone x (built.ephemeral_lost k x is was)
      none_left k x is lost (Some y) was = elim (cases_Bool (left (termination.Ephemeral k))) [
        | inl e ↦ ap is_some (where_true (gone (Eph x)) None (b.row (Eph x))
            (ephemeral_agrees script own n contexts ephemerals b c gone left values shown leaves k x named ∙ e))
        | inr e ↦ absurd (some_is_none x (sym named
            ∙ sym (leaves.unbound k ∙ where_false (left (termination.Ephemeral k)) None (n.ephemerals k) e) ∙ lost))
      ]
        where
          named : n.ephemerals k ≡ Some x
          named = was ∙ sym (built.ephemeral k y was) ∙ is

  -- what leaves is owned
  pub leaving_owned : (t : TermId) → gone t ≡ true → owned_at own b t ≡ true
  leaving_owned t leaving =
      let slot = leaves.slots t leaving in name_owned script (owned_at own b) n shown.line_owned shown.ephemeral_owned slot.0 slot.1 t slot.2

  pub changes_left : ChangesOwned own b (without b gone)
  changes_left =
      let stays : (t : TermId) → owned_at own (without b gone) t ≡ false → gone t ≡ false =
      λ t other. false_from_ne_true (gone t) (λ leaving. not_both (leaving_owned t leaving) (sym (same_owner own b gone t) ∙ other)) in
      record {
        row = λ t other. where_false (gone t) (subtracted t) (b.row t) (stays t other);
        cut = λ t u first second. rw (stays t first, stays u second) refl;
        used_context = λ x is. is;
        used_ephemeral = λ x is. is;
        place = λ t mine away. inl (t, sym (same_owner own b gone t) ∙ mine, (place_before b gone t away).1);
        line = λ l. line_same b gone l (λ leaving.
            let slot = leaves.slots (Line (record { 0 = l })) leaving in
            name_stands script (owned_at own b) n b c shown slot.0 slot.1 (Line (record { 0 = l })) slot.2);
        ephemeral = λ x is. inl (exists_after b gone x is).1;
      }
