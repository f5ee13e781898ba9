-- Where a request of a shard ends: the board of the merge is settled as the shard's is, at what is the shard's, and stays settled at the rest.
use Rattle.std.proofs.Common.{◌≡◌, ◌∙◌, ℕ, Bool, true, false, Option, is_some, refl, sym, ap, subst, IsTrue, if◌then◌else◌, ◌↔◌, inl, inr}
use Rattle.mg_merge.proofs.Words.{Board, ContextExists, Eph, IsSettled, Row, TermId, cases_Bool, exists, not_both, null, place_in, place_of, where_false}
use Rattle.mg_merge.proofs.Words.{where_true}
use Rattle.mg_merge.proofs.Commands.SameCodes.{merge_context, shard_context}
use Rattle.mg_merge.proofs.Scopes.{Scope, mine, IsContextOf, IsEphemeralOf, IsWithin, IsPart, IsWhole, IsSameOutside}

-- the board of the merge, of which the shard's identifiers are as they are on the shard's settled board
abbrev pub settled_by : Scope → (settled m end : Board) → Board
settled_by s settled m end = record {
  row = end.row;
  cut = end.cut;
  used_context = λ c. if s.class c then settled.used_context c else m.used_context c;
  used_ephemeral = λ k. exists end (Eph k);
  class = end.class;
}

pub settled_within : (s : Scope) (b settled : Board) → IsSettled b settled → IsWithin s b → IsWithin s settled
settled_within s b settled is within = record {
  class = λ n. ap (λ (class : ℕ → Bool). class n) is.class ∙ within.class n;
  outside = λ t other. ap (λ (rows : TermId → Option Row). place_in (rows t)) is.row ∙ within.outside t other;
  places = subst (λ (rows : TermId → Option Row). (t : TermId) → (place_in (rows t) ≡ null → ⊥) → IsContextOf s (place_in (rows t))) (sym is.row) within.places;
  ephemerals = subst (λ (rows : TermId → Option Row). (k : ℕ) → is_some (rows (Eph k)) ≡ true → IsEphemeralOf s k) (sym is.row) within.ephemerals;
}

module _ (s : Scope) (was m b end settled : Board) (before : IsWithin s was) (beside : IsPart s was m) (within : IsWithin s b) (part : IsPart s b end)
    (whole : IsWhole end) (outside : IsSameOutside s m end) (is : IsSettled b settled)
    (contexts : (c : ℕ) → IsTrue (m.used_context c) ↔ ContextExists m c) (ephemerals : (k : ℕ) → m.used_ephemeral k ≡ exists m (Eph k)) where
  -- who stands in a context of another shard stands there after as before
  stood : (c : ℕ) → s.class c ≡ false → ContextExists end c → ContextExists m c
  stood c other (real, (t, at)) = elim (cases_Bool (mine s t)) [
    | inl e ↦ (let its : place_of b t ≡ c = sym (ap place_in (part.row t e)) ∙ at in
        absurd (not_both (sym (ap s.class its) ∙ (within.places t (λ null. real (sym its ∙ null))).1) other))
    | inr e ↦ (real, (t, sym (ap place_in (outside.row t e)) ∙ at))
  ]

  stands : (c : ℕ) → s.class c ≡ false → ContextExists m c → ContextExists end c
  stands c other (real, (t, at)) = elim (cases_Bool (mine s t)) [
    | inl e ↦ (let its : place_of was t ≡ c = sym (ap place_in (beside.row t e)) ∙ at in
        absurd (not_both (sym (ap s.class its) ∙ (before.places t (λ null. real (sym its ∙ null))).1) other))
    | inr e ↦ (real, (t, ap place_in (outside.row t e) ∙ at))
  ]

  settled_contexts : (c : ℕ) → IsTrue (if s.class c then settled.used_context c else m.used_context c) ↔ ContextExists end c
  settled_contexts c = go (s.class c) refl
    where
      go : (test : Bool) → s.class c ≡ test → IsTrue (if test then settled.used_context c else m.used_context c) ↔ ContextExists end c
      go true e = (
        λ used. merge_context s b end within part whole c ((is.contexts c).0 used),
        λ there. (is.contexts c).1 (shard_context s b end within part whole c (λ number. e) there),
      )
      go false e = (λ used. stands c e ((contexts c).0 used), λ there. (contexts c).1 (stood c e there))

  pub merge_settled : IsSettled end (settled_by s settled m end)
  merge_settled = assumption settled_contexts

  pub settled_part : IsPart s settled (settled_by s settled m end)
  settled_part = record {
    class = part.class;
    row = λ t own. part.row t own ∙ sym (ap (λ (rows : TermId → Option Row). rows t) is.row);
    cut = λ t u own also. part.cut t u own also ∙ sym (ap (λ (cuts : TermId → TermId → Bool). cuts t u) is.cut);
    used_context = λ n own. where_true (s.class n) (settled.used_context n) (m.used_context n) own;
    used_ephemeral = λ n own. ap is_some (part.row (Eph n) own) ∙ sym (is.ephemerals n);
    members = part.members;
  }

  pub settled_whole : IsWhole (settled_by s settled m end)
  settled_whole = record { places = whole.places; zeroth = whole.zeroth }

  pub settled_outside : IsSameOutside s m (settled_by s settled m end)
  settled_outside = record {
    class = outside.class;
    row = outside.row;
    cut = outside.cut;
    used_context = λ n other. where_false (s.class n) (settled.used_context n) (m.used_context n) other;
    used_ephemeral = λ n other. ap is_some (outside.row (Eph n) other) ∙ sym (ephemerals n);
  }
