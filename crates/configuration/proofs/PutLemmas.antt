-- What a write of one field leaves of the others, and of the fields of its kind.
use Rattle.std.proofs.Common.{◌≡◌, ℕ, ◌+◌, ◌<◌, ◌≤◌, ◌==◌, ◌≢◌, Bool, true, false, nat_lt, refl, ap, subst, sym, ◌∙◌, arith}
use Rattle.std.proofs.lemmas.Grind.{common_steps}
use Rattle.std.specs.Prelude.{if◌then◌else◌}
use Rattle.configuration.specs.Fields.{field_of, IsPut}

-- two fields have no bit in common
abbrev pub AreApart : ℕ → ℕ → ℕ → ℕ → Type 0
AreApart place size at bits = at < place + size → place < at + bits → ⊥

pub kept : {new old at bits value : ℕ} → IsPut new old at bits value → (place size : ℕ) → AreApart place size at bits →
    field_of new place size ≡ field_of old place size
kept {new} {old} {at} {bits} p place size apart = by_test (nat_lt at (place + size)) refl (nat_lt place (at + bits)) refl
  where
    by_test : (b : Bool) → nat_lt at (place + size) ≡ b → (d : Bool) → nat_lt place (at + bits) ≡ d →
        field_of new place size ≡ field_of old place size
    by_test false e d f = p.below place size (grind (arith, common_steps))
    by_test true e false f = p.above place size (grind (arith, common_steps))
    by_test true e true f = absurd (apart (grind (arith, common_steps)) (grind (arith, common_steps)))

-- a family of fields, one for each slot, of which one is written
pub family_at : {new old bits value : ℕ} (place : ℕ → ℕ) (i : ℕ) → IsPut new old (place i) bits value → (j : ℕ) →
    (j ≢ i → AreApart (place j) bits (place i) bits) →
    field_of new (place j) bits ≡ (if j == i then value else field_of old (place j) bits)
family_at {new} {old} {bits} {value} place i p j apart = by_test (j == i) refl
  where
    by_test : (b : Bool) → (j == i) ≡ b → field_of new (place j) bits ≡ (if b then value else field_of old (place j) bits)
    by_test true e =
        let same : j ≡ i = grind (arith, common_steps) in
        subst (λ (k : ℕ). field_of new (place k) bits ≡ value) (sym same) p.here
    by_test false e = kept p (place j) bits (apart (grind (arith, common_steps)))

-- what is read of such a family
pub component_at : {A : Type 0} {new old bits value : ℕ} (decode : ℕ → A) (d v : A) (place : ℕ → ℕ) (i : ℕ) → i < 4 →
    IsPut new old (place i) bits value → decode value ≡ v → (j : ℕ) → (j < 4 → j ≢ i → AreApart (place j) bits (place i) bits) →
    (if nat_lt j 4 then decode (field_of new (place j) bits) else d)
    ≡ (if j == i then v else if nat_lt j 4 then decode (field_of old (place j) bits) else d)
component_at {A} {new} {old} {bits} {value} decode d v place i h p e j apart = by_test (nat_lt j 4) refl (j == i) refl
  where
    by_test : (b : Bool) → nat_lt j 4 ≡ b → (s : Bool) → (j == i) ≡ s →
        (if b then decode (field_of new (place j) bits) else d) ≡ (if s then v else if b then decode (field_of old (place j) bits) else d)
    by_test true small true same =
        let q : j ≡ i = grind (arith, common_steps) in
        subst (λ (k : ℕ). decode (field_of new (place k) bits) ≡ v) (sym q) (ap decode p.here ∙ e)
    by_test true small false other =
        ap decode (kept p (place j) bits (apart (grind (arith, common_steps)) (grind (arith, common_steps))))
    by_test false large true same = absurd (grind (arith, common_steps))
    by_test false large false other = refl

-- what is read of a field that is apart from the one written
pub component_kept : {A : Type 0} {new old at bits value : ℕ} (decode : ℕ → A) (d : A) → IsPut new old at bits value →
    (j place size : ℕ) → (j < 4 → AreApart place size at bits) →
    (if nat_lt j 4 then decode (field_of new place size) else d) ≡ (if nat_lt j 4 then decode (field_of old place size) else d)
component_kept {A} {new} {old} {at} {bits} decode d p j place size apart = by_test (nat_lt j 4) refl
  where
    by_test : (b : Bool) → nat_lt j 4 ≡ b →
        (if b then decode (field_of new place size) else d) ≡ (if b then decode (field_of old place size) else d)
    by_test true small = ap decode (kept p place size (apart (grind (arith, common_steps))))
    by_test false large = refl

-- a bound that all fields of a family keep
pub bound_at : {new old bits value : ℕ} (bound : ℕ) (place : ℕ → ℕ) (i : ℕ) → IsPut new old (place i) bits value → value ≤ bound →
    ((j : ℕ) → j < 4 → field_of old (place j) bits ≤ bound) → ((j : ℕ) → j < 4 → j ≢ i → AreApart (place j) bits (place i) bits) →
    (j : ℕ) → j < 4 → field_of new (place j) bits ≤ bound
bound_at {new} {old} {bits} {value} bound place i p small were apart j l = by_test (j == i) refl
  where
    by_test : (b : Bool) → (j == i) ≡ b → field_of new (place j) bits ≤ bound
    by_test true e =
        let same : j ≡ i = grind (arith, common_steps) in
        subst (λ (k : ℕ). field_of new (place k) bits ≤ bound) (sym same) (subst (λ (n : ℕ). n ≤ bound) (sym p.here) small)
    by_test false e =
        subst (λ (n : ℕ). n ≤ bound) (sym (kept p (place j) bits (apart j l (grind (arith, common_steps))))) (were j l)

pub bound_kept : {new old at bits value : ℕ} (bound size : ℕ) (place : ℕ → ℕ) → IsPut new old at bits value →
    ((j : ℕ) → j < 4 → field_of old (place j) size ≤ bound) → ((j : ℕ) → j < 4 → AreApart (place j) size at bits) →
    (j : ℕ) → j < 4 → field_of new (place j) size ≤ bound
bound_kept bound size place p were apart j l =
    subst (λ (n : ℕ). n ≤ bound) (sym (kept p (place j) size (apart j l))) (were j l)
