-- The limits of a certificate.
use Rattle.std.proofs.Common.{◌≡◌, ◌∙◌, ◌*◌, ◌<◌, ◌≤◌, ℕ, zero, suc, Bool, true, false, List, [], ◌∷◌, length, refl, sym, ap, subst, arith, inl, inr, nat_lt, true≢false, ◌^◌}
use Rattle.std.specs.Prelude.{◌==◌, ◌||◌}
use Rattle.std.specs.List.{list_any}
use borrow.Author.Tests.{ltb-false}
use Rattle.std.proofs.lemmas.Bool.{cases_lt}
use Rattle.mg_model.specs.Entries.{Component}
use Rattle.entry_table.specs.Listed.{choices_of, size_of}
use Rattle.certificate.specs.Certificate.{some_below}

or_true : (b : Bool) → true ≡ (b || true)
or_true true = refl
or_true false = refl

pub some_below_at : (p : ℕ → Bool) (i n : ℕ) → i < n → p i ≡ true → true ≡ some_below n p
some_below_at p i zero lt holds = absurd (omega arith)
some_below_at p i (suc n) lt holds = elim (cases_lt i n) [
  | inl below ↦ ap (λ b. b || p n) (some_below_at p i n below holds)
  | inr past ↦
      let same : i ≡ n = omega arith in
      let here = subst (λ k. p k ≡ true) same holds in
      or_true (some_below n p) ∙ ap (λ b. some_below n p || b) (sym here)
]

-- a product of numbers that aren't 0 isn't 0
positive : (n p : ℕ) → (n == 0) ≡ false → 0 < p → 0 < n * p
positive zero p some q = absurd (true≢false some)
positive (suc n) zero some q = absurd (omega arith)
positive (suc n) (suc p) some q = grind arith

pub some_product : (components : List Component) → list_any (λ component. length (choices_of component) == 0) components ≡ false
    → 0 < size_of components
some_product [] none = omega arith
some_product (component ∷ components) none = go (length (choices_of component) == 0) refl (some_product components)
  where
    go : (b : Bool) → (length (choices_of component) == 0) ≡ b
        → (list_any (λ other. length (choices_of other) == 0) components ≡ false → 0 < size_of components)
        → 0 < size_of (component ∷ components)
    go true e more = absurd (true≢false (rw e at none))
    go false e more = positive (length (choices_of component)) (size_of components) e (more (rw e at none))

-- what is within the limit fits 32 bits
pub fitting : (n : ℕ) → nat_lt 65536 n ≡ false → n < 2 ^ 32
fitting n small = let within : n ≤ 65536 = ltb-false 65536 n small in omega arith
