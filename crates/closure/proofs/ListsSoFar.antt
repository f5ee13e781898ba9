-- Components of a list that were looked at so far, and all of them.
use Rattle.std.proofs.Common.{◌≡◌, ◌∙◌, ◌⊎◌, inl, inr, ℕ, zero, suc, ◌+◌, ◌<◌, ◌∷◌, [], List, length, take, refl, sym, ap, subst, arith, add-one, Contains}
use Rattle.std.specs.List.{slice_index_or}
use Rattle.mg_model.specs.Entries.{Component}
use Rattle.entry_table.specs.declared.component.Component as declared
use Rattle.entry_table.specs.Shown.{shown, shown_all}

-- one of the first few and one more is one of the first few, or the one more
member_of_more : {X : Type 0} (xs : List X) (i : ℕ) (y : X) → Contains (take (suc i) xs) y
    → Contains (take i xs) y ⊎ ((i < length xs) × (slice_index_or xs i y ≡ y))
member_of_more [] i y (k, lt, is) = absurd (omega (arith, lt))
member_of_more (x ∷ xs) zero y (zero, lt, is) = inr (omega arith, is)
member_of_more (x ∷ xs) zero y (suc k, lt, is) = absurd (omega (arith, lt))
member_of_more (x ∷ xs) (suc i) y (zero, lt, is) = inl (0, omega arith, is)
member_of_more (x ∷ xs) (suc i) y (suc k, lt, is) = elim (member_of_more xs i y (k, omega (arith, lt), is)) [
  | inl h ↦ inl (suc h.0, omega (arith, h.1), h.2)
  | inr h ↦ inr (omega (arith, h.0), h.1)
]

-- what a list has at a place
pub same_at : {X : Type 0} (xs : List X) (k : ℕ) (a b : X) → k < length xs → slice_index_or xs k a ≡ a → slice_index_or xs k b ≡ b → a ≡ b
same_at [] k a b lt one other = absurd (omega (arith, lt))
same_at (z ∷ xs) zero a b lt one other = sym one ∙ other
same_at (z ∷ xs) (suc k) a b lt one other = same_at xs k a b (omega (arith, lt)) one other

-- what holds of each member of the first few, and of one more
pub few_and_one : {X : Type 0} (P : X → Type 0) (xs : List X) (i : ℕ) (x : X) → slice_index_or xs i x ≡ x → i < length xs
    → ((y : X) → Contains (take i xs) y → P y) → P x → (y : X) → Contains (take (i + 1) xs) y → P y
few_and_one P xs i x is within few one y has =
    elim (member_of_more xs i y (subst (λ (n : ℕ). Contains (take n xs) y) (add-one i) has)) [
      | inl h ↦ few y h
      | inr h ↦ subst P (same_at xs i x y within is h.1) one
    ]

pub none_of_few : {X : Type 0} (P : X → Type 0) (xs : List X) (y : X) → Contains (take 0 xs) y → P y
none_of_few P [] y has = absurd (omega (arith, has.1))
none_of_few P (x ∷ xs) y has = absurd (omega (arith, has.1))

-- what the code's component at a place shows is the component at that place
pub shown_at : (items : List declared.Component) (i : ℕ) (x : declared.Component) → i < length items → slice_index_or items i x ≡ x
    → slice_index_or (shown_all items) i (shown x) ≡ shown x
shown_at [] i x lt is = absurd (omega (arith, lt))
shown_at (y ∷ items) zero x lt is = ap shown is
shown_at (y ∷ items) (suc i) x lt is = shown_at items i x (omega (arith, lt)) is

pub as_many : (items : List declared.Component) → length (shown_all items) ≡ length items
as_many [] = refl
as_many (x ∷ items) = ap suc (as_many items)

pub shown_among : (items : List declared.Component) (i : ℕ) (x : declared.Component) → i < length items → slice_index_or items i x ≡ x
    → Contains (shown_all items) (shown x)
shown_among items i x lt is = (i, omega (arith, lt, as_many items), shown_at items i x lt is)

-- what a component at a place is shown by
pub code_at : (items : List declared.Component) (n : ℕ) (x : Component) → n < length (shown_all items) → slice_index_or (shown_all items) n x ≡ x
    → (y : declared.Component) × ((n < length items) × ((slice_index_or items n y ≡ y) × (shown y ≡ x)))
code_at [] n x lt is = absurd (omega (arith, lt))
code_at (y ∷ items) zero x lt is = (y, (omega arith, (refl, is)))
code_at (y ∷ items) (suc n) x lt is =
    let there = code_at items n x (omega (arith, lt)) is in
    (there.0, (omega (arith, there.1.0), there.1.1))
