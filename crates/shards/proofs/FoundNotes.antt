-- What isn't found passes no test, and of notes that are numbered on, the first that passes has the lowest number.
use Rattle.std.proofs.Common.{◌≡◌, ◌∙◌, ◌+◌, ◌≤◌, ◌⊎◌, inl, inr, ℕ, Bool, true, false, List, [], ◌∷◌, Some, None, if◌then◌else◌, refl, sym, ap, arith}
use Rattle.std.specs.Prelude.{Contains}
use Rattle.std.specs.List.{find}
use Rattle.mg_model.proofs.Cases.{not_both, some_is_none, the_some}
use Rattle.mg_model.proofs.Single.{none_in, first_or_later}
use Rattle.mg_model.specs.Messages.{SentNote}
use Rattle.shards.specs.Messages.{AreNumberedFrom, note_numbers}

-- where none is found, none passes
pub none_passes : {A : Type 0} (p : A → Bool) (xs : List A) → find p xs ≡ None → (x : A) → Contains xs x → p x ≡ true → ⊥
none_passes p [] none x among passes = none_in x among
none_passes p (y ∷ more) none x among passes = by_test (λ found later. none_passes p more found x later passes) (p y) refl none
  where
    by_test : (find p more ≡ None → Contains more x → ⊥) → (test : Bool) → p y ≡ test → (if test then Some y else find p more) ≡ None → ⊥
    by_test not_later true is found = some_is_none y found
    by_test not_later false is found = elim (first_or_later y more x among) [
      | inl first ↦ not_both (ap p first ∙ passes) is
      | inr later ↦ not_later found later
    ]

-- no number is below the first
at_least : (first : ℕ) (notes : List SentNote) → AreNumberedFrom first (note_numbers notes) → (n : SentNote) → Contains notes n → first ≤ n.number
at_least first [] numbered n among = absurd (none_in n among)
at_least first (m ∷ more) numbered n among = elim (first_or_later m more n among) [
  | inl same ↦ let is : n.number ≡ first = ap (λ (x : SentNote). x.number) (sym same) ∙ numbered.0 in omega (arith, is)
  | inr later ↦ let after : first + 1 ≤ n.number = at_least (first + 1) more numbered.1 n later in omega (arith, after)
]

-- the first that passes has the lowest number
pub lowest_found : (p : SentNote → Bool) (first : ℕ) (notes : List SentNote) → AreNumberedFrom first (note_numbers notes) → (n : SentNote) → find p notes ≡ Some n
    → (other : SentNote) → Contains notes other → p other ≡ true → n.number ≤ other.number
lowest_found p first [] numbered n found other among passes = absurd (none_in other among)
lowest_found p first (m ∷ more) numbered n found other among passes =
    by_test (λ there later. lowest_found p (first + 1) more numbered.1 n there other later passes) (p m) refl found
  where
    by_test : (find p more ≡ Some n → Contains more other → n.number ≤ other.number) → (test : Bool) → p m ≡ test
        → (if test then Some m else find p more) ≡ Some n → n.number ≤ other.number
    by_test lower true is here =
        let same : n.number ≡ first = ap (λ (x : SentNote). x.number) (sym (the_some m n here)) ∙ numbered.0 in
        let least : first ≤ other.number = at_least first (m ∷ more) numbered other among in
        omega (arith, same, least)
    by_test lower false is there = elim (first_or_later m more other among) [
      | inl same ↦ absurd (not_both (ap p same ∙ passes) is)
      | inr later ↦ lower there later
    ]
