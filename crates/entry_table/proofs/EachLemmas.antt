-- Something that holds of each item of a list, item by item.
use Rattle.std.proofs.Common.{◌≡◌, ◌∙◌, ℕ, ◌+◌, ◌<◌, ◌≤◌, ◌==◌, Bool, true, false, List, length, Contains, refl, subst, sym, ap, arith}
use Rattle.std.specs.List.{slice_index_or}
use Rattle.std.proofs.lemmas.Bool.{eqb-true, eqb-false}
use Rattle.std.proofs.lemmas.List.{get_or_default}

module _ {X : Type 0} (P : X → Type 0) (xs : List X) where
  -- it holds of each before a number
  abbrev pub EachBelow : ℕ → Type 0
  EachBelow n = (i : ℕ) (none : X) → i < n → i < length xs → P (slice_index_or xs i none)

  pub one_more_holds : (n : ℕ) (x : X) → x ≡ slice_index_or xs n x → P x → EachBelow n → EachBelow (n + 1)
  one_more_holds n x is holds before i none below within = by_test (i == n) refl
    where
      by_test : (t : Bool) → (i == n) ≡ t → P (slice_index_or xs i none)
      by_test true e =
          let same = eqb-true i n e in
          subst P (is ∙ ap (λ k. slice_index_or xs k x) (sym same) ∙ get_or_default xs i x none within) holds
      by_test false e =
          let apart = eqb-false i n e in
          before i none (omega arith) within

  pub holds_of_each : (n : ℕ) → length xs ≤ n → EachBelow n → (x : X) → Contains xs x → P x
  holds_of_each n all each x has = subst P has.2 (each has.0 x (omega (arith, has.1, all)) has.1)

pub is_contained : {X : Type 0} (xs : List X) (n : ℕ) (x : X) → n < length xs → x ≡ slice_index_or xs n x → Contains xs x
is_contained xs n x within is = (n, within, sym is)
