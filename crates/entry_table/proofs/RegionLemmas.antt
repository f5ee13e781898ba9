-- A region that one set more narrows.
use Rattle.std.proofs.Common.{◌≡◌, ◌∙◌, ◌↔◌, ℕ, zero, suc, ◌&&◌, List, [], ◌∷◌, ◌++◌, sym, arith, IsTrue}
use Rattle.std.proofs.lemmas.Bool.{and_parts, and_from}
use Rattle.std.specs.List.{All}
use Rattle.mg_model.specs.Entries.{Component, Allows}
use Rattle.configuration.specs.Config.{configuration_of}
use Rattle.configuration.specs.Packed.{Words, IsPacked}
use Rattle.configuration.specs.Regions.{Region, ValueSet, is_in, is_within}
use Rattle.entry_table.specs.Regions.{IsRegion}

module _ {X : Type 0} (P : X → Type 0) where
  pub all_before : (xs : List X) (x : X) → All P (xs ++ x ∷ []) → All P xs
  all_before [] x all k d lt = absurd (omega arith)
  all_before (y ∷ xs) x all zero d lt = all 0 d (omega arith)
  all_before (y ∷ xs) x all (suc k) d lt = all_before xs x (λ j e below. all (suc j) e (omega arith)) k d (omega arith)

  pub all_last : (xs : List X) (x : X) → All P (xs ++ x ∷ []) → P x
  all_last [] x all = all 0 x (omega arith)
  all_last (y ∷ xs) x all = all_last xs x (λ j e below. all (suc j) e (omega arith))

  pub all_more : (xs : List X) (x : X) → All P xs → P x → All P (xs ++ x ∷ [])
  all_more [] x all is zero d lt = is
  all_more [] x all is (suc k) d lt = absurd (omega arith)
  all_more (y ∷ xs) x all is zero d lt = all 0 d (omega arith)
  all_more (y ∷ xs) x all is (suc k) d lt = all_more xs x (λ j e below. all (suc j) e (omega arith)) is k d (omega arith)

pub none_all : {X : Type 0} (P : X → Type 0) → All P []
none_all P k d lt = absurd (omega arith)

pub narrowed : (old new : Region) (set : ValueSet) (state : ℕ) (components : List Component) (component : Component)
    → ((w : Words) → is_within new w ≡ (is_within old w && is_in set w))
    → ((w : Words) → IsPacked w → IsTrue (is_in set w) ↔ Allows (configuration_of w) component)
    → IsRegion old state components → IsRegion new state (components ++ component ∷ [])
narrowed old new set state components component same is before w packed =
    let here = before w packed in
    let asked = is w packed in
    let P = Allows (configuration_of w) in (
      λ holds.
          let parts = and_parts (is_within old w) (is_in set w) (sym (same w) ∙ holds) in
          let all = here.0 parts.0 in
          (all.0, all_more P components component all.1 (asked.0 parts.1)),
      λ all. same w ∙ and_from (is_within old w) (is_in set w) (here.1 (all.0, all_before P components component all.1)) (asked.1 (all_last P components component all.1)),
    )

pub of_state : (region : Region) (state : ℕ) → ((w : Words) → IsPacked w → IsTrue (is_within region w) ↔ ((configuration_of w).state ≡ state))
    → IsRegion region state []
of_state region state are w packed =
    (λ holds. ((are w packed).0 holds, none_all (Allows (configuration_of w))), λ all. (are w packed).1 all.0)
