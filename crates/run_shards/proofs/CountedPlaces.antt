-- Places and counts that are new, and where one of them goes on.
use Rattle.std.proofs.Common.{◌≡◌, ◌∙◌, ◌<◌, ℕ, zero, suc, List, [], ◌∷◌, length, replicate, Some, get_or, set, Bool, true, false, refl, sym, ap, subst, arith}
use Rattle.std.specs.Prelude.{◌==◌, slice_get, slice_index_or}
use Rattle.std.specs.List.{All}
use Rattle.std.proofs.lemmas.List.Elements.{All-get_or}
use Rattle.std.proofs.lemmas.Option.{get_or_from_slice_get, slice_get_read, slice_get_within}
use Rattle.std.proofs.lemmas.Bool.{eqb-true, eqb-false}
use Rattle.mg_model.specs.declared.plans.PlanStep.{PlanStep}
use Rattle.mg_model.specs.Script.{Script}
use Rattle.mg_model.proofs.Cases.{the_some}
use Rattle.mg_reports.specs.Logs.{count_step}
use Rattle.planned_calls.specs.Counts.{counts_of}
use Rattle.planned_calls.specs.declared.call_count.CallCount.{CallCount}
use Rattle.planned_calls.specs.declared.planned_call.TakenStep.{TakenStep}
use Rattle.run_shards.specs.Counting.{CountsOne, IsNextCount}

abbrev place_at : List ℕ → ℕ → ℕ
place_at places number = slice_index_or places number 0

-- no place is anything but 0 at first
pub none_yet : (size number : ℕ) → place_at (replicate size 0) number ≡ 0
none_yet zero number = refl
none_yet (suc more) zero = refl
none_yet (suc more) (suc number) = none_yet more number

pub zeros : (size : ℕ) → length (replicate {A = ℕ} size 0) ≡ size
zeros zero = refl
zeros (suc more) = ap suc (zeros more)

-- what holds of each holds of that at a place
pub all_at : {X : Type 0} (P : X → Type 0) (xs : List X) (n : ℕ) (x : X) → All P xs → slice_get xs n ≡ Some x → P x
all_at P xs n x all there = subst P (get_or_from_slice_get xs n x x there) (All-get_or P xs n x (slice_get_within xs n x there) all)

-- ---- one that goes on

get_set_same : {X : Type 0} (xs : List X) (i : ℕ) (x : X) → i < length xs → slice_get (set xs i x) i ≡ Some x
get_set_same [] i x within = absurd (let none : i < 0 = within in omega (arith, none))
get_set_same (first ∷ more) zero x within = refl
get_set_same (first ∷ more) (suc i) x within = get_set_same more i x (let less : suc i < suc (length more) = within in omega (arith, less))

get_set_other : {X : Type 0} (xs : List X) (i j : ℕ) (x : X) → (i ≡ j → ⊥) → slice_get (set xs i x) j ≡ slice_get xs j
get_set_other [] i j x other = refl
get_set_other (first ∷ more) zero zero x other = absurd (other refl)
get_set_other (first ∷ more) zero (suc j) x other = refl
get_set_other (first ∷ more) (suc i) zero x other = refl
get_set_other (first ∷ more) (suc i) (suc j) x other = get_set_other more i j x (λ same. other (ap suc same))

pub one_counted : (step : PlanStep) (told : TakenStep) (first : ℕ) (items : List CallCount) (j k : CallCount) → first < length items → j ≡ get_or items first j
    → ((script : Script) → counts_of script k ≡ count_step script step told.state told.event (counts_of script j)) → CountsOne step told first items (set items first k)
one_counted step told first items j k within there counted n other at = by_test (first == n) refl
  where
    by_test : (test : Bool) → (first == n) ≡ test → (i : CallCount) × ((slice_get items n ≡ Some i) × IsNextCount step told test i other)
    by_test true e =
        let same : first ≡ n = eqb-true first n e in
        let is : k ≡ other = the_some k other (sym (get_set_same items first k within) ∙ ap (slice_get (set items first k)) same ∙ at) in
        (j, (subst (λ (m : ℕ). slice_get items m ≡ Some j) same (slice_get_read items (length items) first j refl within there), subst (λ (o : CallCount). IsNextCount step told true j o) is counted))
    by_test false e = (other, (sym (get_set_other items first n k (eqb-false first n e)) ∙ at, refl))
