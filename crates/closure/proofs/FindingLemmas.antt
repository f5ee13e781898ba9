-- What is found of the whole, from what is found of its parts.
use Rattle.std.proofs.Common.{◌≡◌, ℕ, ◌+◌, ◌<◌, ◌≤◌, Bool, false, List, length, drop, option_map, Option, Some, None, refl, sym, ◌∙◌, ap, subst, arith, below_more, IsTrue}
use Rattle.std.specs.List.{slice_get, slice_index_or}
use Rattle.std.proofs.lemmas.Bool.{true≢false}
use Rattle.std.proofs.lemmas.List.{drop_all, length-map}
use Rattle.std.proofs.lemmas.Option.{same_Some, slice_get_read, slice_get_within, slice_get-map}
use Rattle.mg_model.specs.Script.{Script}
use Rattle.mg_model.specs.Configuration.{Configuration}
use Rattle.mg_model.specs.Steps as model
use Rattle.mg_model.specs.Entries.{Entry, IsPointOf, IsCovered, HasPoints, HavePoints}
use Rattle.configuration.specs.Config.{configuration_of}
use Rattle.configuration.specs.declared.step.Step.{Step}
use Rattle.configuration.proofs.NumberLemmas.{at}
use Rattle.closure.specs.declared.broken.Broken.{Broken}
use Rattle.closure.specs.Findings.{AreCovered, AreCoveredBelow, EntriesAreKeptBelow, ConfigurationFinding, IsEntryKept, IsFirstUncovered, IsKept, NumberFinding, PointsFinding}
use Rattle.closure.specs.Shown.{shown}

pub refuted : (b : Bool) → b ≡ false → IsTrue b → ⊥
refuted b is_false is_true = true≢false (sym is_true ∙ is_false)

-- ---- steps

module _ (entries : List Entry) (steps : List Step) (i : ℕ) (step : Step) (within : i < length steps)
    (is : step ≡ slice_index_or steps i step) where
  abbrev this : model.Step
  this = (step.name, configuration_of step.result)

  shown_at : slice_get (shown steps) i ≡ Some this
  shown_at =
      slice_get-map (λ (s : Step). (s.name, configuration_of s.result)) steps i
      ∙ ap (λ (o : Option Step). option_map (λ (s : Step). (s.name, configuration_of s.result)) o)
      (slice_get_read steps (length steps) i step refl within is)

  pub one_more_covered : AreCoveredBelow entries (shown steps) i → IsCovered entries this.1
      → AreCoveredBelow entries (shown steps) (i + 1)
  one_more_covered before covered =
      below_more (λ (s : ℕ). (other : model.Step) → slice_get (shown steps) s ≡ Some other → IsCovered entries other.1) i before
      (λ other at_place. subst (λ (x : model.Step). IsCovered entries x.1) (same_Some this other (sym shown_at ∙ at_place)) covered)

  pub first_is_uncovered : AreCoveredBelow entries (shown steps) i → (IsCovered entries this.1 → ⊥)
      → IsFirstUncovered entries (shown steps) step.name
  first_is_uncovered before uncovered = record {
    place = i;
    step = this;
    at_place = shown_at;
    named = refl;
    uncovered = uncovered;
    before = before;
  }

pub all_covered : (entries : List Entry) (steps : List Step) (i : ℕ) → length steps ≤ i → AreCoveredBelow entries (shown steps) i
    → AreCovered entries (shown steps)
all_covered entries steps i past before s step at_place =
    let within = slice_get_within (shown steps) s step at_place in
    before s (omega (arith, within, length-map {B = model.Step} steps (λ (x : Step). (x.name, configuration_of x.result)), past)) step at_place

-- ---- points

module _ (script : Script) (entries : List Entry) (entry : Entry) (number : ℕ) where
  -- a number is of one point at most
  pub number_finding : (c : Configuration) → IsPointOf entry number c → (found : Option Broken)
      → ConfigurationFinding script entries c found → NumberFinding script entries entry number found
  number_finding c is None kept = λ other other_is. subst (IsKept script entries) (is.1 ∙ sym other_is.1) kept
  number_finding c is (Some broken) first = (c, (is, first))

-- ---- entries

module _ (script : Script) (entries : List Entry) where
  pub one_more_entry : (place : ℕ) (entry : Entry) → place < length entries → entry ≡ slice_index_or entries place entry
      → EntriesAreKeptBelow script entries place → IsEntryKept script entries entry
      → EntriesAreKeptBelow script entries (place + 1)
  one_more_entry place entry within is before kept =
      let here = slice_get_read entries (length entries) place entry refl within is in
      below_more (λ (p : ℕ). (other : Entry) → slice_get entries p ≡ Some other → IsEntryKept script entries other) place before
      (λ other at_place. subst (IsEntryKept script entries) (same_Some entry other (sym here ∙ at_place)) kept)

  pub all_entries : (n : ℕ) → length entries ≤ n → EntriesAreKeptBelow script entries n → PointsFinding script entries None
  all_entries n past before place entry at_place =
      let within = slice_get_within entries place entry at_place in before place (omega (arith, within, past)) entry at_place

-- ---- counts

pub points_with : (entries : List Entry) (i : ℕ) (entry : Entry) (n rest : ℕ) → i < length entries
    → entry ≡ slice_index_or entries i entry → HasPoints entry n → HavePoints (drop (i + 1) entries) rest
    → HavePoints (drop i entries) (n + rest)
points_with entries i entry n rest within is first others =
    subst (λ (xs : List Entry). HavePoints xs (n + rest)) (sym (at entries i entry within is)) (n, (rest, (first, (others, refl))))

pub none_left : (entries : List Entry) (i : ℕ) → length entries ≤ i → HavePoints (drop i entries) 0
none_left entries i past = subst (λ (xs : List Entry). HavePoints xs 0) (sym (drop_all i entries past)) refl
