-- What is found of a run of entries, entry by entry; and what the run of all says of the whole.
use Rattle.std.proofs.Common.{◌≡◌, ◌∙◌, ℕ, ◌+◌, ◌≤◌, List, Some, None, length, drop, sym, subst, arith, below_more}
use Rattle.std.specs.List.{slice_get}
use Rattle.std.proofs.lemmas.List.{drop_all}
use Rattle.std.proofs.lemmas.Option.{same_Some, get_or_from_slice_get, slice_get_within}
use Rattle.mg_model.specs.Script.{Script}
use Rattle.mg_model.specs.Steps.{opening, reset}
use Rattle.mg_model.specs.Entries.{Entry, IsCovered, HasPoints, HavePoints}
use Rattle.closure.specs.declared.first_fault.Finding.{Finding}
use Rattle.closure.specs.declared.first_fault.Finding.TheVariants as finding
use Rattle.closure.specs.Answer.{IsFinding}
use Rattle.closure.specs.Findings.{IsEntryKept}
use Rattle.closure.specs.Runs.{IsOfRun, RunHasPoints, RunIsKept}
use Rattle.closure.proofs.FindingLemmas.{points_with, none_left}
use Rattle.closure.proofs.ObligationOrder.{points_answer}

module _ (script : Script) (entries : List Entry) (first : ℕ) where
  pub none_of_run : RunIsKept script entries first first
  none_of_run place below from entry at = absurd (omega (arith, below, from))

  pub one_more_of_run : (place : ℕ) (entry : Entry) → slice_get entries place ≡ Some entry → RunIsKept script entries first place
      → IsEntryKept script entries entry → RunIsKept script entries first (place + 1)
  one_more_of_run place entry at before kept =
      below_more (λ (p : ℕ). first ≤ p → (other : Entry) → slice_get entries p ≡ Some other → IsEntryKept script entries other) place before
      (λ from other other_at. subst (IsEntryKept script entries) (same_Some entry other (sym at ∙ other_at)) kept)

  pub run_up_to : (n last : ℕ) → last ≤ n → RunIsKept script entries first n → RunIsKept script entries first last
  run_up_to n last small before place below from entry at = before place (omega (arith, below, small)) from entry at

  pub run_past_end : (n last : ℕ) → length entries ≤ n → RunIsKept script entries first n → RunIsKept script entries first last
  run_past_end n last past before place below from entry at =
      let within = slice_get_within entries place entry at in before place (omega (arith, within, past)) from entry at

pub one_more_counted : (entries : List Entry) (first place : ℕ) (entry : Entry) (points n : ℕ) → slice_get entries place ≡ Some entry
    → HasPoints entry n → RunHasPoints entries first place points → RunHasPoints entries first (place + 1) (points + n)
one_more_counted entries first place entry points n at counted before rest left =
    let within = slice_get_within entries place entry at in
    subst (HavePoints (drop first entries)) (omega arith)
    (before (n + rest) (points_with entries place entry n rest within (sym (get_or_from_slice_get entries place entry entry at)) counted left))

pub counted_past_end : (entries : List Entry) (first n last points : ℕ) → length entries ≤ n → length entries ≤ last
    → RunHasPoints entries first n points → RunHasPoints entries first last points
counted_past_end entries first n last points past past_last before rest left =
    before rest (subst (λ (xs : List Entry). HavePoints xs rest) (drop_all last entries past_last ∙ sym (drop_all n entries past)) left)

-- the run of all entries
pub run_answer : (script : Script) (entries : List Entry) (found : Finding) → IsCovered entries (opening script) → IsCovered entries (reset script)
    → IsOfRun script entries 0 (length entries) found → IsFinding script entries found
run_answer script entries (finding.Kept points) opened restarted run = (
  points_answer script entries None opened restarted
      (λ place entry at. run.0 place (slice_get_within entries place entry at) (omega arith) entry at),
  subst (HavePoints entries) (omega arith) ((run.1 (omega arith)).0 0 (none_left entries (length entries) (omega arith))),
)
run_answer script entries (finding.Broken fault) opened restarted run =
    points_answer script entries (Some fault) opened restarted (record {
      place = run.place;
      entry = run.entry;
      at_place = run.at_place;
      number = run.number;
      broken = run.broken;
      first = run.first_point;
      before = λ p below. run.before p below (omega arith);
      named = run.named;
    })
