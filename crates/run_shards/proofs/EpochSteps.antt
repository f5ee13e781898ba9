-- The steps that a call took, epoch by epoch: after one entry more of a log, at the end of an epoch, and once all epochs have passed.
use Rattle.std.proofs.Common.{◌≡◌, ◌∙◌, ◌+◌, ◌≤◌, ◌++◌, ℕ, zero, suc, Bool, true, false, List, [], ◌∷◌, length, slice_get, Some, None, refl, sym, ap, arith}
use Rattle.std.specs.Prelude.{◌==◌, if◌then◌else◌, slice_index_or}
use Rattle.std.proofs.lemmas.Bool.{eqb-true, eqb-false}
use Rattle.std.proofs.lemmas.List.{append-nil}
use Rattle.std.proofs.lemmas.Option.{none-some}
use Rattle.mg_model.specs.declared.plans.PlanStep.{PlanStep}
use Rattle.mg_model.specs.declared.plans.PlanStep.TheVariants.{Restarts}
use Rattle.mg_model.specs.Plans.{PlanCall, steps_first, steps_later}
use Rattle.mg_reports.specs.Logs.{LogEntry, epoch_ended, restarted, took}
use Rattle.run_shards.proofs.LogLemmas.{later_steps}
use Rattle.run_shards.proofs.StepLemmas.{at_call, in_epochs, later_epochs, take_more, take_whole}
use Rattle.run_shards.specs.Counting.{epochs_logged, steps_taken, taken_so_far}
use Rattle.run_shards.specs.PlanSteps.{step_at}

-- ---- one entry more

-- in the epoch that the log is in
taken_here : (first at : ℕ) (log : List LogEntry) (entry : LogEntry) → at ≡ epochs_logged log
    → steps_taken first (log ++ entry ∷ []) at ≡ steps_taken first log at ++ steps_taken first (entry ∷ []) 0
taken_here first zero [] entry is = refl
taken_here first (suc at) [] entry is = absurd (omega (arith, is))
taken_here first zero (took other step state told ∷ more) entry is =
    later_steps (other == first) step (steps_taken first more 0) (steps_taken first (entry ∷ []) 0) (steps_taken first (more ++ entry ∷ []) 0)
    (taken_here first 0 more entry is)
taken_here first (suc at) (took other step state told ∷ more) entry is = taken_here first (suc at) more entry is
taken_here first zero (epoch_ended ∷ more) entry is = absurd (omega (arith, is))
taken_here first (suc at) (epoch_ended ∷ more) entry is = taken_here first at more entry (omega (arith, is))
taken_here first zero (restarted by ∷ more) entry is =
    later_steps (by == first) Restarts (steps_taken first more 0) (steps_taken first (entry ∷ []) 0) (steps_taken first (more ++ entry ∷ []) 0)
    (taken_here first 0 more entry is)
taken_here first (suc at) (restarted by ∷ more) entry is = taken_here first (suc at) more entry is

-- in another one
taken_elsewhere : (first at : ℕ) (log : List LogEntry) (entry : LogEntry) → (at ≡ epochs_logged log → ⊥)
    → steps_taken first (log ++ entry ∷ []) at ≡ steps_taken first log at
taken_elsewhere first zero [] entry other = absurd (other refl)
taken_elsewhere first (suc at) [] (took of step state told) other = refl
taken_elsewhere first (suc at) [] epoch_ended other = refl
taken_elsewhere first (suc at) [] (restarted by) other = refl
taken_elsewhere first zero (took of step state told ∷ more) entry other =
    by_test (of == first) (taken_elsewhere first 0 more entry other)
  where
    by_test : (test : Bool) → steps_taken first (more ++ entry ∷ []) 0 ≡ steps_taken first more 0
        → (if test then step ∷ steps_taken first (more ++ entry ∷ []) 0 else steps_taken first (more ++ entry ∷ []) 0)
        ≡ (if test then step ∷ steps_taken first more 0 else steps_taken first more 0)
    by_test true e = ap (λ (steps : List PlanStep). step ∷ steps) e
    by_test false e = e
taken_elsewhere first (suc at) (took of step state told ∷ more) entry other = taken_elsewhere first (suc at) more entry other
taken_elsewhere first zero (epoch_ended ∷ more) entry other = refl
taken_elsewhere first (suc at) (epoch_ended ∷ more) entry other = taken_elsewhere first at more entry (λ same. other (ap suc same))
taken_elsewhere first zero (restarted by ∷ more) entry other =
    by_test (by == first) (taken_elsewhere first 0 more entry other)
  where
    by_test : (test : Bool) → steps_taken first (more ++ entry ∷ []) 0 ≡ steps_taken first more 0
        → (if test then Restarts ∷ steps_taken first (more ++ entry ∷ []) 0 else steps_taken first (more ++ entry ∷ []) 0)
        ≡ (if test then Restarts ∷ steps_taken first more 0 else steps_taken first more 0)
    by_test true e = ap (λ (steps : List PlanStep). Restarts ∷ steps) e
    by_test false e = e
taken_elsewhere first (suc at) (restarted by ∷ more) entry other = taken_elsewhere first (suc at) more entry other

-- ---- what is taken of a plan's epochs

elsewhere_same : (epoch old new : ℕ) (epochs : List (List PlanStep)) (at : ℕ) → (at ≡ epoch → ⊥) → taken_so_far epoch old epochs at ≡ taken_so_far epoch new epochs at
unfolding taken_so_far
elsewhere_same zero old new epochs zero other = absurd (other refl)
elsewhere_same zero old new epochs (suc at) other = refl
elsewhere_same (suc epoch) old new epochs zero other = refl
elsewhere_same (suc epoch) old new epochs (suc at) other = elsewhere_same epoch old new (steps_later epochs) at (λ same. other (ap suc same))

here_advances : (epoch place : ℕ) (epochs : List (List PlanStep)) (step : PlanStep) → in_epochs epochs epoch place ≡ Some step
    → taken_so_far epoch (place + 1) epochs epoch ≡ taken_so_far epoch place epochs epoch ++ step ∷ []
unfolding taken_so_far
here_advances zero place [] step there = absurd (none-some step there)
here_advances zero place (steps ∷ more) step there = take_more steps place step there
here_advances (suc epoch) place epochs step there = here_advances epoch place (steps_later epochs) step (later_epochs epochs epoch place ∙ there)

-- where an epoch has no step left it is taken as a whole, and of the next one nothing
epoch_over : (epoch place : ℕ) (epochs : List (List PlanStep)) (at : ℕ) → in_epochs epochs epoch place ≡ None
    → taken_so_far epoch place epochs at ≡ taken_so_far (suc epoch) 0 epochs at
unfolding taken_so_far
epoch_over zero place epochs zero none = take_whole epochs place none
epoch_over zero place epochs (suc zero) none = refl
epoch_over zero place epochs (suc (suc at)) none = refl
epoch_over (suc epoch) place epochs zero none = refl
epoch_over (suc epoch) place epochs (suc at) none = epoch_over epoch place (steps_later epochs) at (later_epochs epochs epoch place ∙ none)

first_epoch : (epochs : List (List PlanStep)) → steps_first epochs ≡ slice_index_or epochs 0 []
first_epoch [] = refl
first_epoch (steps ∷ more) = refl

later_epoch : (epochs : List (List PlanStep)) (at : ℕ) → slice_index_or (steps_later epochs) at [] ≡ slice_index_or epochs (suc at) []
later_epoch [] at = refl
later_epoch (steps ∷ more) at = refl

few_later : (epochs : List (List PlanStep)) (epoch : ℕ) → length epochs ≤ suc epoch → length (steps_later epochs) ≤ epoch
few_later [] epoch few = omega arith
few_later (steps ∷ more) epoch few = omega (arith, few)

none_later : (epochs : List (List PlanStep)) (at : ℕ) → length epochs ≤ 0 → [] ≡ slice_index_or epochs at []
none_later [] at few = refl
none_later (steps ∷ more) at few = absurd (omega (arith, few))

all_over : (epoch place : ℕ) (epochs : List (List PlanStep)) (at : ℕ) → in_epochs epochs epoch place ≡ None → length epochs ≤ suc epoch
    → taken_so_far epoch place epochs at ≡ slice_index_or epochs at []
unfolding taken_so_far
all_over zero place epochs zero none few = take_whole epochs place none ∙ first_epoch epochs
all_over zero place epochs (suc at) none few = none_later (steps_later epochs) at (few_later epochs 0 few) ∙ later_epoch epochs at
all_over (suc epoch) place epochs zero none few = first_epoch epochs
all_over (suc epoch) place epochs (suc at) none few =
    all_over epoch place (steps_later epochs) at (later_epochs epochs epoch place ∙ none) (few_later epochs (suc epoch) few) ∙ later_epoch epochs at

-- ---- a log and a plan

-- what a call took is what it had taken with what the entry has of it, where it goes on in its epoch so
pub entry_taken : (first epoch old new : ℕ) (epochs : List (List PlanStep)) (log : List LogEntry) (entry : LogEntry) → epochs_logged log ≡ epoch
    → ((at : ℕ) → steps_taken first log at ≡ taken_so_far epoch old epochs at)
    → taken_so_far epoch new epochs epoch ≡ taken_so_far epoch old epochs epoch ++ steps_taken first (entry ∷ []) 0
    → (at : ℕ) → steps_taken first (log ++ entry ∷ []) at ≡ taken_so_far epoch new epochs at
entry_taken first epoch old new epochs log entry in_epoch before goes_on at = by_test (at == epoch) refl
  where
    by_test : (test : Bool) → (at == epoch) ≡ test → steps_taken first (log ++ entry ∷ []) at ≡ taken_so_far epoch new epochs at
    by_test true e =
        let here : at ≡ epoch = eqb-true at epoch e in
        taken_here first at log entry (here ∙ sym in_epoch)
        ∙ ap (λ (steps : List PlanStep). steps ++ steps_taken first (entry ∷ []) 0) (before at)
        ∙ ap (λ (n : ℕ). taken_so_far epoch old epochs n ++ steps_taken first (entry ∷ []) 0) here
        ∙ sym goes_on ∙ ap (λ (n : ℕ). taken_so_far epoch new epochs n) (sym here)
    by_test false e =
        let other : at ≡ epoch → ⊥ = eqb-false at epoch e in
        taken_elsewhere first at log entry (λ same. other (same ∙ in_epoch)) ∙ before at ∙ elsewhere_same epoch old new epochs at other

-- the end of an epoch that has no step of the call left
pub end_taken : (first epoch place : ℕ) (epochs : List (List PlanStep)) (log : List LogEntry) → epochs_logged log ≡ epoch
    → ((at : ℕ) → steps_taken first log at ≡ taken_so_far epoch place epochs at) → in_epochs epochs epoch place ≡ None
    → (at : ℕ) → steps_taken first (log ++ epoch_ended ∷ []) at ≡ taken_so_far (suc epoch) 0 epochs at
end_taken first epoch place epochs log in_epoch before none at =
    entry_taken first epoch place place epochs log epoch_ended in_epoch before (sym (append-nil (taken_so_far epoch place epochs epoch))) at
    ∙ epoch_over epoch place epochs at none

-- ---- a call of the plan

pub call_advances : (calls : List PlanCall) (first epoch place : ℕ) (call : PlanCall) (step : PlanStep) → slice_get calls first ≡ Some call
    → step_at calls first epoch place ≡ Some step
    → taken_so_far epoch (place + 1) call.epochs epoch ≡ taken_so_far epoch place call.epochs epoch ++ step ∷ []
call_advances calls first epoch place call step is there = here_advances epoch place call.epochs step (at_call calls first epoch place call is ∙ there)

-- once nothing is left of it in the last epoch, what it took in each is what the plan has of it there
pub call_over : (calls : List PlanCall) (first epoch place : ℕ) (call : PlanCall) (at : ℕ) → slice_get calls first ≡ Some call
    → step_at calls first epoch place ≡ None → length call.epochs ≤ suc epoch → taken_so_far epoch place call.epochs at ≡ slice_index_or call.epochs at []
call_over calls first epoch place call at is none few = all_over epoch place call.epochs at (at_call calls first epoch place call is ∙ none) few
