-- A plan has one report, call by call; and where no step is a `restart`, no call has restarts of others.
use Rattle.mg_model.specs.Accepted.{HasFewCommands}
use Rattle.std.proofs.Common.{◌≡◌, ◌∙◌, ◌+◌, ℕ, List, [], ◌∷◌, refl, ap, subst, arith, Contains}
use Rattle.mg_merge.proofs.Words.{All, AreReported, Entry, IsEntryOf, IsReported, IsScript, NoneBroken, Plan, PlanCall, PlanStep, ReportLine, Restarts, Script}
use Rattle.mg_merge.proofs.Words.{epochs_of, first_in, later_in, opened_as, restarts_among, restarts_asked, restarts_of_all, restarts_of_others, steps_in}
use Rattle.mg_reports.proofs.Runs.{one_alone}
use Rattle.mg_reports.specs.OneReport.{OneReport, PlansWithoutRestartSteps}

-- ---- each call has one report

module _ (script : Script) (entries : List Entry) (is_script : IsScript script) (listed : All (IsEntryOf script) entries) (none_broken : NoneBroken script entries)
    (few : HasFewCommands script) (plan : Plan) where
  each_call : (number : ℕ) (calls : List PlanCall) → ((call : PlanCall) → Contains calls call → restarts_of_others plan call ≡ 0)
      → (lines others : List (List ReportLine)) → AreReported script plan number calls lines → AreReported script plan number calls others → others ≡ lines
  unfolding AreReported
  each_call number [] none [] [] are also = refl
  each_call number (call ∷ more) none (own ∷ lines) (its ∷ others) are also =
      let zero = none call (first_in call more) in
      let one : IsReported script (opened_as number call) (steps_in (epochs_of plan.calls) call.epochs) 0 own =
      subst (λ (n : ℕ). IsReported script (opened_as number call) (steps_in (epochs_of plan.calls) call.epochs) n own) zero are.0 in
      let other : IsReported script (opened_as number call) (steps_in (epochs_of plan.calls) call.epochs) 0 its =
      subst (λ (n : ℕ). IsReported script (opened_as number call) (steps_in (epochs_of plan.calls) call.epochs) n its) zero also.0 in
      ap (λ (x : List ReportLine). x ∷ others)
      (one_alone script entries is_script listed none_broken few (opened_as number call) (steps_in (epochs_of plan.calls) call.epochs) own its one other)
      ∙ ap (λ (l : List (List ReportLine)). own ∷ l)
      (each_call (number + 1) more (λ c there. none c (later_in call more c there)) lines others are.1 also.1)
  each_call number [] none (own ∷ lines) others are also = absurd are
  each_call number (call ∷ more) none [] others are also = absurd are
  each_call number _ none _ _ are also = absurd also

pub one_report : OneReport
one_report script entries is_script listed none_broken few plan none lines others are also =
    each_call script entries is_script listed none_broken few plan 0 plan.calls none lines others are also

-- ---- no restart

none_among : (steps : List PlanStep) → (Contains steps Restarts → ⊥) → restarts_among steps ≡ 0
none_among [] none = refl
none_among (Restarts ∷ more) none = absurd (none (first_in Restarts more))
none_among (step ∷ more) none = none_among more (λ there. none (later_in step more Restarts there))

none_asked : (epochs : List (List PlanStep)) → ((steps : List PlanStep) → Contains epochs steps → Contains steps Restarts → ⊥) → restarts_asked epochs ≡ 0
none_asked [] none = refl
none_asked (steps ∷ more) none =
    let own = none_among steps (none steps (first_in steps more)) in
    let later = none_asked more (λ other there. none other (later_in steps more other there)) in omega (arith, own, later)

none_of_all : (calls : List PlanCall) → ((call : PlanCall) → Contains calls call → (steps : List PlanStep) → Contains call.epochs steps → Contains steps Restarts → ⊥)
    → restarts_of_all calls ≡ 0
none_of_all [] none = refl
none_of_all (call ∷ more) none =
    let own = none_asked call.epochs (none call (first_in call more)) in
    let later = none_of_all more (λ other there. none other (later_in call more other there)) in omega (arith, own, later)

pub none_of_others : PlansWithoutRestartSteps
none_of_others plan none call there = let all = none_of_all plan.calls none in omega (arith, all)
