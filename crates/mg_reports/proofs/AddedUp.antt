-- Each step of a call alone is counted once: what was told so far grows by one at each step other than a restart.
use Rattle.std.proofs.Common.{◌≡◌, ◌∙◌, ◌++◌, ◌+◌, ◌≤◌, ◌⊎◌, ℕ, zero, suc, List, [], ◌∷◌, length, refl, sym, ap, inl, inr, arith}
use Rattle.mg_merge.proofs.Words.{Agent, AreReported, GoesOff, IsPlacing, Plan, PlanCall, PlanStep, Progress, ReportLine, Restarts, Script, StepHappens}
use Rattle.mg_merge.proofs.Words.{StepIsIdle, StepsRun, World, after_event, epochs_of, line_now, line_retired, start_as, steps_in}
use Rattle.mg_model.specs.declared.plans.PlanStep.TheVariants.{Begins}
use Rattle.mg_reports.specs.Sums.{AddUp, LinesAddUp, ReportsAddUp, steps_besides_restarts, steps_of_call, steps_told}

-- ---- one step

-- 1 for a step that is counted, and 0 for a restart
abbrev counted : PlanStep → ℕ
counted step = steps_besides_restarts (step ∷ [])

step_more : (step : PlanStep) (more : List PlanStep) → steps_besides_restarts (step ∷ more) ≡ counted step + steps_besides_restarts more
step_more (GoesOff l) more = omega arith
step_more _ more = omega arith

told_more : (lines : List ReportLine) (line : ReportLine) → steps_told (lines ++ line ∷ []) ≡ steps_told lines + (line.events + line.idle)
told_more [] line = omega arith
told_more (first ∷ lines) line = let later = told_more lines line in omega (arith, later)

-- all that was counted so far
abbrev so_far : Progress → ℕ
so_far p = steps_told p.retired + (p.events + p.idle)

counts_event : (script : Script) (first : ℕ) (a : Agent) (p : Progress) (step : PlanStep) (w : World)
    → so_far (after_event script first a p step w) ≡ counted step + so_far p
counts_event script first a p Begins w = let added = told_more p.retired (line_retired script a p) in omega (arith, added)
counts_event script first a p _ w = omega arith

counts_idle : (step : PlanStep) → (step ≡ Restarts → ⊥) → counted step ≡ 1
counts_idle Restarts other = absurd (other refl)
counts_idle _ other = refl

step_counts : (script : Script) (first : ℕ) (p : Progress) (step : PlanStep) (after : Progress)
    → StepHappens script first p step after ⊎ StepIsIdle script first p step after → so_far after ≡ counted step + so_far p
step_counts script first p step after (inl happens) = ap so_far happens.after_is ∙ counts_event script first happens.agent p step happens.world
step_counts script first p step after (inr idle) =
    let one = counts_idle step idle.no_restart in
    let same : so_far after ≡ so_far p + 1 = ap so_far idle.after_is ∙ omega arith in omega (arith, one, same)

-- ---- all steps

run_counts : (script : Script) (first : ℕ) (steps : List PlanStep) (p end : Progress) → StepsRun script first steps p end
    → so_far end ≡ steps_besides_restarts steps + so_far p
unfolding StepsRun
run_counts script first [] p end is = let same = ap so_far is in omega (arith, same)
run_counts script first (step ∷ more) p end (next, goes, runs) =
    let later = run_counts script first more next end runs in
    let own = step_counts script first p step next goes in
    let all = step_more step more in omega (arith, later, own, all)

-- restarts of other calls are not counted
placed_same : (steps : List PlanStep) (others : ℕ) (placed : List PlanStep) → IsPlacing steps others placed
    → steps_besides_restarts placed ≡ steps_besides_restarts steps
unfolding IsPlacing
placed_same steps others [] is = ap steps_besides_restarts (sym is.0)
placed_same steps others (step ∷ placed) (inl (more, is, placing)) =
    let later = placed_same more others placed placing in
    let one = step_more step placed in
    let own : steps_besides_restarts steps ≡ counted step + steps_besides_restarts more = ap steps_besides_restarts is ∙ step_more step more in
    omega (arith, later, one, own)
placed_same steps others (step ∷ placed) (inr (fewer, restart, is, placing)) =
    ap (λ (s : PlanStep). steps_besides_restarts (s ∷ placed)) restart ∙ placed_same steps fewer placed placing

pub lines_add : LinesAddUp
lines_add script one steps others lines is =
    let run = run_counts script one.call is.placed (start_as one is.start) is.end is.runs in
    let placed = placed_same steps others is.placed is.placing in
    let told : steps_told lines ≡ so_far is.end = ap steps_told is.lines_are ∙ told_more is.end.retired (line_now script is.agent is.end) in
    omega (arith, run, placed, told)

-- ---- all calls of a plan

both : (steps more : List PlanStep) → steps_besides_restarts (steps ++ more) ≡ steps_besides_restarts steps + steps_besides_restarts more
both [] more = omega arith
both (step ∷ steps) more =
    let later = both steps more in
    let one = step_more step steps in
    let all = step_more step (steps ++ more) in omega (arith, later, one, all)

-- the steps of all epochs, with the restarts between them
in_epochs : (count : ℕ) (epochs : List (List PlanStep)) → length epochs ≤ count → steps_besides_restarts (steps_in count epochs) ≡ steps_of_call epochs
in_epochs zero [] few = refl
in_epochs (suc zero) [] few = refl
in_epochs (suc zero) (steps ∷ []) few = omega arith
in_epochs (suc (suc count)) [] few = in_epochs (suc count) [] (omega arith)
in_epochs (suc (suc count)) (steps ∷ more) few =
    let later = in_epochs (suc count) more (omega (arith, few)) in
    let here = both steps (Restarts ∷ steps_in (suc count) more) in omega (arith, later, here)
in_epochs _ _ few = absurd (omega (arith, few))

all_add : (script : Script) (plan : Plan) (number : ℕ) (calls : List PlanCall) (lines : List (List ReportLine)) → epochs_of calls ≤ epochs_of plan.calls
    → AreReported script plan number calls lines → AddUp calls lines
unfolding AreReported
all_add script plan number [] [] few are = tt
all_add script plan number (call ∷ more) (own ∷ others) few (one, are) =
    let own_few : length call.epochs ≤ epochs_of plan.calls = omega (arith, few) in
    let more_few : epochs_of more ≤ epochs_of plan.calls = omega (arith, few) in
    (lines_add script _ _ _ own one ∙ in_epochs (epochs_of plan.calls) call.epochs own_few, all_add script plan (number + 1) more others more_few are)
all_add script plan number _ _ few are = absurd are

pub reports_add : ReportsAddUp
reports_add script plan lines is = all_add script plan 0 plan.calls lines (let same : epochs_of plan.calls ≤ epochs_of plan.calls = omega arith in same) is
