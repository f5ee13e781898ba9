-- What is told in place of a report.
use Rattle.std.proofs.Common.{◌≡◌, ◌≢◌, ℕ, Ok, Err, refl, sym, ap, subst, arith, inl}
use Rattle.mg_model.specs.Plans.{Plan}
use Rattle.mg_model.specs.Script.{Script}
use Rattle.mg_model.specs.declared.faults.Fault.{Fault}
use Rattle.composition.specs.Verdict.{RefutedScript}
use Rattle.composition.specs.Verdicts.{IsUnread, IsVerdict}
use Rattle.composition.specs.declared.verdict.Verdict.TheVariants.{No}
use Rattle.composition.specs.declared.verdict.CheckFault.{CheckFault}
use Rattle.composition.specs.declared.verdict.CheckFault.TheVariants as fault
use Rattle.plans.specs.FaultNames as plan_names
use Rattle.plans.specs.Reading.{ReadsPlan}
use Rattle.plans.specs.declared.fault.PlanFault.{PlanFault}
use Rattle.typed_values.specs.Unread.{OrNoMemory}
use Rattle.typed_values.specs.declared.unread.Unread.{Unread}
use Rattle.typed_values.specs.declared.unread.Unread.TheVariants as unreads
use Rattle.runner.specs.FaultNames as run_names
use Rattle.runner.specs.Runs.{HasRun}
use Rattle.runner.specs.RunFault.{RunFault}
use Rattle.runner.specs.RunFault.TheVariants as runs
use Rattle.check_lines.specs.Output.{Text, Line, line, usage, sections, too_long, script_fault, certificate_fault, plan_fault, run_fault, yes, no, no_memory}
use Rattle.run_reports.specs.RunAnswers.{AnswersPlan, AnswersRun, Refuses, TellsPlanFault, TellsRunFault}
use Rattle.check_lines.specs.VerdictLines.{Judges, NamesFault, NamesRefusal}
use Rattle.check_lines.proofs.VerdictLines.{told}

-- ---- a plan that is not read

pub plan_refused : (table : Script) (workers : ℕ) (plan : Text) (why : Unread PlanFault) (l : Line) → OrNoMemory (ReadsPlan table plan) (Err why)
    → TellsPlanFault why l → AnswersPlan table workers plan (line l)
plan_refused table workers plan (unreads.Fault fault) l reads is = subst (λ (m : Line). AnswersPlan table workers plan (line m)) (sym is)
    (record { fault = fault; reads = reads; numbered = refl; named = refl })
plan_refused table workers plan unreads.NoMemory l reads is = subst (λ (m : Line). AnswersPlan table workers plan (line m)) (sym is) tt

-- ---- a plan without a report

run_told : (table : Script) (workers : ℕ) (plan : Text) (steps : Plan) (fault : RunFault) (l : Line) → fault ≢ runs.NoMemory
    → ReadsPlan table plan (Ok steps) → HasRun table steps workers (Err fault)
    → l ≡ run_fault (run_names.number_of fault) (run_names.name_of fault) → AnswersPlan table workers plan (line l)
run_told table workers plan steps fault l other reads has is = subst (λ (m : Line). AnswersPlan table workers plan (line m)) (sym is)
    (record { steps = steps; reads = reads; fault = fault; told = other; runs = has; numbered = refl; named = refl })

pub run_refused : (table : Script) (workers : ℕ) (plan : Text) (steps : Plan) (fault : RunFault) (l : Line) → ReadsPlan table plan (Ok steps)
    → HasRun table steps workers (Err fault) → TellsRunFault fault l → AnswersPlan table workers plan (line l)
run_refused table workers plan steps runs.NoMemory l reads has is = subst (λ (m : Line). AnswersPlan table workers plan (line m)) (sym is) tt
run_refused table workers plan steps runs.BadWorkers l reads has is =
    run_told table workers plan steps runs.BadWorkers l (λ e. let n = ap run_names.number_of e in omega (arith, n)) reads has is
run_refused table workers plan steps runs.TooManyCalls l reads has is =
    run_told table workers plan steps runs.TooManyCalls l (λ e. let n = ap run_names.number_of e in omega (arith, n)) reads has is
run_refused table workers plan steps runs.Disagree l reads has is =
    run_told table workers plan steps runs.Disagree l (λ e. let n = ap run_names.number_of e in omega (arith, n)) reads has is

-- ---- a script that is not checked

-- a fault that is named isn't a yes
named : (script certificate : Text) (table : Script) (fault : Fault) (l : Line) → NamesFault table fault l → Judges script certificate l → Refuses script certificate (line l)
named script certificate table fault (no obligation entry point step) names judges = judges
named script certificate table fault no_memory names judges = judges
named script certificate table fault (yes states entries points) names judges = absurd names
named script certificate table fault usage names judges = absurd names
named script certificate table fault sections names judges = absurd names
named script certificate table fault too_long names judges = absurd names
named script certificate table fault (script_fault number name) names judges = absurd names
named script certificate table fault (certificate_fault number name) names judges = absurd names
named script certificate table fault (plan_fault number name) names judges = absurd names
named script certificate table fault (run_fault number name) names judges = absurd names

pub no_told : (workers : ℕ) (script certificate plan : Text) (refuted : RefutedScript) (l : Line) → IsVerdict script certificate (Ok (No refuted))
    → NamesFault refuted.table refuted.fault l → AnswersRun workers script certificate plan (line l)
no_told workers script certificate plan refuted l is names =
    inl (named script certificate refuted.table refuted.fault l names (told script certificate refuted l is names))

pub unread_told : (workers : ℕ) (script certificate plan : Text) (unread : CheckFault) (l : Line) → IsUnread script certificate unread
    → NamesRefusal unread l → AnswersRun workers script certificate plan (line l)
unread_told workers script certificate plan (fault.Script refused) l is names =
    subst (λ (m : Line). AnswersRun workers script certificate plan (line m)) (sym names) (inl (record { fault = refused; has = is; numbered = refl; named = refl }))
unread_told workers script certificate plan (fault.Cert refused) l is names =
    subst (λ (m : Line). AnswersRun workers script certificate plan (line m)) (sym names) (inl (record { fault = refused; has = is; numbered = refl; named = refl }))
unread_told workers script certificate plan fault.NoMemory l is names =
    subst (λ (m : Line). AnswersRun workers script certificate plan (line m)) (sym names) (inl tt)
