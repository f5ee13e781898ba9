-- What answers a script, a certificate and a plan, from their bytes. A reader should check that a script that isn't checked is answered as `check` answers it, but
-- never by a yes, that a plan is read and run only after that, and that a report is that of an outcome of a run of the plan.
use Rattle.std.specs.Prelude.{◌≡◌, ◌≢◌, ◌⊎◌, ℕ, List, map, Ok, Err}
use Rattle.mg_model.specs.Entries.{Entry}
use Rattle.mg_model.specs.Plans.{Plan}
use Rattle.mg_model.specs.Script.{Script}
use Rattle.mg_reports.specs.OneReport.{HaveNoRestartsOfOthers}
use Rattle.composition.specs.Verdict.{AreRead, IsChecked}
use Rattle.plans.specs.FaultNames as plan_names
use Rattle.plans.specs.Reading.{ReadsPlan}
use Rattle.plans.specs.declared.fault.PlanFault.{PlanFault}
use Rattle.typed_values.specs.declared.unread.Unread.{Unread}
use Rattle.typed_values.specs.declared.unread.Unread.TheVariants as unreads
use Rattle.runner.specs.FaultNames as run_names
use Rattle.runner.specs.ReportLines.{IsReportOf, line_of}
use Rattle.runner.specs.Runs.{HasRun, OutcomeValue}
use Rattle.runner.specs.RunFault.{RunFault}
use Rattle.runner.specs.RunFault.TheVariants as runs
use Rattle.runner.specs.Line.{Line as RunLine}
use Rattle.check_lines.specs.Output.{Text, Line, Output, CallLine, line, report, plan_fault, run_fault, yes, no_memory}
use Rattle.check_lines.specs.VerdictLines.{Judges}

-- ---- a plan of a script that is checked

pub record IsPlanFault (table : Script) (plan : Text) (number : ℕ) (name : Text) : Type 0 where
  pub fault : PlanFault
  pub reads : ReadsPlan table plan (Err fault)
  pub numbered : number ≡ plan_names.number_of fault
  pub named : name ≡ plan_names.name_of fault

pub record IsRunFault (table : Script) (workers : ℕ) (plan : Text) (number : ℕ) (name : Text) : Type 0 where
  pub steps : Plan
  pub reads : ReadsPlan table plan (Ok steps)
  pub fault : RunFault
  pub told : fault ≢ runs.NoMemory
  pub runs : HasRun table steps workers (Err fault)
  pub numbered : number ≡ run_names.number_of fault
  pub named : name ≡ run_names.name_of fault

-- a line of an outcome, with its state by name
abbrev pub call_line : Script → RunLine → CallLine
call_line script l = record { call = l.call; begun = l.begun; told = line_of script l }

abbrev pub call_lines : Script → List RunLine → List CallLine
call_lines script lines = map (call_line script) lines

pub record IsReported (table : Script) (workers : ℕ) (plan : Text) (calls : List CallLine) : Type 0 where
  pub steps : Plan
  pub reads : ReadsPlan table plan (Ok steps)
  pub outcome : OutcomeValue
  pub runs : HasRun table steps workers (Ok outcome)
  pub calls_are : calls ≡ call_lines table outcome.lines
  -- where no call of the plan has restarts of others, its calls have no other report, on any number of workers and in any number of shards
  pub only : HaveNoRestartsOfOthers steps → (other : Plan) → other.calls ≡ steps.calls → (others : List RunLine) → IsReportOf table other others
      → call_lines table others ≡ calls

-- the output on the bytes of a plan; memory may run out
abbrev pub AnswersPlan : Script → (workers : ℕ) → (plan : Text) → Output → Type 0
AnswersPlan table workers plan (line (plan_fault number name)) = IsPlanFault table plan number name
AnswersPlan table workers plan (line (run_fault number name)) = IsRunFault table workers plan number name
AnswersPlan table workers plan (line no_memory) = Unit {0}
AnswersPlan table workers plan (line other) = ⊥
AnswersPlan table workers plan (report calls) = IsReported table workers plan calls

-- ---- what is told of a fault

abbrev pub TellsPlanFault : Unread PlanFault → Line → Type 0
TellsPlanFault (unreads.Fault fault) l = l ≡ plan_fault (plan_names.number_of fault) (plan_names.name_of fault)
TellsPlanFault unreads.NoMemory l = l ≡ no_memory

abbrev pub TellsRunFault : RunFault → Line → Type 0
TellsRunFault runs.NoMemory l = l ≡ no_memory
TellsRunFault fault l = l ≡ run_fault (run_names.number_of fault) (run_names.name_of fault)

-- ---- the whole

-- what `check` says of a script and a certificate, but for a yes
abbrev pub Refuses : (script certificate : Text) → Output → Type 0
Refuses script certificate (line (yes states entries points)) = ⊥
Refuses script certificate (line other) = Judges script certificate other
Refuses script certificate (report calls) = ⊥

pub record AnswersChecked (workers : ℕ) (script certificate plan : Text) (out : Output) : Type 0 where
  pub table : Script
  pub entries : List Entry
  pub points : ℕ
  pub read : AreRead script certificate table entries
  pub checked : IsChecked table entries points
  pub answers : AnswersPlan table workers plan out

-- the script and its certificate are refused, or else the output is that on the plan
abbrev pub AnswersRun : (workers : ℕ) → (script certificate plan : Text) → Output → Type 0
AnswersRun workers script certificate plan out = Refuses script certificate out ⊎ AnswersChecked workers script certificate plan out
