-- Each report of a plan tells the same as the lines of a run of it: both have one number for each line, and say the same of its call.
use Rattle.std.proofs.Common.{◌≡◌, ◌∙◌, ◌+◌, ◌-◌, ◌++◌, ℕ, List, [], ◌∷◌, length, map, refl, sym, ap, ap₂, subst}
use Rattle.std.specs.List.{All, flat_map}
use Rattle.std.proofs.lemmas.List.{length-map, map-append}
use Rattle.mg_model.specs.Accepted.{IsEntryOf, IsScript}
use Rattle.mg_model.specs.Entries.{Entry}
use Rattle.mg_model.specs.Obligations.{NoneBroken}
use Rattle.mg_model.specs.Plans.{Plan, PlanCall, epochs_of, opened_as, restarts_asked, restarts_of_all, steps_in}
use Rattle.mg_model.specs.Reports.{AreReported, IsReported, ReportLine}
use Rattle.mg_model.specs.Script.{Script}
use Rattle.mg_reports.specs.OneReport.{OneReport}
use Rattle.composition.specs.Verdict.{IsChecked}
use Rattle.run_account.specs.ReportLines.{AreAllNumbered, AreNumbered, IsReportOf, line_of, number_of, numbers_from}
use Rattle.run_account.specs.Line.{Line}
use Rattle.runner.specs.OnlyReport.{IsOnlyReport, told_of}

-- ---- what is told of lines

abbrev said : Script → List Line → List ReportLine
said script own = map (line_of script) own

abbrev told : Script → List Line → List ((ℕ × ℕ) × ReportLine)
told script own = map (told_of script) own

-- lines that have the same numbers and say the same
as_told : (script : Script) (own others : List Line) → map number_of own ≡ map number_of others → said script own ≡ said script others
    → told script own ≡ told script others
as_told script [] [] numbers says = refl
as_told script [] (o ∷ others) numbers says = absurd (cc says)
as_told script (l ∷ own) [] numbers says = absurd (cc says)
as_told script (l ∷ own) (o ∷ others) numbers says =
    let number : number_of l ≡ number_of o = cc numbers in
    let say : line_of script l ≡ line_of script o = cc says in
    let more_numbers : map number_of own ≡ map number_of others = cc numbers in
    let more_says : said script own ≡ said script others = cc says in
    ap₂ (λ (line : (ℕ × ℕ) × ReportLine) (more : List ((ℕ × ℕ) × ReportLine)). line ∷ more)
    (ap₂ (λ (n : ℕ × ℕ) (r : ReportLine). (n, r)) number say) (as_told script own others more_numbers more_says)

-- so many lines of one call of the plan have the same numbers
same_numbers : (script : Script) (call : ℕ) (own others : List Line) → AreNumbered call own → AreNumbered call others → said script own ≡ said script others
    → map number_of own ≡ map number_of others
same_numbers script call own others numbered also says =
    let count : length own ≡ length others = sym (length-map own (line_of script)) ∙ ap (λ (r : List ReportLine). length r) says ∙ length-map others (line_of script) in
    numbered ∙ ap (λ (n : ℕ). numbers_from call 0 n) count ∙ sym also

-- so it is call after call
all_told : (script : Script) (call : ℕ) (calls others : List (List Line)) → AreAllNumbered call calls → AreAllNumbered call others
    → map (said script) calls ≡ map (said script) others
    → told script (flat_map (λ (own : List Line). own) calls) ≡ told script (flat_map (λ (own : List Line). own) others)
all_told script call [] [] numbered also says = refl
all_told script call [] (its ∷ others) numbered also says = absurd (cc says)
all_told script call (own ∷ calls) [] numbered also says = absurd (cc says)
all_told script call (own ∷ calls) (its ∷ others) numbered also says =
    let first : said script own ≡ said script its = cc says in
    let later : map (said script) calls ≡ map (said script) others = cc says in
    map-append (told_of script) own (flat_map (λ (own : List Line). own) calls)
    ∙ ap₂ (λ (a b : List ((ℕ × ℕ) × ReportLine)). a ++ b) (as_told script own its (same_numbers script call own its numbered.0 also.0 first) first)
    (all_told script (call + 1) calls others numbered.1 also.1 later)
    ∙ sym (map-append (told_of script) its (flat_map (λ (own : List Line). own) others))

-- ---- plans with the same calls, in any number of shards

module _ (script : Script) (plan other : Plan) (same : other.calls ≡ plan.calls) where
  as_reported : (number : ℕ) (calls : List PlanCall) (lines : List (List ReportLine)) → AreReported script other number calls lines
      → AreReported script plan number calls lines
  unfolding AreReported
  as_reported number [] [] are = tt
  as_reported number [] (own ∷ lines) are = absurd are
  as_reported number (call ∷ more) [] are = absurd are
  as_reported number (call ∷ more) (own ∷ lines) are = (
    subst (λ (calls : List PlanCall). IsReported script (opened_as number call) (steps_in (epochs_of calls) call.epochs) (restarts_of_all calls - restarts_asked call.epochs) own)
        same are.0,
    as_reported (number + 1) more lines are.1,
  )

-- ---- the report

pub only_report : OneReport → (script : Script) (entries : List Entry) (points : ℕ) → IsChecked script entries points → (plan : Plan) (lines : List Line)
    → IsReportOf script plan lines → IsOnlyReport script plan lines
only_report one_report script entries points checked plan lines is none other same others also =
    let reported : AreReported script plan 0 plan.calls (map (said script) also.of_calls) =
    subst (λ (calls : List PlanCall). AreReported script plan 0 calls (map (said script) also.of_calls)) same
    (as_reported script plan other same 0 other.calls (map (said script) also.of_calls) also.reported) in
    let says : map (said script) also.of_calls ≡ map (said script) is.of_calls =
    one_report script entries checked.accepted checked.listed checked.none_broken checked.few_commands plan none (map (said script) is.of_calls)
    (map (said script) also.of_calls) is.reported reported in
    ap (told script) also.are ∙ all_told script 0 also.of_calls is.of_calls also.numbered is.numbered says ∙ sym (ap (told script) is.are)
