-- What is told of an input with a plan: what `mgcall run` writes for it on one worker, with the status of that. This profile's own.
use Rattle.std.specs.Prelude.{◌≡◌, Bool, true, false, if◌then◌else◌, List, [], ◌∷◌, ◌++◌, Ok, codes, string_bytes}
use Rattle.std.specs.Fmt.{decimal}
use Rattle.check_lines.specs.Output.{Text, CallLine, Output, line, report, written, status_of, line_status, number_text, place_text}
use Rattle.mg_model.specs.Script.{Script}
use Rattle.mg_model.specs.Plans.{Plan}
use Rattle.plans.specs.Reading.{ReadsPlan}
use Rattle.run_reports.specs.Line.{Line as RunLine}
use Rattle.run_reports.specs.RunAnswers.{AnswersPlan, AnswersRun, call_lines}
use Rattle.program_rim.specs.Statuses.{code_of}
use Rattle.check_facts.specs.Saying.{IsInValue}
use Rattle.check_facts.specs.declared.form.Form.{Form}
use Rattle.check_facts.specs.declared.form.Form.TheVariants as form
use Rattle.check_facts.specs.declared.said.Said.{Said}

-- the text begins with an output, whose status it has
abbrev pub Begins : Output → Said → Type 0
Begins out said = ((rest : Text) × (string_bytes said.text ≡ written out ++ rest)) × (code_of said.status ≡ status_of out)

-- a comma stands before each line but the first
abbrev pub gap_text : (is_next : Bool) → Text
gap_text is_next = if is_next then codes "," else []

-- a line of a report without its end, in quotation marks; a reader should check that it is `call_text`, but for the end
abbrev pub quoted_line : (is_next : Bool) → CallLine → Text
quoted_line is_next c =
    gap_text is_next ++ (codes "\"" ++ (number_text c.call c.begun
    ++ (place_text c.told.state c.told.phase ++ ((codes " events=" ++ decimal c.told.events) ++ ((codes " idle=" ++ decimal c.told.idle) ++ codes "\"")))))

-- the lines of a report
unfoldable pub quoted_from : (is_next : Bool) → List CallLine → Text
quoted_from is_next [] = []
quoted_from is_next (c ∷ more) = quoted_line is_next c ++ quoted_from true more

-- a JSON value with the lines of a report, and with members behind them
abbrev pub report_value_text : (lines more : Text) → Text
report_value_text lines more = codes "{\"format\":2,\"status\":0,\"lines\":[" ++ (lines ++ (codes "]" ++ (more ++ codes "}\n")))

-- the text is such a value of these lines
abbrev pub IsReportValue : List CallLine → Text → Type 0
IsReportValue calls text = (more : Text) × (text ≡ report_value_text (quoted_from false calls) more)

-- the output stands before the line on words; as JSON a line stands in a value beside its status, and the lines of a report stand in a value with the status of
-- a report
abbrev pub IsUnderOutput : Form → Output → Said → Type 0
IsUnderOutput form.Text out said = Begins out said
IsUnderOutput form.Json (line l) said = IsInValue l (code_of said.status) (string_bytes said.text) × (code_of said.status ≡ line_status l)
IsUnderOutput form.Json (report lines) said = IsReportValue lines (string_bytes said.text) × (code_of said.status ≡ status_of (report lines))

-- under an output of this kind
abbrev pub IsTold : (Output → Type 0) → Form → Said → Type 0
IsTold Is form said = (out : Output) × Is out × IsUnderOutput form out said

-- under what `mgcall run` writes on one worker for a script, a certificate and a plan
abbrev pub IsRunTold : (script certificate plan : Text) → Form → Said → Type 0
IsRunTold script certificate plan form said = IsTold (AnswersRun 1 script certificate plan) form said

-- the same of a plan of a script that is checked
abbrev pub IsPlanTold : Script → (plan : Text) → Form → Said → Type 0
IsPlanTold table plan form said = IsTold (AnswersPlan table 1 plan) form said

-- under the report of these lines
abbrev pub IsUnderReport : Form → Script → List RunLine → Said → Type 0
IsUnderReport form table lines said = IsUnderOutput form (report (call_lines table lines)) said

-- under the report of a run of a plan on one worker, or a line for why there is none; memory may run out
abbrev pub AnswersSteps : Script → Plan → Output → Type 0
AnswersSteps table plan out = ((text : Text) → ReadsPlan table text (Ok plan) → AnswersPlan table 1 text out)

abbrev pub IsRunOfPlanTold : Script → Plan → Form → Said → Type 0
IsRunOfPlanTold table plan form said = IsTold (AnswersSteps table plan) form said
