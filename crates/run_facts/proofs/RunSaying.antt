-- What is said of a run stands under an output of its kind.
use Rattle.std.proofs.Common.{◌≡◌, ◌∙◌, ◌++◌, List, [], ◌∷◌, Result, Ok, Err, String, Global, sym, subst, append_assoc, inr, rules}
use Rattle.std.specs.Prelude.{IfOk, string_bytes}
use Rattle.std.specs.declared.alloc.AllocError.{AllocError}
use Rattle.check_lines.specs.Output.{Line, Output, Text, line, report, text_of}
use Rattle.check_lines.specs.VerdictLines.{NamesRefusal}
use Rattle.composition.specs.Verdict.{AreRead, CheckedScript}
use Rattle.composition.specs.Verdicts.{IsUnread, IsVerdict, IsVerdictOn}
use Rattle.composition.specs.declared.verdict.Verdict.TheVariants.{Yes}
use Rattle.composition.specs.declared.verdict.CheckFault.{CheckFault}
use Rattle.mg_model.specs.Entries.{Entry}
use Rattle.mg_model.specs.Plans.{Plan}
use Rattle.mg_model.specs.Script.{Script}
use Rattle.plans.specs.Reading.{ReadsPlan}
use Rattle.run_reports.specs.RunAnswers.{AnswersPlan, AnswersRun}
use Rattle.run_reports.proofs.RunLemmas.{unread_told}
use Rattle.check_facts.specs.Saying.{IsSaid, IsUnder}
use Rattle.check_facts.specs.declared.form.Form.{Form}
use Rattle.check_facts.specs.declared.form.Form.TheVariants as form
use Rattle.check_facts.specs.declared.said.Said.{Said}
use Rattle.run_facts.specs.Saying.{IsPlanTold, IsRunOfPlanTold, IsRunTold, IsTold, IsUnderOutput}

-- a text that begins with a line begins with that line as an output
under_output : (f : Form) (l : Line) (said : Said) → IsUnder f l said → IsUnderOutput f (line l) said
under_output form.Text l said ((rest, is), status) = ((rest, is ∙ sym (append_assoc (text_of l) (10 ∷ []) rest)), status)
under_output form.Json l said told = told

pub told_line : (Is : Output → Type 0) (f : Form) (l : Line) → Is (line l) → (result : Result Said AllocError) → IfOk result (IsUnder f l) → IfOk result (IsTold Is f)
told_line Is f l is (Ok said) under = (line l, is, under_output f l said under)
told_line Is f l is (Err error) under = search rules

pub told_output : (Is : Output → Type 0) (f : Form) (out : Output) → Is out → (result : Result Said AllocError) → IfOk result (IsUnderOutput f out) → IfOk result (IsTold Is f)
told_output Is f out is (Ok said) under = (out, is, under)
told_output Is f out is (Err error) under = search rules

-- of what is said of a plan whoever read it
pub told_plan : (table : Script) (plan : Plan) (text : Text) (f : Form) → ReadsPlan table text (Ok plan) → (result : Result Said AllocError)
    → IfOk result (IsRunOfPlanTold table plan f) → IfOk result (IsPlanTold table text f)
told_plan table plan text f reads (Ok said) (out, answers, under) = (out, answers text reads, under)
told_plan table plan text f reads (Err error) told = search rules

-- of a script that is checked
checked_run : (script certificate plan : Text) (table : Script) (entries : List Entry) (checked : CheckedScript) (f : Form)
    → AreRead script certificate table entries → IsVerdictOn table entries (Yes checked) → (result : Result Said AllocError)
    → IfOk result (IsPlanTold checked.table plan f) → IfOk result (IsRunTold script certificate plan f)
checked_run script certificate plan table entries checked f read (is_table, are_entries, is_checked) (Ok said) (out, answers, under) =
    let reads : AreRead script certificate checked.table checked.entries =
    subst (λ (t : Script). AreRead script certificate t checked.entries) (sym is_table)
    (subst (λ (es : List Entry). AreRead script certificate table es) (sym are_entries) read) in (
      out,
      inr (record {
        table = checked.table;
        entries = checked.entries;
        points = checked.points;
        read = reads;
        checked = is_checked;
        answers = answers;
      }),
      under,
    )
checked_run script certificate plan table entries checked f read on (Err error) told = search rules

pub told_yes : (script certificate plan : Text) (checked : CheckedScript) (f : Form) → IsVerdict script certificate (Ok (Yes checked))
    → (result : Result Said AllocError) → IfOk result (IsPlanTold checked.table plan f) → IfOk result (IsRunTold script certificate plan f)
told_yes script certificate plan checked f (table, entries, read, on) result told =
    checked_run script certificate plan table entries checked f read on result told

-- of a script or a certificate that is not read
pub told_unread : (script certificate plan : Text) (unread : CheckFault) (f : Form) → IsUnread script certificate unread → (result : Result Said AllocError)
    → IfOk result (IsSaid (NamesRefusal unread) f) → IfOk result (IsRunTold script certificate plan f)
told_unread script certificate plan unread f is (Ok said) (l, names, under) =
    (line l, unread_told 1 script certificate plan unread l is names, under_output f l said under)
told_unread script certificate plan unread f is (Err error) told = search rules
