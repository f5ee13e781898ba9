-- What stands under a line of a kind.
use Rattle.std.proofs.Common.{◌≡◌, ℕ, Bool, true, false, List, length, Option, Some, None, Result, Ok, Err, String, Global, sym, subst, rules}
use Rattle.std.specs.Prelude.{⊤, IfOk, string_bytes}
use Rattle.std.specs.declared.alloc.AllocError.{AllocError}
use Rattle.mg_model.specs.declared.faults.Fault.{Fault}
use Rattle.mg_model.specs.Script.{Script}
use Rattle.mg_model.specs.Entries.{Entry}
use Rattle.program_rim.specs.Statuses.{code_of}
use Rattle.composition.specs.Verdict.{AreRead, CheckedScript, IsChecked}
use Rattle.composition.specs.Verdicts.{IsVerdict}
use Rattle.composition.specs.declared.verdict.Verdict.TheVariants.{Yes}
use Rattle.check_lines.specs.Output.{Text, Line, line_status, usage, sections, too_long, script_fault, certificate_fault, plan_fault, run_fault, yes, no, no_memory}
use Rattle.check_lines.specs.VerdictLines.{IsLineOfSections, IsYes, NamesFault}
use Rattle.check_facts.specs.Saying.{Begins, IsInValue, IsStatus, IsTold, IsUnder, value_text}
use Rattle.check_facts.specs.Worth.{IsYesStatus}
use Rattle.check_facts.specs.declared.form.Form.{Form}
use Rattle.check_facts.specs.declared.said.Said.{Said}

-- a value that is written with a line has it
pub of_value : (l : Line) (code : ℕ) (members : Text) (result : Result (String Global) AllocError)
    → IfOk result (λ text. string_bytes text ≡ value_text l code members) → IfOk result (λ text. IsInValue l code (string_bytes text))
of_value l code members (Ok text) is = (members, is)
of_value l code members (Err error) is = search rules

-- a line that is no yes
abbrev pub IsNoYes : Line → Type 0
IsNoYes (yes states entries points) = ⊥
IsNoYes l = ⊤

-- its status is the line's, whether warnings count or don't
pub same_status : (strict : Bool) (of : Option (Text × Text)) (l : Line) (code : ℕ) → IsNoYes l → code ≡ line_status l → IsStatus strict of l code
same_status false of l code other is = is
same_status true None l code other is = is
same_status true (Some (script, certificate)) (yes states entries points) code other is = absurd other
same_status true (Some (script, certificate)) usage code other is = is
same_status true (Some (script, certificate)) sections code other is = is
same_status true (Some (script, certificate)) too_long code other is = is
same_status true (Some (script, certificate)) (script_fault number name) code other is = is
same_status true (Some (script, certificate)) (certificate_fault number name) code other is = is
same_status true (Some (script, certificate)) (plan_fault number name) code other is = is
same_status true (Some (script, certificate)) (run_fault number name) code other is = is
same_status true (Some (script, certificate)) (no obligation entry point step) code other is = is
same_status true (Some (script, certificate)) no_memory code other is = is

pub told_under : (strict : Bool) (of : Option (Text × Text)) (form : Form) (l : Line) → IsLineOfSections of l → IsNoYes l → (result : Result Said AllocError)
    → IfOk result (IsUnder form l) → IfOk result (IsTold strict of form)
told_under strict of form l is other (Ok said) under =
    record { line = l; is = is; begins = under.0; status = same_status strict of l (code_of said.status) other under.1 }
told_under strict of form l is other (Err error) under = search rules

-- the line that names a fault is no yes
pub names_no_yes : (table : Script) (fault : Fault) (l : Line) → NamesFault table fault l → IsNoYes l
names_no_yes table fault (yes states entries points) names = absurd names
names_no_yes table fault usage names = absurd names
names_no_yes table fault sections names = absurd names
names_no_yes table fault too_long names = absurd names
names_no_yes table fault (script_fault number name) names = absurd names
names_no_yes table fault (certificate_fault number name) names = absurd names
names_no_yes table fault (plan_fault number name) names = absurd names
names_no_yes table fault (run_fault number name) names = absurd names
names_no_yes table fault (no obligation entry point step) names = search rules
names_no_yes table fault no_memory names = search rules

yes_code : (strict : Bool) (script certificate : Text) (states count points : ℕ) (table : Script) (entries : List Entry) (said : Said)
    → AreRead script certificate table entries → IsYesStatus strict table entries said.status
    → IsStatus strict (Some (script, certificate)) (yes states count points) (code_of said.status)
yes_code false script certificate states count points table entries said read is = is
yes_code true script certificate states count points table entries said read is = (table, (entries, (read, is)))

pub told_yes : (strict : Bool) (script certificate : Text) (form : Form) (states count points : ℕ) (table : Script) (entries : List Entry)
    → IsYes script certificate states count points → AreRead script certificate table entries → (result : Result Said AllocError)
    → IfOk result (λ said. Begins form (yes states count points) (code_of said.status) (string_bytes said.text)) → IfOk result (λ said. IsYesStatus strict table entries said.status)
    → IfOk result (IsTold strict (Some (script, certificate)) form)
told_yes strict script certificate form states count points table entries is read (Ok said) begins status = record {
  line = yes states count points;
  is = is;
  begins = begins;
  status = yes_code strict script certificate states count points table entries said read status;
}
told_yes strict script certificate form states count points table entries is read (Err error) begins status = search rules

-- what was read is what a yes is of
pub read_of : (script certificate : Text) (checked : CheckedScript) → IsVerdict script certificate (Ok (Yes checked))
    → AreRead script certificate checked.table checked.entries
read_of script certificate checked (table, entries, read, (is_table, are_entries, is)) =
    subst (λ (t : Script). AreRead script certificate t checked.entries) (sym is_table)
    (subst (λ (es : List Entry). AreRead script certificate table es) (sym are_entries) read)

checked_of : (script certificate : Text) (checked : CheckedScript) → IsVerdict script certificate (Ok (Yes checked))
    → IsChecked checked.table checked.entries checked.points
checked_of script certificate checked (table, entries, read, (is_table, are_entries, is)) = is

pub yes_of : (script certificate : Text) (checked : CheckedScript) (states count points : ℕ) → IsVerdict script certificate (Ok (Yes checked))
    → states ≡ length checked.table.states → count ≡ length checked.entries → points ≡ checked.points → IsYes script certificate states count points
yes_of script certificate checked states count points is are_states are_entries are_points = record {
  table = checked.table;
  entries = checked.entries;
  read = read_of script certificate checked is;
  checked = subst (λ (n : ℕ). IsChecked checked.table checked.entries n) (sym are_points) (checked_of script certificate checked is);
  states_are = are_states;
  entries_are = are_entries;
}
