-- A No that names its fault is a line of the check.
use Rattle.std.proofs.Common.{List, Ok, sym, subst}
use Rattle.mg_model.specs.declared.faults.Fault.{Fault}
use Rattle.mg_model.specs.Script.{Script}
use Rattle.mg_model.specs.Entries.{Entry}
use Rattle.mg_model.specs.Obligations.{IsFirstFault}
use Rattle.check_lines.specs.Output.{Text, Line, usage, sections, too_long, script_fault, certificate_fault, plan_fault, run_fault, yes, no, no_memory}
use Rattle.composition.specs.Verdict.{AreRead, RefutedScript}
use Rattle.composition.specs.Verdicts.{IsVerdict}
use Rattle.composition.specs.declared.verdict.Verdict.TheVariants.{No}
use Rattle.check_lines.specs.VerdictLines.{Judges, NamesFault}

named : (script certificate : Text) (table : Script) (entries : List Entry) (fault : Fault) (line : Line)
    → AreRead script certificate table entries → IsFirstFault table entries fault → NamesFault table fault line → Judges script certificate line
named script certificate table entries fault no_memory read first names = tt
named script certificate table entries fault (no obligation entry point step) read first names = record {
  table = table;
  entries = entries;
  fault = fault;
  read = read;
  first = first;
  obligation_is = names.0;
  entry_is = names.1;
  point_is = names.2;
  step_is = names.3;
}
named script certificate table entries fault usage read first names = absurd names
named script certificate table entries fault sections read first names = absurd names
named script certificate table entries fault too_long read first names = absurd names
named script certificate table entries fault (script_fault number name) read first names = absurd names
named script certificate table entries fault (certificate_fault number name) read first names = absurd names
named script certificate table entries fault (yes states count points) read first names = absurd names
named script certificate table entries fault (plan_fault number name) read first names = absurd names
named script certificate table entries fault (run_fault number name) read first names = absurd names

-- what is said of a No is said of the documents that were read
pub told : (script certificate : Text) (refuted : RefutedScript) (line : Line) → IsVerdict script certificate (Ok (No refuted))
    → NamesFault refuted.table refuted.fault line → Judges script certificate line
told script certificate refuted line (table, entries, read, (is_table, are_entries, first)) names =
    let reads : AreRead script certificate refuted.table refuted.entries =
    subst (λ (t : Script). AreRead script certificate t refuted.entries) (sym is_table)
    (subst (λ (es : List Entry). AreRead script certificate table es) (sym are_entries) read) in
    named script certificate refuted.table refuted.entries refuted.fault line reads first names
