-- Which line answers a script and a certificate, from their bytes. A reader should check that the line names the fault of
-- the script where it has one, else that of the certificate, else the first obligation that is broken, and that it is
-- `yes` where none is, and that a yes says of every run of the script that it is good.
use Rattle.std.specs.Prelude.{◌≡◌, ℕ, List, length, Option, None, Some, option_map}
use Rattle.mg_names.specs.Obligations.{obligation_number}
use Rattle.mg_model.specs.declared.faults.Fault.{Fault}
use Rattle.mg_model.specs.Script.{Script}
use Rattle.mg_model.specs.Entries.{Entry}
use Rattle.mg_model.specs.Obligations.{IsFirstFault}
use Rattle.scriptreader.specs.declared.fault.ScriptFault.{ScriptFault}
use Rattle.scriptreader.specs.FaultNames as script_names
use Rattle.script_table.specs.Words.{words_of}
use Rattle.certificate.specs.declared.fault.CertFault.{CertFault}
use Rattle.certificate.specs.FaultNames as certificate_names
use Rattle.composition.specs.Verdict.{AreRead, HasScriptFault, HasCertificateFault, IsChecked}
use Rattle.composition.specs.declared.verdict.CheckFault.{CheckFault}
use Rattle.composition.specs.declared.verdict.CheckFault.TheVariants as fault
use Rattle.check_lines.specs.Output.{Text, Line, sections, script_fault, certificate_fault, yes, no, no_memory}

pub record IsScriptFault (script : Text) (number : ℕ) (name : Text) : Type 0 where
  pub fault : ScriptFault
  pub has : HasScriptFault script fault
  pub numbered : number ≡ script_names.number_of fault
  pub named : name ≡ script_names.name_of fault

pub record IsCertificateFault (script certificate : Text) (number : ℕ) (name : Text) : Type 0 where
  pub fault : CertFault
  pub has : HasCertificateFault script certificate fault
  pub numbered : number ≡ certificate_names.number_of fault
  pub named : name ≡ certificate_names.name_of fault

pub record IsYes (script certificate : Text) (states count points : ℕ) : Type 0 where
  pub table : Script
  pub entries : List Entry
  pub read : AreRead script certificate table entries
  pub checked : IsChecked table entries points
  pub states_are : states ≡ length table.states
  pub entries_are : count ≡ length entries

pub record IsNo (script certificate : Text) (obligation : ℕ) (entry point : Option ℕ) (step : Option Text) : Type 0 where
  pub table : Script
  pub entries : List Entry
  pub fault : Fault
  pub read : AreRead script certificate table entries
  pub first : IsFirstFault table entries fault
  pub obligation_is : obligation ≡ obligation_number fault.obligation
  pub entry_is : entry ≡ fault.entry
  pub point_is : point ≡ fault.point
  pub step_is : step ≡ option_map (words_of table.lines) fault.step

-- the line is the answer on the bytes of a script and of a certificate; memory may run out
abbrev pub Judges : Text → Text → Line → Type 0
Judges script certificate (script_fault number name) = IsScriptFault script number name
Judges script certificate (certificate_fault number name) = IsCertificateFault script certificate number name
Judges script certificate (yes states count points) = IsYes script certificate states count points
Judges script certificate (no obligation entry point step) = IsNo script certificate obligation entry point step
Judges script certificate no_memory = Unit {0}
Judges script certificate _ = ⊥

-- the line of `check` on an input's two sections, if it has two
abbrev pub IsLineOfSections : Option (Text × Text) → Line → Type 0
IsLineOfSections None l = l ≡ sections
IsLineOfSections (Some (script, certificate)) l = Judges script certificate l

-- the line names a fault, with its step in the words of the script; memory may run out
abbrev pub NamesFault : Script → Fault → Line → Type 0
NamesFault table fault (no obligation entry point step) =
    (obligation ≡ obligation_number fault.obligation) × (entry ≡ fault.entry) × (point ≡ fault.point)
    × (step ≡ option_map (words_of table.lines) fault.step)
NamesFault table fault no_memory = Unit {0}
NamesFault table fault _ = ⊥

-- the line names the fault for which there is no verdict
abbrev pub NamesRefusal : CheckFault → Line → Type 0
NamesRefusal (fault.Script refused) l = l ≡ script_fault (script_names.number_of refused) (script_names.name_of refused)
NamesRefusal (fault.Cert refused) l = l ≡ certificate_fault (certificate_names.number_of refused) (certificate_names.name_of refused)
NamesRefusal fault.NoMemory l = l ≡ no_memory
