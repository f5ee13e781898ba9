-- What the bytes of a script and of a certificate are: a script with a fault, or a script and a certificate with a fault,
-- or both read; and what a certificate that is checked says, and one that is refuted. A reader should check that a certificate
-- is faulty only beside a script that is read, and that a checked one is of a script as its reader accepts it, breaks no
-- obligation and says of every run of the script that it is good.
use Rattle.std.specs.Prelude.{ℕ, List, Ok, Err}
use Rattle.std.specs.List.{All}
use Rattle.mg_model.specs.Accepted.{HasFewCommands, IsEntryOf, IsScript}
use Rattle.mg_model.specs.Script.{Script}
use Rattle.mg_model.specs.Entries.{Entry, HavePoints}
use Rattle.mg_model.specs.Obligations.{NoneBroken}
use Rattle.mg_model.specs.declared.faults.Fault.{Fault}
use Rattle.mg_safety.specs.Headline.{RunsAreGood}
use Rattle.scriptreader.specs.declared.fault.ScriptFault.{ScriptFault}
use Rattle.scriptreader.specs.Reading.{ReadsScript}
use Rattle.certificate.specs.declared.fault.CertFault.{CertFault}
use Rattle.certificate.specs.Certificate.{ReadsCertificate}

-- the bytes are a script that has this fault
abbrev pub HasScriptFault : List ℕ → ScriptFault → Type 0
HasScriptFault script fault = ReadsScript script (Err fault)

-- the bytes are a script, and the others a certificate for it that has this fault
pub record HasCertificateFault (script certificate : List ℕ) (fault : CertFault) : Type 0 where
  pub table : Script
  pub reads : ReadsScript script (Ok table)
  pub refuses : ReadsCertificate table certificate (Err fault)

-- the bytes are a script with this table, and the others a certificate for it with these entries
pub record AreRead (script certificate : List ℕ) (table : Script) (entries : List Entry) : Type 0 where
  pub reads : ReadsScript script (Ok table)
  pub lists : ReadsCertificate table certificate (Ok entries)

-- the script and the entries are as their readers accept them
abbrev pub AreAccepted : Script → List Entry → Type 0
AreAccepted table entries = IsScript table × HasFewCommands table × All (IsEntryOf table) entries

-- a script and a certificate as their readers accept them, of which no obligation is broken, and the number of its points; and so every run of any number of
-- calls of the script is good
pub record IsChecked (table : Script) (entries : List Entry) (points : ℕ) : Type 0 where
  pub accepted : IsScript table
  pub few_commands : HasFewCommands table
  pub listed : All (IsEntryOf table) entries
  pub none_broken : NoneBroken table entries
  pub safe : RunsAreGood table
  pub counted : HavePoints entries points

-- a script with a certificate that breaks no obligation
pub record CheckedScript : Type 0 where
  pub table : Script
  pub entries : List Entry
  pub points : ℕ

-- a script with a certificate that breaks an obligation, and the first that it breaks
pub record RefutedScript : Type 0 where
  pub table : Script
  pub entries : List Entry
  pub fault : Fault
