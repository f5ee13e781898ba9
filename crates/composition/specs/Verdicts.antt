-- What the checker returns for the bytes of a script and of a certificate. A reader should check that a yes carries the
-- script and the certificate that were read and are checked, that a no carries those that were read with the first obligation
-- that is broken, and that a fault of the certificate is told only where the script has none.
use Rattle.std.specs.Prelude.{◌≡◌, ℕ, List, Result, Ok, Err}
use Rattle.mg_model.specs.Script.{Script}
use Rattle.mg_model.specs.Entries.{Entry}
use Rattle.mg_model.specs.Obligations.{IsFirstFault, NoneBroken}
use Rattle.mg_safety.specs.Headline.{RunsAreGood}
use Rattle.scriptreader.specs.declared.fault.ScriptFault.{ScriptFault}
use Rattle.certificate.specs.declared.fault.CertFault.{CertFault}
use Rattle.typed_values.specs.declared.unread.Unread.{Unread}
use Rattle.typed_values.specs.declared.unread.Unread.TheVariants as unread
use Rattle.composition.specs.Verdict.{AreAccepted, AreRead, HasScriptFault, HasCertificateFault, IsChecked}
use Rattle.composition.specs.declared.verdict.Documents.{Documents}
use Rattle.composition.specs.declared.verdict.Verdict.{Verdict}
use Rattle.composition.specs.declared.verdict.Verdict.TheVariants.{Yes, No}
use Rattle.composition.specs.declared.verdict.CheckFault.{CheckFault}
use Rattle.composition.specs.declared.verdict.CheckFault.TheVariants as fault

-- there is no verdict: of the two documents this one has this fault; memory may run out
abbrev pub IsUnread : List ℕ → List ℕ → CheckFault → Type 0
IsUnread script certificate (fault.Script refused) = HasScriptFault script refused
IsUnread script certificate (fault.Cert refused) = HasCertificateFault script certificate refused
IsUnread script certificate fault.NoMemory = Unit {0}

-- there is no verdict, since the script is not read, or the certificate
abbrev pub of_script : Unread ScriptFault → CheckFault
of_script (unread.Fault refused) = fault.Script refused
of_script unread.NoMemory = fault.NoMemory

abbrev pub of_certificate : Unread CertFault → CheckFault
of_certificate (unread.Fault refused) = fault.Cert refused
of_certificate unread.NoMemory = fault.NoMemory

-- both documents are read
abbrev pub IsReading : List ℕ → List ℕ → Result Documents CheckFault → Type 0
IsReading script certificate (Ok documents) =
    AreRead script certificate documents.script documents.cert × AreAccepted documents.script documents.cert
IsReading script certificate (Err fault) = IsUnread script certificate fault

-- the verdict is that on a script and the entries of a certificate
abbrev pub IsVerdictOn : Script → List Entry → Verdict → Type 0
IsVerdictOn table entries (Yes checked) =
    (checked.table ≡ table) × (checked.entries ≡ entries) × IsChecked checked.table checked.entries checked.points
IsVerdictOn table entries (No refuted) =
    (refuted.table ≡ table) × (refuted.entries ≡ entries) × IsFirstFault refuted.table refuted.entries refuted.fault

-- the verdict is that on the bytes
abbrev pub IsVerdict : List ℕ → List ℕ → Result Verdict CheckFault → Type 0
IsVerdict script certificate (Ok verdict) =
    (table : Script) × (entries : List Entry) × AreRead script certificate table entries × IsVerdictOn table entries verdict
IsVerdict script certificate (Err fault) = IsUnread script certificate fault

-- a yes breaks no obligation, and every run of any number of calls of its script is good
abbrev pub YesIsSafe : Result Verdict CheckFault → Type 0
YesIsSafe (Ok (Yes checked)) = NoneBroken checked.table checked.entries × RunsAreGood checked.table
YesIsSafe (Ok (No refuted)) = Unit {0}
YesIsSafe (Err fault) = Unit {0}
