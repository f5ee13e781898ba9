-- The law of certificates that are read. An empty function of the same name carries it. A reader should check that the word for
-- what is read is that of the contract of `read_cert`.
use Rattle.std.specs.Prelude.{ℕ, List, Ok}
use Rattle.std.specs.List.{All}
use Rattle.mg_model.specs.Accepted.{IsScript, IsEntryOf}
use Rattle.mg_model.specs.Script.{Script}
use Rattle.certificate.specs.Certificate.{ReadsCertificate}
use Rattle.entry_table.specs.Listed.{Listed}

-- each entry of a certificate that is read for an accepted script lists the link, and each thing of each name that the script declares
abbrev pub AcceptedCertificates : Type 0
AcceptedCertificates =
    (script : Script) → IsScript script → (bytes : List ℕ) (entries : List Listed) → ReadsCertificate script bytes (Ok entries)
    → All (IsEntryOf script) entries
