-- A certificate: what a document's entries are, given a script, and its faults in the order of their numbers. A reader
-- should check the limits, and that each fault is looked for in the whole document before the next.
use Rattle.std.specs.Prelude.{◌≡◌, ℕ, zero, suc, ◌==◌, ◌||◌, Bool, true, false, List, length, count_by, nat_lt, if◌then◌else◌, Option, Some, None, Result, Ok, Err}
use Rattle.std.specs.List.{list_any}
use Rattle.std.specs.Str.{IsUtf8}
use Rattle.serde_json.specs.Data.{Data}
use Rattle.serde_json.specs.Read.{read as read_text}
use Rattle.mg_model.specs.Script.{Script}
use Rattle.script_table.specs.Table.{state_named}
use Rattle.typed_values.specs.Shape.{◌>>=◌, each, only_if}
use Rattle.certificate.specs.NamedRows.{are_all_named}
use Rattle.certificate.specs.Components.{component_meant, keys_of}
use Rattle.certificate.specs.Document.{document_meant}
use Rattle.entry_table.specs.Listed.{Listed, choices_of, size_of}
use Rattle.certificate.specs.Written as written
use Rattle.typed_values.specs.declared.missing.Missing.{Missing}
use Rattle.typed_values.specs.declared.missing.Missing.TheVariants.{Nothing, Memory}
use Rattle.typed_values.specs.declared.unread.Unread.{Unread}
use Rattle.typed_values.specs.declared.unread.Unread.TheVariants.{Fault, NoMemory}
use Rattle.certificate.specs.declared.fault.CertFault.{CertFault}
use Rattle.certificate.specs.declared.fault.CertFault.TheVariants.{NotJson, BadKey, Unknown, EmptySet, TooManyEntries, TooManyPoints, OldVersion}

-- the entry that is meant, or nothing where a name or a word is unknown
abbrev pub listed_meant : Script → written.Entry → Option Listed
listed_meant script entry =
    only_if (are_all_named script entry) (state_named entry.state script.states >>= λ state.
    each (component_meant script entry) (keys_of script) >>= λ components.
    Some (record { state = state; lines = length script.lines; components = components }))

-- ---- the later faults

-- a component has no values
abbrev pub has_empty : Listed → Bool
has_empty entry = list_any (λ component. length (choices_of component) == 0) entry.components

abbrev pub entries_for : List Listed → ℕ → ℕ
entries_for entries state = count_by (λ entry. entry.state == state) entries

-- some number below another passes a test
abbrev pub some_below : ℕ → (ℕ → Bool) → Bool
some_below zero p = false
some_below (suc n) p = some_below n p || p n

-- a state of the script has more than 256 entries
abbrev pub has_crowd : Script → List Listed → Bool
has_crowd script entries = some_below (length script.states) (λ state. nat_lt 256 (entries_for entries state))

-- an entry has a product of more than 65,536
abbrev pub is_large : Listed → Bool
is_large entry = nat_lt 65536 (size_of entry.components)

abbrev pub checked : Script → List Listed → Result (List Listed) CertFault
checked script entries =
    if list_any has_empty entries then Err EmptySet
    else if has_crowd script entries then Err TooManyEntries
    else if list_any is_large entries then Err TooManyPoints
    else Ok entries

abbrev pub checked_or : Script → Option (List Listed) → Result (List Listed) CertFault
checked_or script None = Err Unknown
checked_or script (Some entries) = checked script entries

-- that a document is of the version before is the last fault: one that it has besides goes before
abbrev pub unless_old : Bool → Result (List Listed) CertFault → Result (List Listed) CertFault
unless_old true (Ok entries) = Err OldVersion
unless_old true (Err fault) = Err fault
unless_old false answer = answer

abbrev pub resolved_or : Script → Option written.Document → Result (List Listed) CertFault
resolved_or script None = Err BadKey
resolved_or script (Some document) = unless_old document.is_old (checked_or script (each (listed_meant script) document.entries))

-- what a document says
abbrev pub document_read : Script → Data → Result (List Listed) CertFault
document_read script document = resolved_or script (document_meant document)

-- ---- the bytes

-- the bytes are a JSON text of this document
abbrev pub IsText : List ℕ → Data → Type 0
IsText bytes document = IsUtf8 bytes × (read_text bytes ≡ Some document)

-- the answer is that of the document, or says that there is none
abbrev pub ReadsCertificate : Script → List ℕ → Result (List Listed) CertFault → Type 0
ReadsCertificate script bytes (Err NotJson) = (document : Data) → IsText bytes document → ⊥
ReadsCertificate script bytes answer = (document : Data) × IsText bytes document × (document_read script document ≡ answer)

-- what the parsing of the bytes gives, seen by view
abbrev pub Parses : {X : Type 0} → (X → Data) → Result X (Unread CertFault) → List ℕ → Type 0
Parses view (Ok x) bytes = IsText bytes (view x)
Parses view (Err NoMemory) bytes = Unit {0}
Parses view (Err (Fault NotJson)) bytes = (document : Data) → IsText bytes document → ⊥
Parses view (Err (Fault fault)) bytes = ⊥

-- what a function returned, seen by view, is the expected answer; memory may run out
abbrev pub Answers : {X Y : Type 0} → (X → Y) → Result X (Unread CertFault) → Result Y CertFault → Type 0
Answers view (Ok x) expected = expected ≡ Ok (view x)
Answers view (Err (Fault fault)) expected = expected ≡ Err fault
Answers view (Err NoMemory) expected = Unit {0}

-- why a document is not read where a name or a word of it is looked up and stands for nothing
abbrev pub unread_by : Missing → Unread CertFault
unread_by Nothing = Fault Unknown
unread_by Memory = NoMemory
