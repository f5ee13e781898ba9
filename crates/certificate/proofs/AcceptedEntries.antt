-- The entries of a certificate that is read for an accepted script list the link, and each thing of each name that the script declares.
use Rattle.std.proofs.Common.{◌≡◌, ℕ, List, Result, Bool, true, false, length, Option, Some, None, Ok, Err, refl, sym, ap, subst, true≢false}
use Rattle.std.specs.Prelude.{Contains, if◌then◌else◌}
use Rattle.std.specs.List.{All, list_any}
use Rattle.std.specs.Result.{is_ok, result_unwrap_or}
use Rattle.mg_model.specs.Accepted.{IsScript, IsEntryOf, HasOne}
use Rattle.mg_model.specs.Script.{Script}
use Rattle.script_table.specs.Table.{state_named}
use Rattle.certificate.specs.Certificate.{listed_meant, checked_or, resolved_or, unless_old, has_empty, has_crowd, is_large}
use Rattle.mg_model.specs.Entries.{Component}
use Rattle.mg_model.proofs.Cases.{none_is_some, the_some}
use Rattle.certificate.specs.Components.{component_meant, keys_of}
use Rattle.certificate.specs.NamedRows.{are_all_named}
use Rattle.certificate.specs.Document.{document_meant}
use Rattle.certificate.specs.Laws.{AcceptedCertificates}
use Rattle.entry_table.specs.Listed.{Listed}
use Rattle.typed_values.specs.Shape.{each, only_if, ◌>>=◌}
use Rattle.certificate.specs.Written as written
use Rattle.certificate.specs.declared.fault.CertFault.{CertFault}
use Rattle.certificate.specs.declared.fault.CertFault.TheVariants.{EmptySet, TooManyEntries, TooManyPoints}
use Rattle.certificate.specs.declared.key.Key.{Key}
use Rattle.certificate.proofs.Members.{each_read, each_is}
use Rattle.certificate.proofs.DeclaredKeys.{link_key, spot_key, mode_key, events_key, plays_key, context_key, remote_key, cut_key}
use Rattle.certificate.proofs.MeantComponents.{is_of, meant_passes}
use Rattle.certificate.specs.declared.key.Key.TheVariants as key

-- ---- an entry

abbrev listed_as : Script → ℕ → List Component → Listed
listed_as script state components = record { state = state; lines = length script.lines; components = components }

-- what an entry that is meant is made of
record IsMade (script : Script) (known : Bool) (named : Option ℕ) (meant : Option (List Component)) (entry : Listed) : Type 0 where
  state : ℕ
  components : List Component
  given : meant ≡ Some components
  is : listed_as script state components ≡ entry

made : (script : Script) (known : Bool) (named : Option ℕ) (meant : Option (List Component)) (entry : Listed)
    → only_if known (named >>= λ state. meant >>= λ components. Some (listed_as script state components)) ≡ Some entry
    → IsMade script known named meant entry
made script false named meant entry e = absurd (none_is_some entry e)
made script true None meant entry e = absurd (none_is_some entry e)
made script true (Some state) None entry e = absurd (none_is_some entry e)
made script true (Some state) (Some components) entry e =
    record { state = state; components = components; given = refl; is = the_some (listed_as script state components) entry e }

module _ (script : Script) (accepted : IsScript script) (written_entry : written.Entry) (state : ℕ) (components : List Component)
    (given : each (component_meant script written_entry) (keys_of script) ≡ Some components) where
  abbrev entry : Listed
  entry = listed_as script state components

  listed : (k : Key) → Contains (keys_of script) k → HasOne entry (is_of k)
  listed k among =
      let found = each_read (component_meant script written_entry) (keys_of script) components given k among in
      (found.0, found.1, meant_passes script written_entry k found.0 found.2)

  has_all : IsEntryOf script entry
  has_all = record {
    lines = refl;
    link = listed key.Link (link_key script accepted);
    spot = λ t slot. listed (key.Spot t) (spot_key script accepted t slot);
    mode = λ t slot. listed (key.Mode t) (mode_key script accepted t slot);
    event = λ i below. listed (key.Events i) (events_key script accepted i below);
    play = λ i below. listed (key.Plays i) (plays_key script accepted i below);
    context = λ j below. listed (key.Context j) (context_key script accepted j below);
    remote = λ k below. listed (key.Remote k) (remote_key script accepted k below);
    cut = λ t u source sink differ. listed (key.Cut t u) (cut_key script accepted t u source sink differ);
  }

module _ (script : Script) (accepted : IsScript script) where
  entry_of : (written_entry : written.Entry) (entry : Listed) → listed_meant script written_entry ≡ Some entry → IsEntryOf script entry
  entry_of written_entry entry e =
      let m = made script (are_all_named script written_entry) (state_named written_entry.state script.states)
      (each (component_meant script written_entry) (keys_of script)) entry e in
      subst (IsEntryOf script) m.is (has_all script accepted written_entry m.state m.components m.given)

  -- ---- a document

  passed : (empty crowd large : Bool) (entries out : List Listed)
      → (if empty then Err EmptySet else if crowd then Err TooManyEntries else if large then Err TooManyPoints else Ok entries) ≡ Ok out
      → entries ≡ out
  passed true crowd large entries out e = absurd (true≢false (sym (ap is_ok e)))
  passed false true large entries out e = absurd (true≢false (sym (ap is_ok e)))
  passed false false true entries out e = absurd (true≢false (sym (ap is_ok e)))
  passed false false false entries out e = ap (λ r. result_unwrap_or r entries) e

  checked_entries : (meant : Option (List Listed)) (out : List Listed) → checked_or script meant ≡ Ok out → meant ≡ Some out
  checked_entries None out e = absurd (true≢false (sym (ap is_ok e)))
  checked_entries (Some entries) out e =
      ap (λ l. Some l) (passed (list_any has_empty entries) (has_crowd script entries) (list_any is_large entries) entries out e)

  -- a document of the version before has no entries
  not_old : (is_old : Bool) (answer : Result (List Listed) CertFault) (out : List Listed) → unless_old is_old answer ≡ Ok out → answer ≡ Ok out
  not_old true (Ok entries) out e = absurd (true≢false (sym (ap is_ok e)))
  not_old true (Err fault) out e = absurd (true≢false (sym (ap is_ok e)))
  not_old false answer out e = e

  resolved_entries : (meant : Option written.Document) (out : List Listed) → resolved_or script meant ≡ Ok out → All (IsEntryOf script) out
  resolved_entries None out e = absurd (true≢false (sym (ap is_ok e)))
  resolved_entries (Some document) out e =
      each_is (listed_meant script) (IsEntryOf script) entry_of document.entries out (checked_entries (each (listed_meant script) document.entries) out
      (not_old document.is_old (checked_or script (each (listed_meant script) document.entries)) out e))

pub accepted_entries : AcceptedCertificates
accepted_entries script accepted bytes entries read = resolved_entries script accepted (document_meant read.0) entries read.2
