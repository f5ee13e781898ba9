-- Bytes that are read as a table and as entries are read as nothing else, and have no fault.
use Rattle.std.proofs.Common.{◌≡◌, ◌∙◌, ℕ, Bool, true, false, List, Some, Result, Ok, Err, sym, ap, subst, true≢false}
use Rattle.mg_model.proofs.Cases.{the_some}
use Rattle.mg_model.specs.Entries.{Entry}
use Rattle.mg_model.specs.Script.{Script}
use Rattle.certificate.specs.Certificate.{ReadsCertificate, IsText, document_read}
use Rattle.certificate.specs.declared.fault.CertFault.{CertFault}
use Rattle.certificate.specs.declared.fault.CertFault.TheVariants as certificates
use Rattle.composition.specs.Verdict.{AreRead, HasCertificateFault, HasScriptFault}
use Rattle.scriptreader.specs.declared.fault.ScriptFault.{ScriptFault}
use Rattle.scriptreader.specs.declared.fault.ScriptFault.TheVariants as scripts
use Rattle.scriptreader.specs.Reading.{ReadsScript, tree_read}
use Rattle.serde_json.specs.Data.{Data}
use Rattle.toml.specs.Data.{Members}
use Rattle.typed_values.specs.Text as toml

-- what was read, and whether anything was
abbrev ok_of : {X F : Type 0} → X → Result X F → X
ok_of x (Ok y) = y
ok_of x (Err fault) = x

abbrev is_ok : {X F : Type 0} → Result X F → Bool
is_ok (Ok x) = true
is_ok (Err fault) = false

-- ---- scripts

module _ (bytes : List ℕ) (table : Script) (reads : ReadsScript bytes (Ok table)) where
  one_tree : (tree : Members) → toml.IsText bytes tree → reads.0 ≡ tree
  one_tree tree text = the_some reads.0 tree (sym reads.1.1 ∙ text.1)

  pub one_table : (other : Script) → ReadsScript bytes (Ok other) → table ≡ other
  one_table other again =
      let same = sym reads.2 ∙ ap tree_read (one_tree again.0 again.1) ∙ again.2 in
      ap (ok_of table) (the_some {A = Result Script ScriptFault} (Ok table) (Ok other) same)

  not_refused : (fault : ScriptFault) → (tree : Members) × toml.IsText bytes tree × (tree_read tree ≡ Some (Err fault)) → ⊥
  not_refused fault again =
      let same = sym reads.2 ∙ ap tree_read (one_tree again.0 again.1) ∙ again.2 in
      true≢false (ap is_ok (the_some {A = Result Script ScriptFault} (Ok table) (Err fault) same))

  pub no_script_fault : (fault : ScriptFault) → HasScriptFault bytes fault → ⊥
  no_script_fault scripts.NotToml has = has reads.0 reads.1
  no_script_fault scripts.BadKey has = not_refused scripts.BadKey has
  no_script_fault scripts.BadName has = not_refused scripts.BadName has
  no_script_fault scripts.Duplicate has = not_refused scripts.Duplicate has
  no_script_fault scripts.Unknown has = not_refused scripts.Unknown has
  no_script_fault scripts.BadMap has = not_refused scripts.BadMap has
  no_script_fault scripts.NoStart has = not_refused scripts.NoStart has
  no_script_fault scripts.NoRestart has = not_refused scripts.NoRestart has
  no_script_fault scripts.NoFault has = not_refused scripts.NoFault has
  no_script_fault scripts.OkWithoutActions has = not_refused scripts.OkWithoutActions has
  no_script_fault scripts.EndWithTransitions has = not_refused scripts.EndWithTransitions has
  no_script_fault scripts.MadeAndSubtracted has = not_refused scripts.MadeAndSubtracted has
  no_script_fault scripts.TooMany has = not_refused scripts.TooMany has

-- ---- certificates

module _ (table : Script) (bytes : List ℕ) (entries : List Entry) (lists : ReadsCertificate table bytes (Ok entries)) where
  one_document : (document : Data) → IsText bytes document → lists.0 ≡ document
  one_document document text = the_some lists.0 document (sym lists.1.1 ∙ text.1)

  one_list : (other : List Entry) → ReadsCertificate table bytes (Ok other) → entries ≡ other
  one_list other again =
      ap (ok_of entries) (sym lists.2 ∙ ap (document_read table) (one_document again.0 again.1) ∙ again.2)

  not_faulty : (fault : CertFault) → (document : Data) × IsText bytes document × (document_read table document ≡ Err fault) → ⊥
  not_faulty fault again =
      true≢false (ap is_ok (sym lists.2 ∙ ap (document_read table) (one_document again.0 again.1) ∙ again.2))

  no_fault : (fault : CertFault) → ReadsCertificate table bytes (Err fault) → ⊥
  no_fault certificates.NotJson reads = reads lists.0 lists.1
  no_fault certificates.BadKey reads = not_faulty certificates.BadKey reads
  no_fault certificates.Unknown reads = not_faulty certificates.Unknown reads
  no_fault certificates.EmptySet reads = not_faulty certificates.EmptySet reads
  no_fault certificates.TooManyEntries reads = not_faulty certificates.TooManyEntries reads
  no_fault certificates.TooManyPoints reads = not_faulty certificates.TooManyPoints reads
  no_fault certificates.OldVersion reads = not_faulty certificates.OldVersion reads

-- ---- both

module _ (script certificate : List ℕ) (table : Script) (entries : List Entry) (read : AreRead script certificate table entries) where
  pub one_reading : (other : Script) (more : List Entry) → AreRead script certificate other more → (table ≡ other) × (entries ≡ more)
  one_reading other more again =
      let same = one_table script table read.reads other again.reads in
      let listed = subst (λ (x : Script). ReadsCertificate x certificate (Ok more)) (sym same) again.lists in
      (same, one_list table certificate entries read.lists more listed)

  pub no_certificate_fault : (fault : CertFault) → HasCertificateFault script certificate fault → ⊥
  no_certificate_fault fault has =
      let same = one_table script table read.reads has.table has.reads in
      no_fault table certificate entries read.lists fault
      (subst (λ (x : Script). ReadsCertificate x certificate (Err fault)) (sym same) has.refuses)
