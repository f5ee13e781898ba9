-- What unfolds to compute the readers on bytes that are written out; and that what they compute is what the bytes are read as.
use Rattle.std.proofs.Common.{◌≡◌, ℕ, List, Option, Some, None, Ok, true, refl}
use Rattle.std.proofs.lemmas.Str.{IsUtf8-from_is_utf8}
use Rattle.std.specs.Prelude.{⊤, option_and_then, option_map}
use Rattle.std.specs.Str.{chars, is_utf8}
use Rattle.serde_json.proofs.OnLiterals.{serde_json_on_literals}
use Rattle.serde_json.specs.Data.{Data}
use Rattle.serde_json.specs.Read.{read}
use Rattle.toml.proofs.OnLiterals.{toml_on_literals}
use Rattle.toml.specs.Data.{Members}
use Rattle.toml.specs.Parse.{parse_document}
use Rattle.mg_model.proofs.Cases.{none_is_some, the_some}
use Rattle.mg_model.specs.Entries.{Entry}
use Rattle.mg_model.specs.Script.{Script}
use Rattle.certificate.specs.Certificate.{ReadsCertificate, document_read}
use Rattle.digits.specs.Reading.{alternative_of, alternatives_of, map_of, position_at, values}
use Rattle.digits.specs.Symbols.{position_of, symbol_of}
use Rattle.scriptreader.specs.Documents.{events_in, map_in, kinds_of, line_of, lines_of, state_in, document_in}
use Rattle.scriptreader.specs.Texts.{parts_at, item_of, pair_of, with_option, options_from, add_of, modify_of, subtract_of, command_of}
use Rattle.scriptreader.specs.Faults.{has_bad_name, is_loop, state_repeats, has_duplicate, command_known, item_known, state_known, has_unknown, has_bad_map, subtracts_made, makes_and_subtracts, state_fault_of, use_fault_of, fault_of}
use Rattle.scriptreader.specs.Meaning.{add_line_for, modify_line_for, subtract_for, subtract_all_for, command_for, pair_for, transition_for, state_for, item_for, events_list_for, named_map_for, script_in}
use Rattle.scriptreader.specs.Reading.{ReadsScript, tree_read}
use Rattle.typed_values.specs.Names.{is_name}

-- the document that bytes are, which has no signals list and no ephemeral, and whose commands are of lines
unfoldable documents_on_texts : ⊤
unfolding chars is_utf8 toml_on_literals is_name events_in map_in kinds_of line_of lines_of state_in document_in parts_at item_of pair_of with_option options_from
documents_on_texts = tt

-- the map of a text, in which no range stands
unfoldable maps_on_texts : ⊤
unfolding symbol_of position_of values position_at alternative_of alternatives_of map_of
maps_on_texts = tt

-- its faults
unfoldable faults_on_texts : ⊤
unfolding has_bad_name is_loop state_repeats has_duplicate command_known item_known state_known has_unknown has_bad_map subtracts_made makes_and_subtracts
faults_on_texts = tt

-- its table
unfoldable meaning_on_texts : ⊤
unfolding add_line_for modify_line_for subtract_for subtract_all_for command_for pair_for transition_for state_for item_for events_list_for named_map_for script_in
meaning_on_texts = tt

-- the reader of scripts, on such bytes
unfoldable pub scripts_on_texts : ⊤
unfolding documents_on_texts add_of modify_of subtract_of command_of maps_on_texts faults_on_texts state_fault_of use_fault_of fault_of meaning_on_texts tree_read
scripts_on_texts = tt

-- the reader of certificates
unfoldable pub certificates_on_texts : ⊤
unfolding chars is_utf8 serde_json_on_literals
certificates_on_texts = tt

-- ---- scripts

pub script_read : (bytes : List ℕ) (table : Script) → is_utf8 bytes ≡ true → option_and_then tree_read (parse_document bytes) ≡ Some (Ok table)
    → ReadsScript bytes (Ok table)
script_read bytes table encoded = at (parse_document bytes) refl
  where
    at : (tree : Option Members) → parse_document bytes ≡ tree → option_and_then tree_read tree ≡ Some (Ok table) → ReadsScript bytes (Ok table)
    at None is reads = absurd (none_is_some (Ok table) reads)
    at (Some tree) is reads = (tree, (IsUtf8-from_is_utf8 bytes encoded, is), reads)

-- ---- certificates

pub certificate_read : (script : Script) (bytes : List ℕ) (entries : List Entry) → is_utf8 bytes ≡ true
    → option_map (document_read script) (read bytes) ≡ Some (Ok entries) → ReadsCertificate script bytes (Ok entries)
certificate_read script bytes entries encoded = at (read bytes) refl
  where
    at : (document : Option Data) → read bytes ≡ document → option_map (document_read script) document ≡ Some (Ok entries)
        → ReadsCertificate script bytes (Ok entries)
    at None is reads = absurd (none_is_some (Ok entries) reads)
    at (Some document) is reads = (document, (IsUtf8-from_is_utf8 bytes encoded, is), the_some (document_read script document) (Ok entries) reads)
