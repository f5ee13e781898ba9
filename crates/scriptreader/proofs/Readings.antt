-- From the answer of a tree to that of the bytes.
use Rattle.std.proofs.Common.{◌≡◌, ℕ, List, Bool, true, false, not, refl, Option, Some, None}
use Rattle.std.specs.Prelude.{if◌then◌else◌, is_some, Result, Ok, Err}
use Rattle.toml.specs.Data.{Members}
use Rattle.mg_model.specs.Script.{Script}
use Rattle.scriptreader.specs.declared.fault.ScriptFault.{ScriptFault}
use Rattle.scriptreader.specs.declared.fault.ScriptFault.TheVariants.{NotToml, BadKey, BadName, Duplicate, Unknown, BadMap, NoStart, NoRestart, NoFault, OkWithoutActions, EndWithTransitions, MadeAndSubtracted, TooMany}
use Rattle.scriptreader.specs.Written.{Document}
use Rattle.std.specs.List.{list_any}
use Rattle.scriptreader.specs.Limits.{is_too_large}
use Rattle.scriptreader.specs.Faults.{fault_of, use_fault_of, state_fault_of, has_bad_name, has_duplicate, has_unknown, has_bad_map, names_state, lacks_fault, has_outcome_without_commands, is_end_that_goes_on, makes_and_subtracts}
use Rattle.scriptreader.specs.Meaning.{script_meant}
use Rattle.scriptreader.specs.Documents.{document_in}
use Rattle.typed_values.specs.Text.{IsText}
use Rattle.typed_values.specs.Unread.{OrNoMemory}
use Rattle.typed_values.specs.declared.unread.Unread.{Unread}
use Rattle.typed_values.specs.declared.unread.Unread.TheVariants.{Fault, NoMemory}
use Rattle.scriptreader.specs.Reading.{Answers, ReadsScript, document_read, fault_or_table, tree_read}
use Rattle.scriptreader.proofs.Meanings.{table_found}

-- where the fault is another one, and the rest is not this fault
other : (b : Bool) (fault : ScriptFault) (rest : Option ScriptFault) → (fault ≡ NotToml → ⊥) → (rest ≡ Some NotToml → ⊥) → (if b then Some fault else rest) ≡ Some NotToml → ⊥
other true fault rest differs later e = differs cc
other false fault rest differs later e = later e

none_is_some : None ≡ Some NotToml → ⊥
none_is_some e = absurd cc

state_fault_is_other : (d : Document) → state_fault_of d ≡ Some NotToml → ⊥
unfolding state_fault_of
state_fault_is_other d =
    other (list_any (λ s. lacks_fault s) d.states) NoFault _ (λ p. absurd cc)
    (other (list_any (λ s. has_outcome_without_commands s) d.states) OkWithoutActions _ (λ p. absurd cc)
    (other (list_any (λ s. is_end_that_goes_on s) d.states) EndWithTransitions _ (λ p. absurd cc)
    (other (list_any (λ s. makes_and_subtracts s) d.states) MadeAndSubtracted _ (λ p. absurd cc)
    (other (is_too_large d) TooMany None (λ p. absurd cc) none_is_some))))

use_fault_is_other : (d : Document) → use_fault_of d ≡ Some NotToml → ⊥
unfolding use_fault_of
use_fault_is_other d =
    other (has_unknown d) Unknown _ (λ p. absurd cc)
    (other (has_bad_map d) BadMap _ (λ p. absurd cc)
    (other (not (names_state d d.start)) NoStart _ (λ p. absurd cc)
    (other (not (names_state d d.restart)) NoRestart (state_fault_of d) (λ p. absurd cc) (state_fault_is_other d))))

-- a document never has the fault that its bytes are no TOML
pub is_toml : (d : Document) → fault_of d ≡ Some NotToml → ⊥
unfolding fault_of
is_toml d =
    other (has_bad_name d) BadName _ (λ p. absurd cc)
    (other (has_duplicate d) Duplicate (use_fault_of d) (λ p. absurd cc) (use_fault_is_other d))

pub fault_answers : (fault : ScriptFault) (read : Option (Result Script ScriptFault)) → (fault ≡ NotToml → ⊥) → read ≡ Some (Err fault) → Answers read (Err fault)
fault_answers NotToml read never e = absurd (never refl)
fault_answers BadKey read never e = e
fault_answers BadName read never e = e
fault_answers Duplicate read never e = e
fault_answers Unknown read never e = e
fault_answers BadMap read never e = e
fault_answers NoStart read never e = e
fault_answers NoRestart read never e = e
fault_answers NoFault read never e = e
fault_answers OkWithoutActions read never e = e
fault_answers EndWithTransitions read never e = e
fault_answers MadeAndSubtracted read never e = e
fault_answers TooMany read never e = e

-- what is said of a tree is said of the bytes that are a text of it
of_text : (bytes : List ℕ) (tree : Members) (answer : Result Script ScriptFault) → IsText bytes tree → Answers (tree_read tree) answer → ReadsScript bytes answer
of_text bytes tree (Ok script) text e = (tree, text, e)
of_text bytes tree (Err NotToml) text e = absurd e
of_text bytes tree (Err BadKey) text e = (tree, text, e)
of_text bytes tree (Err BadName) text e = (tree, text, e)
of_text bytes tree (Err Duplicate) text e = (tree, text, e)
of_text bytes tree (Err Unknown) text e = (tree, text, e)
of_text bytes tree (Err BadMap) text e = (tree, text, e)
of_text bytes tree (Err NoStart) text e = (tree, text, e)
of_text bytes tree (Err NoRestart) text e = (tree, text, e)
of_text bytes tree (Err NoFault) text e = (tree, text, e)
of_text bytes tree (Err OkWithoutActions) text e = (tree, text, e)
of_text bytes tree (Err EndWithTransitions) text e = (tree, text, e)
of_text bytes tree (Err MadeAndSubtracted) text e = (tree, text, e)
of_text bytes tree (Err TooMany) text e = (tree, text, e)

pub script_read : (bytes : List ℕ) (tree : Members) (answer : Result Script (Unread ScriptFault)) → IsText bytes tree
    → OrNoMemory (Answers (tree_read tree)) answer → OrNoMemory (ReadsScript bytes) answer
script_read bytes tree (Ok script) text e = of_text bytes tree (Ok script) text e
script_read bytes tree (Err (Fault fault)) text e = of_text bytes tree (Err fault) text e
script_read bytes tree (Err NoMemory) text e = tt

-- a document without a fault has a table, so every tree is read as something
pub answered : (tree : Members) → is_some (tree_read tree) ≡ true
unfolding tree_read
answered tree = of_shape (document_in tree)
  where
    of_table : (table : Option Script) → is_some table ≡ true → is_some (fault_or_table None table) ≡ true
    of_table None e = e
    of_table (Some script) e = refl

    of_fault : (d : Document) (fault : Option ScriptFault) → fault_of d ≡ fault → is_some (fault_or_table fault (script_meant d)) ≡ true
    of_fault d (Some fault) e = refl
    of_fault d None e = of_table (script_meant d) (table_found d e)

    of_shape : (o : Option Document) → is_some (document_read o) ≡ true
    of_shape None = refl
    of_shape (Some d) = of_fault d (fault_of d) refl
