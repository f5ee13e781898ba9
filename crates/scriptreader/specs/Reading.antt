-- What the bytes of a script are read as. A reader should check that the shape comes first, then the lowest fault, and
-- that the table is given only where there is no fault. Want of memory, which may stand in place of any answer, is none of these answers.
use Rattle.std.specs.Prelude.{◌≡◌, ℕ, List, Option, Some, None, option_map, Result, Ok, Err}
use Rattle.toml.specs.Data.{Members}
use Rattle.mg_model.specs.Script.{Script}
use Rattle.typed_values.specs.Text.{IsText}
use Rattle.scriptreader.specs.declared.fault.ScriptFault.{ScriptFault}
use Rattle.scriptreader.specs.declared.fault.ScriptFault.TheVariants.{NotToml, BadKey}
use Rattle.scriptreader.specs.Written.{Document}
use Rattle.scriptreader.specs.Documents.{document_in}
use Rattle.scriptreader.specs.Faults.{fault_of}
use Rattle.scriptreader.specs.Meaning.{script_meant}

-- the fault, or where there is none the table
abbrev pub fault_or_table : Option ScriptFault → Option Script → Option (Result Script ScriptFault)
fault_or_table (Some fault) table = Some (Err fault)
fault_or_table None table = option_map (λ script. Ok script) table

abbrev pub document_read : Option Document → Option (Result Script ScriptFault)
document_read None = Some (Err BadKey)
document_read (Some d) = fault_or_table (fault_of d) (script_meant d)

-- What a tree is read as: what is not of the shape of a document has a bad key, a document has its lowest fault, and one
-- without a fault is its table.
unfoldable pub tree_read : Members → Option (Result Script ScriptFault)
tree_read tree = document_read (document_in tree)

-- the answer is that of the tree
abbrev pub Answers : Option (Result Script ScriptFault) → Result Script ScriptFault → Type 0
Answers read (Err NotToml) = ⊥
Answers read answer = read ≡ Some answer

-- the answer is that of the tree, or says that there is no tree
abbrev pub ReadsScript : List ℕ → Result Script ScriptFault → Type 0
ReadsScript bytes (Err NotToml) = (tree : Members) → IsText bytes tree → ⊥
ReadsScript bytes answer = (tree : Members) × IsText bytes tree × (tree_read tree ≡ Some answer)
