-- That the names of an entry were looked up. A reader should check that rows are named exactly where each name of the entry stands for what its
-- place asks for, and that what is found then for a slot, or for a pair of terminations, is what the entry gives it.
use Rattle.std.specs.Prelude.{◌≡◌, ◌<◌, ◌&&◌, ℕ, Bool, true, false, is_some, Result, Ok, Err}
use Rattle.std.specs.List.{list_all}
use Rattle.mg_model.specs.declared.commands.Termination.{Termination}
use Rattle.mg_model.specs.Script.{Script}
use Rattle.script_table.specs.Table.{place_of}
use Rattle.certificate.specs.Components.{row_at, cut_at}
use Rattle.certificate.specs.FoundRows.{at_slot, at_pair}
use Rattle.certificate.specs.Naming.{pair_named}
use Rattle.certificate.specs.declared.entry_rows.NamedRows.{NamedRows}
use Rattle.certificate.specs.Written as written
use Rattle.typed_values.specs.declared.missing.Missing.{Missing}
use Rattle.typed_values.specs.declared.missing.Missing.TheVariants.{Nothing, Memory}

-- whether each name of an entry stands for what its place asks for
abbrev pub are_all_named : Script → written.Entry → Bool
are_all_named script entry =
    list_all (λ row. is_some (place_of row.0 script.lines)) entry.lines
    && (list_all (λ row. is_some (place_of row.0 script.contexts)) entry.contexts
    && (list_all (λ row. is_some (place_of row.0 script.ephemerals)) entry.ephemerals
    && list_all (λ row. is_some (pair_named script row.0)) entry.cuts))

-- these are the rows of an entry by what their names stand for in a script
pub record IsNamed (script : Script) (entry : written.Entry) (rows : NamedRows) : Type 0 where
  pub lines : (slot : ℕ) → slot < 4 → at_slot rows.lines slot ≡ row_at script.lines slot entry.lines
  pub contexts : (slot : ℕ) → slot < 4 → at_slot rows.contexts slot ≡ row_at script.contexts slot entry.contexts
  pub ephemerals : (slot : ℕ) → slot < 4 → at_slot rows.ephemerals slot ≡ row_at script.ephemerals slot entry.ephemerals
  pub cuts : (source sink : Termination) → at_pair rows.cuts.items source sink ≡ cut_at script source sink entry.cuts

-- the rows are named, or a name stands for nothing, or memory ran out
abbrev pub NamesRows : Script → written.Entry → Result NamedRows Missing → Type 0
NamesRows script entry (Err Memory) = Unit {0}
NamesRows script entry (Err Nothing) = are_all_named script entry ≡ false
NamesRows script entry (Ok rows) = (are_all_named script entry ≡ true) × IsNamed script entry rows
