-- What is found among rows once their names are looked up: for each slot, and for each pair of terminations. No public clause speaks of how it is
-- found: what the rows give stands in the file on components.
use Rattle.std.specs.Prelude.{◌≡◌, ◌<◌, ◌==◌, ◌&&◌, ℕ, Bool, true, false, if◌then◌else◌, List, [], ◌∷◌, find, Option, Some, None, is_some, option_map, option_and_then, Result, Ok, Err}
use Rattle.std.specs.List.{list_all}
use Rattle.mg_model.specs.declared.commands.Termination.{Termination}
use Rattle.mg_model.specs.Script.{Script}
use Rattle.mg_model.specs.Configuration.{is_same}
use Rattle.script_table.specs.Table.{place_of}
use Rattle.certificate.specs.Components.{row_at, cut_at}
use Rattle.certificate.specs.Naming.{pair_named}
use Rattle.certificate.specs.Written.{Text}
use Rattle.certificate.specs.declared.reads.Row.{Row}
use Rattle.typed_values.specs.declared.missing.Missing.{Missing}
use Rattle.typed_values.specs.declared.missing.Missing.TheVariants.{Nothing, Memory}

-- ---- rows by slots

-- what is written for each slot
pub record Slots (A : Type 0) : Type 0 where
  pub first : Option A
  pub second : Option A
  pub third : Option A
  pub fourth : Option A

module _ {A : Type 0} where
  -- what was found first stays; else it is this value, where the value is meant
  abbrev pub first_of : Option A → Bool → A → Option A
  first_of (Some found) is_meant value = Some found
  first_of None is_meant value = if is_meant then Some value else None

  abbrev pub none_found : Slots A
  none_found = record { first = None; second = None; third = None; fourth = None }

  -- the same with one more row, that of this slot
  abbrev pub with_row : Slots A → ℕ → A → Slots A
  with_row found slot value =
      record {
        first = first_of found.first (slot == 0) value;
        second = first_of found.second (slot == 1) value;
        third = first_of found.third (slot == 2) value;
        fourth = first_of found.fourth (slot == 3) value;
      }

  -- the same with some more rows; nothing where a name stands for no slot
  abbrev pub with_rows : (Text → Option ℕ) → Slots A → List (Row A) → Option (Slots A)
  with_rows named found [] = Some found
  with_rows named found (row ∷ rows) = option_and_then (λ slot. with_rows named (with_row found slot row.value) rows) (named row.name)

  -- what was found for a slot, of which there are four
  abbrev pub at_slot : Slots A → ℕ → Option A
  at_slot found slot =
      if slot == 0 then found.first
      else if slot == 1 then found.second
      else if slot == 2 then found.third
      else found.fourth

  -- whether each name of some rows stands for a slot
  abbrev pub are_named : List Text → List (Text × A) → Bool
  are_named names rows = list_all (λ row. is_some (place_of row.0 names)) rows

  -- what was found for each slot is what the rows give it; nothing was found where a name stands for no slot
  abbrev pub FindsSlots : List Text → List (Text × A) → Option (Slots A) → Type 0
  FindsSlots names rows None = are_named names rows ≡ false
  FindsSlots names rows (Some found) = (are_named names rows ≡ true) × ((slot : ℕ) → slot < 4 → at_slot found slot ≡ row_at names slot rows)

-- ---- cuts by pairs

-- what is written for a pair of terminations
pub record PairCut : Type 0 where
  pub source : Termination
  pub sink : Termination
  pub words : List Text

abbrev pub cut_of : List Text → Termination × Termination → PairCut
cut_of words (source, sink) = record { source = source; sink = sink; words = words }

-- a row of the cuts, or nothing where its key names no pair
abbrev pub cut_row : Script → Row (List Text) → Option PairCut
cut_row script row = option_map (cut_of row.value) (pair_named script row.name)

abbrev pub is_cut_of : Termination → Termination → PairCut → Bool
is_cut_of source sink cut = is_same cut.source source && is_same cut.sink sink

-- what was found for a pair
abbrev pub at_pair : List PairCut → Termination → Termination → Option (List Text)
at_pair cuts source sink = option_map (λ cut. cut.words) (find (is_cut_of source sink) cuts)

-- whether each key of the cuts names a pair
abbrev pub are_pairs : Script → List (Text × List Text) → Bool
are_pairs script rows = list_all (λ row. is_some (pair_named script row.0)) rows

-- what was found for each pair is what the rows give it; nothing was found where a key names no pair
abbrev pub FindsPairs : {C : Type 0} → (C → List PairCut) → Script → List (Text × List Text) → Result C Missing → Type 0
FindsPairs cuts_of script rows (Err Memory) = Unit {0}
FindsPairs cuts_of script rows (Err Nothing) = are_pairs script rows ≡ false
FindsPairs cuts_of script rows (Ok found) =
    (are_pairs script rows ≡ true) × ((source sink : Termination) → at_pair (cuts_of found) source sink ≡ cut_at script source sink rows)
