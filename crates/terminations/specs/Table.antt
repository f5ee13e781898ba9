-- What a table of terminations shows: the rows of lines by number, and ephemerals with their identifiers; from them the row of a
-- termination, and which numbers are used. A reader should check that each change speaks of the one row that it names.
use Rattle.std.specs.Prelude.{◌≡◌, ℕ, nat_eq, ◌==◌, Bool, true, false, if◌then◌else◌, IsTrue, List, Option, Some, None, Result, Ok, Err, IfSome}
use Rattle.std.specs.Map.{lookup}
use Rattle.mg_names.specs.declared.codes.Code.{Code}
use Rattle.mg_names.specs.declared.codes.Code.TheVariants.{UnknownTermination, AlreadyInContext}
use Rattle.mg_names.specs.declared.identifiers.ContextId.{ContextId}
use Rattle.mg_names.specs.declared.identifiers.TermId.{TermId}
use Rattle.mg_names.specs.declared.identifiers.TermId.TheVariants.{Line, Eph}
use Rattle.mg_names.specs.declared.modes.Mode.{Mode}
use Rattle.mg_model.specs.declared.rows.Row.{Row}
use Rattle.mg_model.specs.Numbers.{null, last_ephemeral, the_context}
use Rattle.mg_model.specs.Board.{row_with, null_row}
use Rattle.mg_model.specs.Items.{given, is_ephemeral_number}
use Rattle.identifiers.specs.Class.{is_of_class}
use Rattle.identifiers.specs.Stock.{Stock, at, is_used}

pub record Table : Type 0 where
  pub lines : List (ℕ × Row)
  pub ephemerals : Stock Row

-- the row at a number
abbrev pub row_at : List (ℕ × Row) → ℕ → Option Row
row_at rows n = lookup (nat_eq n) rows

-- the row of a termination; nothing where it doesn't exist
unfoldable pub row_of : Table → TermId → Option Row
row_of table (Line l) = row_at table.lines l.0
row_of table (Eph k) = at table.ephemerals k

-- whether a number is used: its ephemeral is there, or was destroyed and this isn't settled
unfoldable pub used_of : Table → ℕ → Bool
used_of table n = is_used table.ephemerals n

-- the numbers that are given at all
abbrev pub class_of : Table → ℕ → Bool
class_of table = is_of_class table.ephemerals.class.first table.ephemerals.class.stride

-- no number is used or free that wasn't so before
pub record SameNumbers (old new : Table) : Type 0 where
  pub used : used_of new ≡ used_of old
  pub class : new.ephemerals.class ≡ old.ephemerals.class

-- ---- how a row changes; a row that isn't there stays so

abbrev pub overwritten : Row → Option Row → Option Row
overwritten row None = None
overwritten row (Some old) = Some row

-- it goes from the null context to another one; from any other it doesn't go
abbrev pub put_in : ContextId → Row → Row
put_in context row = if row.place.0 == null then record row { place = context } else row

abbrev pub put : ContextId → Option Row → Option Row
put context None = None
put context (Some row) = Some (put_in context row)

abbrev pub left : Option Row → Option Row
left None = None
left (Some row) = Some (record row { place = the_context 0 })

-- an ephemeral is no more; a line stays
abbrev pub destroyed : TermId → Option Row → Option Row
destroyed (Line l) row = row
destroyed (Eph k) row = None

abbrev pub with_mode : Mode → Option Row → Option Row
with_mode mode None = None
with_mode mode (Some row) = Some (record row { mode = mode })

-- a line has no Remote
abbrev pub with_remote : TermId → Option ℕ → Option Row → Option Row
with_remote (Line l) remote row = row
with_remote (Eph k) remote None = None
with_remote (Eph k) remote (Some row) = Some (record row { remote = remote })

-- a line goes to the null context, Inactive; an ephemeral is no more
abbrev pub cleared : TermId → Option Row → Option Row
cleared (Line l) None = None
cleared (Line l) (Some row) = Some null_row
cleared (Eph k) row = None

-- ---- the answers

abbrev pub known : Option Row → Result (Unit {0}) Code
known None = Err UnknownTermination
known (Some row) = Ok tt

abbrev pub unless_taken : Option Row → Result (Unit {0}) Code
unless_taken None = Err UnknownTermination
unless_taken (Some row) = if row.place.0 == null then Ok tt else Err AlreadyInContext

abbrev pub known_ephemeral : TermId → Option Row → Result (Unit {0}) Code
known_ephemeral (Line l) row = Err UnknownTermination
known_ephemeral (Eph k) row = known row

-- ---- what is so of every table

abbrev pub NoRemotes : List (ℕ × Row) → Type 0
NoRemotes rows = (n : ℕ) → IfSome (row_at rows n) (λ row. row.remote ≡ None)

-- a line's row has no Remote
abbrev pub LineHasNoRemote : TermId → Row → Type 0
LineHasNoRemote (Line l) row = row.remote ≡ None
LineHasNoRemote (Eph k) row = Unit {0}

pub record IsSound (lines : List (ℕ × Row)) (ephemerals : Stock Row) : Type 0 where
  pub lines_bare : NoRemotes lines
  pub last : ephemerals.class.last ≡ last_ephemeral

-- each number is used
abbrev pub IsUsedUp : Table → Type 0
IsUsedUp table = (n : ℕ) → is_ephemeral_number n → IsTrue (class_of table n) → IsTrue (used_of table n)

-- t is an ephemeral with a number that may be given, and it is the one thing that is new
pub record IsCreated (old new : Table) (t : TermId) : Type 0 where
  pub number : ℕ
  pub is : t ≡ Eph number
  pub fits : is_ephemeral_number number
  pub of_class : IsTrue (class_of old number)
  pub fresh : used_of old number ≡ false
  pub absent : row_of old t ≡ None
  pub rows : row_of new ≡ row_with (row_of old) t (Some null_row)
  pub used : used_of new ≡ given true number (used_of old)
  pub class : new.ephemerals.class ≡ old.ephemerals.class
