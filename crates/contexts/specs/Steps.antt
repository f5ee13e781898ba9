-- What a step of a command does to the board.
use Rattle.std.specs.Prelude.{◌≡◌, ℕ, false, true, IsTrue, ◌⊎◌, Option, Some, None, List, []}
use Rattle.std.specs.List.{list_any}
use Rattle.mg_names.specs.declared.identifiers.TermId.{TermId}
use Rattle.mg_names.specs.declared.identifiers.TermId.TheVariants.{Line, Eph}
use Rattle.mg_model.specs.declared.items.Settings.{Settings}
use Rattle.mg_model.specs.declared.items.Added.{Added}
use Rattle.mg_model.specs.declared.items.Added.TheVariants as added
use Rattle.mg_model.specs.declared.items.Item.{Item}
use Rattle.mg_model.specs.declared.items.Item.TheVariants as item
use Rattle.mg_model.specs.declared.rows.Row.{Row}
use Rattle.mg_model.specs.Board.{Board, ContextExists, exists, place_of, same_term}
use Rattle.mg_model.specs.Numbers.{null, choose, the_line}
use Rattle.mg_model.specs.Items.{Done, Lists, is_ephemeral_number, with_ephemeral, given, NoContextLeft, NoEphemeralLeft, EphemeralsUsedUp, placed}
use Rattle.terminations.specs.Rows.{fits}
use Rattle.contexts.specs.BoardValue.{stands_in}

-- a new ephemeral stands in a context, and its number was not given
pub record IsEntered (old new : Board) (context : ℕ) (settings : Settings) (number : ℕ) : Type 0 where
  pub fits : is_ephemeral_number number
  pub fresh : old.used_ephemeral number ≡ false
  pub of_class : IsTrue (old.class number)
  pub board : new ≡ record (with_ephemeral old number context settings) { used_ephemeral = given true number old.used_ephemeral }

-- a context doesn't exist; another one may be named
abbrev pub IsUnknown : Board → ℕ → Type 0
IsUnknown b c = ContextExists b c → ⊥

abbrev pub IsUnknownBut : Board → ℕ → ℕ → Type 0
IsUnknownBut b c but = (c ≡ but → ⊥) × (ContextExists b c → ⊥)

abbrev pub NoneLeftFor : Board → ℕ → Added → Type 0
NoneLeftFor b c added = ((c ≡ choose) × NoContextLeft b) ⊎ EphemeralsUsedUp b added

-- the row of the termination that a command names, of the first one where it names two
abbrev pub row_of_first : Board → Item → Option Row
row_of_first b (item.Add context (added.Line l) settings) = b.row (Line l)
row_of_first b (item.Add context added.NewEphemeral settings) = None
row_of_first b (item.Modify context t settings) = b.row t
row_of_first b (item.Move context t settings) = b.row t
row_of_first b (item.Subtract context t) = b.row t
row_of_first b (item.SubtractAll context) = None
row_of_first b (item.SetTopology context t u topology) = b.row t

-- the row of the second one
abbrev pub row_of_second : Board → Item → Option Row
row_of_second b (item.SetTopology context t u topology) = b.row u
row_of_second b what = None

-- what a command tells that takes nothing out of its context
abbrev pub created : Option ℕ → Option ℕ → Done
created context ephemeral = record { context = context; ephemeral = ephemeral; lines = []; ephemerals = [] }

-- the board with the number of a context used, as that of each context that is there is already
abbrev pub entered : Board → ℕ → Board
entered b c = record b { used_context = given true c b.used_context }

-- what is added stands in the null context, or can be created
abbrev pub CanBeAdded : Board → Added → Settings → Type 0
CanBeAdded b (added.Line l) settings = (exists b (Line l) ≡ true) × (place_of b (Line l) ≡ null) × (fits (Line l) settings.remote ≡ true)
CanBeAdded b added.NewEphemeral settings = NoEphemeralLeft b → ⊥

abbrev pub IsAdded : Board → Board → ℕ → Added → Settings → Option ℕ → Type 0
IsAdded old new c (added.Line l) settings number = (number ≡ None) × (new ≡ placed old (Line l) c settings)
IsAdded old new c added.NewEphemeral settings None = ⊥
IsAdded old new c added.NewEphemeral settings (Some number) = IsEntered old new c settings number

-- what a command tells that takes terminations out of their context and creates nothing
pub record IsTakenOut (group : List TermId) (done : Done) : Type 0 where
  pub context : done.context ≡ None
  pub ephemeral : done.ephemeral ≡ None
  pub lines : Lists (λ n. list_any (same_term (Line (the_line n))) group) done.lines
  pub ephemerals : Lists (λ n. list_any (same_term (Eph n)) group) done.ephemerals

-- what a command tells that takes all terminations out of a context
pub record IsEmptied (b : Board) (c : ℕ) (done : Done) : Type 0 where
  pub context : done.context ≡ None
  pub ephemeral : done.ephemeral ≡ None
  pub lines : Lists (λ n. stands_in b.row c (Line (the_line n))) done.lines
  pub ephemerals : Lists (λ n. stands_in b.row c (Eph n)) done.ephemerals
