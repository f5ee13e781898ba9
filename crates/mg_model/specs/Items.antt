-- What each command does to the connection model: the code that refuses it, or the board after it and its result
-- (H.248.1 section 7.2 on the commands, 7.1.18 on Topology). Where a rule is this profile's own it says so. A reader
-- should check each command's places of the codes, that the codes go in the order 411, 430, 433, 435, 510, and that
-- what a command doesn't name stays as it was.
use Rattle.std.specs.Prelude.{◌≡◌, ℕ, ◌<◌, ◌≤◌, ◌==◌, Bool, true, false, not, ◌&&◌, ◌||◌, IsTrue, if◌then◌else◌, List, [], ◌∷◌, Contains, Option, Some, None, unwrap_or, ◌⊎◌, ◌↔◌}
use Rattle.mg_names.specs.declared.codes.Code.{Code}
use Rattle.mg_names.specs.declared.codes.Code.TheVariants.{UnknownContext, UnknownTermination, AlreadyInContext, NotInContext, InternalFailure, InsufficientResources}
use Rattle.mg_names.specs.declared.identifiers.ContextId.{ContextId}
use Rattle.mg_names.specs.declared.identifiers.TermId.{TermId}
use Rattle.mg_names.specs.declared.identifiers.TermId.TheVariants.{Line, Eph}
use Rattle.mg_names.specs.declared.modes.Mode.{Mode}
use Rattle.mg_names.specs.declared.modes.Mode.TheVariants.{Inactive}
use Rattle.mg_names.specs.declared.topologies.Topology.{Topology}
use Rattle.mg_names.specs.declared.topologies.Topology.TheVariants.{Isolate, Oneway, Bothway}
use Rattle.mg_model.specs.declared.items.Added.{Added}
use Rattle.mg_model.specs.declared.items.Added.TheVariants as added
use Rattle.mg_model.specs.declared.items.Item.{Item}
use Rattle.mg_model.specs.declared.items.Item.TheVariants.{Add, Modify, Move, Subtract, SubtractAll, SetTopology}
use Rattle.mg_model.specs.declared.items.RemoteSetting.{RemoteSetting}
use Rattle.mg_model.specs.declared.items.RemoteSetting.TheVariants.{Nothing, Ephemeral}
use Rattle.mg_model.specs.declared.items.Settings.{Settings}
use Rattle.mg_model.specs.declared.rows.Row.{Row}
use Rattle.mg_model.specs.Board.{Board, row_with, null_row, same_term, exists, place_of, mode_of, remote_of, ContextExists}
use Rattle.mg_model.specs.Numbers.{null, choose, last_ephemeral, the_context, the_line}

-- ---- when a code applies

-- the context doesn't exist; Add may also name CHOOSE, and Modify the null context
abbrev pub LacksContext : Board → Item → Type 0
LacksContext b (Add context what settings) = (context.0 ≡ choose → ⊥) × (ContextExists b context.0 → ⊥)
LacksContext b (Modify context t settings) = (context.0 ≡ null → ⊥) × (ContextExists b context.0 → ⊥)
LacksContext b (Move context t settings) = ContextExists b context.0 → ⊥
LacksContext b (Subtract context t) = ContextExists b context.0 → ⊥
LacksContext b (SubtractAll context) = ContextExists b context.0 → ⊥
LacksContext b (SetTopology context t u topology) = ContextExists b context.0 → ⊥

-- a Remote that can't be set: any on a line, and one that names an ephemeral that doesn't exist (this profile's own)
abbrev pub names_nothing : Board → Option RemoteSetting → Bool
names_nothing b None = false
names_nothing b (Some Nothing) = false
names_nothing b (Some (Ephemeral k)) = not (exists b (Eph k))

abbrev pub remote_refused : Board → TermId → Option RemoteSetting → Bool
remote_refused b (Line l) None = false
remote_refused b (Line l) (Some remote) = true
remote_refused b (Eph k) remote = names_nothing b remote

-- the command's termination, the second one of a Topology descriptor, or the Remote is unknown
abbrev pub lacks_termination : Board → Item → Bool
lacks_termination b (Add context (added.Line l) settings) = not (exists b (Line l)) || remote_refused b (Line l) settings.remote
lacks_termination b (Add context added.NewEphemeral settings) = names_nothing b settings.remote
lacks_termination b (Modify context t settings) = not (exists b t) || remote_refused b t settings.remote
lacks_termination b (Move context t settings) = not (exists b t) || remote_refused b t settings.remote
lacks_termination b (Subtract context t) = not (exists b t)
lacks_termination b (SubtractAll context) = false
lacks_termination b (SetTopology context t u topology) = not (exists b t) || not (exists b u)

-- a line that is added stands in a context already
abbrev pub is_taken : Board → Item → Bool
is_taken b (Add context (added.Line l) settings) = not (place_of b (Line l) == null)
is_taken b item = false

-- the termination isn't where the command has to find it: in the context; for Move in another one, and not in the null
-- context; for Topology both, and they are different (this profile's own)
abbrev pub is_misplaced : Board → Item → Bool
is_misplaced b (Add context what settings) = false
is_misplaced b (Modify context t settings) = not (place_of b t == context.0)
is_misplaced b (Move context t settings) = (place_of b t == null) || (place_of b t == context.0)
is_misplaced b (Subtract context t) = not (place_of b t == context.0)
is_misplaced b (SubtractAll context) = false
is_misplaced b (SetTopology context t u topology) =
    not (place_of b t == context.0) || (not (place_of b u == context.0) || same_term t u)

-- the numbers that a context and an ephemeral may have
abbrev pub is_context_number : ℕ → Type 0
is_context_number n = (0 < n) × (n < choose)

abbrev pub is_ephemeral_number : ℕ → Type 0
is_ephemeral_number n = (0 < n) × (n ≤ last_ephemeral)

-- no number is left for what the command creates (this profile's own)
abbrev pub NoContextLeft : Board → Type 0
NoContextLeft b = (n : ℕ) → is_context_number n → IsTrue (b.class n) → IsTrue (b.used_context n)

abbrev pub NoEphemeralLeft : Board → Type 0
NoEphemeralLeft b = (n : ℕ) → is_ephemeral_number n → IsTrue (b.class n) → IsTrue (b.used_ephemeral n)

abbrev pub EphemeralsUsedUp : Board → Added → Type 0
EphemeralsUsedUp b (added.Line l) = ⊥
EphemeralsUsedUp b added.NewEphemeral = NoEphemeralLeft b

abbrev pub IsUsedUp : Board → Item → Type 0
IsUsedUp b (Add context what settings) = ((context.0 ≡ choose) × NoContextLeft b) ⊎ EphemeralsUsedUp b what
IsUsedUp b item = ⊥

-- the condition of a code; 500 has none here
abbrev pub Applies : Board → Item → Code → Type 0
Applies b item UnknownContext = LacksContext b item
Applies b item UnknownTermination = IsTrue (lacks_termination b item)
Applies b item AlreadyInContext = IsTrue (is_taken b item)
Applies b item NotInContext = IsTrue (is_misplaced b item)
Applies b item InternalFailure = ⊥
Applies b item InsufficientResources = IsUsedUp b item

-- the order of the codes (this profile's own)
abbrev pub rank : Code → ℕ
rank UnknownContext = 0
rank UnknownTermination = 1
rank AlreadyInContext = 2
rank NotInContext = 3
rank InternalFailure = 4
rank InsufficientResources = 5

-- the command is refused with the first code that applies; the board stays
pub record IsRefused (b : Board) (item : Item) (code : Code) : Type 0 where
  pub applies : Applies b item code
  pub first : (earlier : Code) → rank earlier < rank code → Applies b item earlier → ⊥

abbrev pub IsLegal : Board → Item → Type 0
IsLegal b item = (code : Code) → Applies b item code → ⊥

-- ---- what a command does

-- the numbers that the gateway chooses for what a command creates
pub record Chosen : Type 0 where
  pub context : ℕ
  pub ephemeral : ℕ

-- a command that names CHOOSE
abbrev pub creates_context : Item → Bool
creates_context (Add context what settings) = context.0 == choose
creates_context item = false

abbrev pub creates_ephemeral : Item → Bool
creates_ephemeral (Add context added.NewEphemeral settings) = true
creates_ephemeral item = false

-- what is chosen may be given by the present request
pub record IsFresh (b : Board) (item : Item) (chosen : Chosen) : Type 0 where
  pub context : IsTrue (creates_context item) → is_context_number chosen.context × (b.used_context chosen.context ≡ false) × IsTrue (b.class chosen.context)
  pub ephemeral : IsTrue (creates_ephemeral item) → is_ephemeral_number chosen.ephemeral × (b.used_ephemeral chosen.ephemeral ≡ false) × IsTrue (b.class chosen.ephemeral)

abbrev pub remote_set : Option RemoteSetting → Option ℕ → Option ℕ
remote_set None was = was
remote_set (Some Nothing) was = None
remote_set (Some (Ephemeral k)) was = Some k

-- a row with a place, and what a command sets; what it leaves out stays
abbrev pub row_at : ℕ → Settings → Mode → Option ℕ → Row
row_at c settings mode remote =
    record { place = the_context c; mode = unwrap_or settings.mode mode; remote = remote_set settings.remote remote }

abbrev pub with_row : Board → TermId → Option Row → Board
with_row b t row = record b { row = row_with b.row t row }

-- a termination stands in a context, with what is set on it
abbrev pub placed : Board → TermId → ℕ → Settings → Board
placed b t c settings = with_row b t (Some (row_at c settings (mode_of b t) (remote_of b t)))

-- what was set for the pairs of a termination is forgotten when it leaves its context
abbrev pub without_cuts : (TermId → Bool) → (TermId → TermId → Bool) → TermId → TermId → Bool
without_cuts leaves cut t u = if leaves t || leaves u then false else cut t u

-- the row after a Subtract: a line stands in the null context, Inactive (this profile's own); an ephemeral is no more
abbrev pub subtracted : TermId → Option Row
subtracted (Line l) = Some null_row
subtracted (Eph k) = None

abbrev pub without : Board → (TermId → Bool) → Board
without b leaves = record b {
  row = λ t. if leaves t then subtracted t else b.row t;
  cut = without_cuts leaves b.cut;
}

abbrev pub with_cut : (TermId → TermId → Bool) → TermId → TermId → Bool → TermId → TermId → Bool
with_cut cut t u value = λ x y. if same_term x t && same_term y u then value else cut x y

abbrev pub given : Bool → ℕ → (ℕ → Bool) → ℕ → Bool
given creates number was n = (creates && n == number) || was n

-- the context that an Add names, or the new one
abbrev pub target : ContextId → Chosen → ℕ
target context chosen = if context.0 == choose then chosen.context else context.0

-- a new ephemeral: nothing was set for its pairs, it is Inactive and has no Remote but for what the command sets
abbrev pub with_ephemeral : Board → ℕ → ℕ → Settings → Board
with_ephemeral b k c settings =
    with_row (record b { cut = without_cuts (same_term (Eph k)) b.cut }) (Eph k) (Some (row_at c settings Inactive None))

abbrev pub with_added : Board → Added → Chosen → ℕ → Settings → Board
with_added b (added.Line l) chosen c settings = placed b (Line l) c settings
with_added b added.NewEphemeral chosen c settings = with_ephemeral b chosen.ephemeral c settings

-- who receives after a Topology descriptor (H.248.1 section 7.1.18): `isolate`, neither; `oneway`, the second of the triple from the
-- first and not the other way; `bothway`, each from the other
abbrev pub second_receives : Topology → Bool
second_receives Isolate = false
second_receives Oneway = true
second_receives Bothway = true

abbrev pub first_receives : Topology → Bool
first_receives Isolate = false
first_receives Oneway = false
first_receives Bothway = true

-- what was set for a pair is replaced: media is cut where the one is not to receive from the other
abbrev pub with_topology : (TermId → TermId → Bool) → TermId → TermId → Topology → TermId → TermId → Bool
with_topology cut t u topology =
    with_cut (with_cut cut t u (not (second_receives topology))) u t (not (first_receives topology))

-- the terminations that a command takes out of their context for good
abbrev pub subtracts : Board → Item → TermId → Bool
subtracts b (Subtract context t) u = same_term u t
subtracts b (SubtractAll context) u = place_of b u == context.0
subtracts b item u = false

-- rows and cuts after a command
abbrev pub rearranged : Board → Item → Chosen → Board
rearranged b (Add context what settings) chosen = with_added b what chosen (target context chosen) settings
rearranged b (Modify context t settings) chosen = placed b t context.0 settings
rearranged b (Move context t settings) chosen = placed (record b { cut = without_cuts (same_term t) b.cut }) t context.0 settings
rearranged b (Subtract context t) chosen = without b (λ u. same_term u t)
rearranged b (SubtractAll context) chosen = without b (λ u. place_of b u == context.0)
rearranged b (SetTopology context t u topology) chosen = record b { cut = with_topology b.cut t u topology }

-- the board after a command that is legal
abbrev pub effect : Board → Item → Chosen → Board
effect b item chosen = record (rearranged b item chosen) {
  used_context = given (creates_context item) chosen.context b.used_context;
  used_ephemeral = given (creates_ephemeral item) chosen.ephemeral b.used_ephemeral;
}

-- ---- the result

-- what a command tells of itself: the context and the ephemeral that it created, the lines that went to the null context
-- and the ephemerals that were destroyed, in rising number
pub record Done : Type 0 where
  pub context : Option ℕ
  pub ephemeral : Option ℕ
  pub lines : List ℕ
  pub ephemerals : List ℕ

abbrev pub IsRising : List ℕ → Type 0
IsRising [] = Unit {0}
IsRising (x ∷ xs) = ((y : ℕ) → Contains xs y → x < y) × IsRising xs

-- the numbers that pass a test, in rising order
pub record Lists (test : ℕ → Bool) (numbers : List ℕ) : Type 0 where
  pub rising : IsRising numbers
  pub exactly : (n : ℕ) → Contains numbers n ↔ IsTrue (test n)

abbrev pub only_if : Bool → ℕ → Option ℕ
only_if test n = if test then Some n else None

pub record IsResult (b : Board) (item : Item) (chosen : Chosen) (done : Done) : Type 0 where
  pub context : done.context ≡ only_if (creates_context item) chosen.context
  pub ephemeral : done.ephemeral ≡ only_if (creates_ephemeral item) chosen.ephemeral
  pub lines : Lists (λ n. subtracts b item (Line (the_line n)) && exists b (Line (the_line n))) done.lines
  pub ephemerals : Lists (λ n. subtracts b item (Eph n) && exists b (Eph n)) done.ephemerals

-- the command is executed: some fresh numbers were chosen, and the board and the result are those of the command
pub record IsExecuted (b : Board) (item : Item) (after : Board) (done : Done) : Type 0 where
  pub chosen : Chosen
  pub fresh : IsFresh b item chosen
  pub legal : IsLegal b item
  pub effect_is : after ≡ effect b item chosen
  pub result : IsResult b item chosen done
