-- Telephones that are forgotten where calls rest. A reader should check that one is where its receiver may be lifted in a state that is an end, or may be so in
-- silence in one that is neither an end nor the start, in which whoever lifts isn't in the call yet, or where it is heard while its receiver is down; and that it
-- is left unknown only where calls come to too many configurations with the telephone of some line to tell.
use Rattle.std.specs.Prelude.{◌≡◌, ◌⊎◌, ◌<◌, ◌==◌, ◌||◌, ℕ, Bool, true, false, if◌then◌else◌, IsTrue, List, length, Some, slice_get}
use Rattle.mg_model.specs.Script.{Script}
use Rattle.mg_model.specs.Entries.{Entry}
use Rattle.mg_model.specs.Tables.{state_of}
use Rattle.call_ends.specs.declared.resting_telephones.RestingTelephone.{RestingTelephone}
use Rattle.call_ends.specs.RestingTelephones.{AreRestingTelephones, ComeToManyTelephones}
use Rattle.call_ends.specs.Telephones.{IsHeardDownAtRest, IsLiftedAtRest, IsSilentAtRest}
use Rattle.check_facts.specs.declared.telephones.LineTelephones.{LineTelephones}

-- that of line i is left lifted, in state s
abbrev pub IsLeftLifted : Script → List Entry → ℕ → ℕ → Type 0
IsLeftLifted table entries s i =
    (((state_of table s).is_end ≡ true) × IsLiftedAtRest table entries s i)
    ⊎ (((state_of table s).is_end ≡ false) × (((s == table.start) ≡ false) × IsSilentAtRest table entries s i))

-- that, or it is heard while it is down
abbrev pub IsForgotten : Script → List Entry → ℕ → ℕ → Type 0
IsForgotten table entries s i = IsLeftLifted table entries s i ⊎ IsHeardDownAtRest table entries s i

pub record IsForgottenAt (table : Script) (entries : List Entry) (s i : ℕ) : Type 0 where
  pub state : s < length table.states
  pub line : i < length table.lines
  pub is : IsForgotten table entries s i

-- some is, in some state
abbrev pub SomeIsForgotten : Script → List Entry → Type 0
SomeIsForgotten table entries = (s : ℕ) × ((i : ℕ) × IsForgottenAt table entries s i)

-- calls come to too many configurations with the telephone of some line
abbrev pub ComeToManyOfALine : Script → List Entry → Type 0
ComeToManyOfALine table entries = (i : ℕ) × ComeToManyTelephones table entries i

-- ---- what was found of each line

-- of each line below one
pub record AreTelephonesBelow (table : Script) (entries : List Entry) (n : ℕ) (list : List LineTelephones) : Type 0 where
  pub count : length list ≡ n
  pub each : (i : ℕ) (one : LineTelephones) → slice_get list i ≡ Some one → (one.line ≡ i) × AreRestingTelephones table entries i one.states.items

abbrev pub AreTelephones : Script → List Entry → List LineTelephones → Type 0
AreTelephones table entries list = AreTelephonesBelow table entries (length table.lines) list

abbrev pub is_left_lifted : Script → ℕ → RestingTelephone → Bool
is_left_lifted table s one = if (state_of table s).is_end then one.is_lifted else (if s == table.start then false else one.is_silent)

abbrev pub is_forgotten : Script → ℕ → RestingTelephone → Bool
is_forgotten table s one = is_left_lifted table s one || one.is_heard

-- of one line, in a state and in some state
abbrev pub IsForgottenIn : Script → List RestingTelephone → ℕ → Type 0
IsForgottenIn table list s = (one : RestingTelephone) × ((slice_get list s ≡ Some one) × IsTrue (is_forgotten table s one))

abbrev pub HasForgottenIn : Script → List RestingTelephone → ℕ → Type 0
HasForgottenIn table list s = (s < length table.states) × IsForgottenIn table list s

-- of the line at a place, and of some line
abbrev pub HasForgottenAt : Script → List LineTelephones → ℕ → Type 0
HasForgottenAt table telephones k =
    (of_line : LineTelephones) × ((slice_get telephones k ≡ Some of_line) × ((s : ℕ) × HasForgottenIn table of_line.states.items s))

abbrev pub HasForgotten : Script → List LineTelephones → Type 0
HasForgotten table telephones = (k : ℕ) × HasForgottenAt table telephones k
