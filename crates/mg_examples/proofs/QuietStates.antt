-- A state without commands is accepted in any script, and so are states whose commands add a line, modify one in the null context or subtract one, where each
-- names what is declared.
use Rattle.std.proofs.Common.{◌≡◌, ◌≤◌, Bool, true, false, List, [], ◌∷◌, length, nat_lt, ltb-true, refl}
use Rattle.std.proofs.lemmas.Bool.{and_parts}
use Rattle.std.proofs.lemmas.List.Elements.{All-cons, All-nil}
use Rattle.std.specs.List.{All, list_all}
use Rattle.std.specs.Prelude.{◌&&◌, IsTrue}
use Rattle.mg_examples.proofs.Words.{Command, AddLine, Subtract, IsCommandOf, IsScript, IsStateOf, create_once, Script, State}
use Rattle.mg_model.specs.declared.commands.Command.TheVariants.{ModifyLine}
use Rattle.mg_model.specs.declared.commands.Place.TheVariants.{NullContext}
use Rattle.mg_model.specs.declared.commands.Termination.TheVariants.{Line}
use Rattle.mg_model.proofs.Cases.{false_not_true}

pub no_command : (script : Script) → All (IsCommandOf script) [] × (true ≡ true)
no_command script = (All-nil (IsCommandOf script), refl)

-- each names a line, and a context or the null context
abbrev is_command : Script → Command → Bool
is_command script (AddLine create j i options) = nat_lt j (length script.contexts) && nat_lt i (length script.lines)
is_command script (Subtract j (Line i)) = nat_lt j (length script.contexts) && nat_lt i (length script.lines)
is_command script (ModifyLine NullContext i options) = nat_lt i (length script.lines)
is_command script command = false

command_so : (script : Script) (command : Command) → IsTrue (is_command script command) → IsCommandOf script command
command_so script (AddLine create j i options) h =
    let both = and_parts (nat_lt j (length script.contexts)) (nat_lt i (length script.lines)) h in
    (ltb-true j (length script.contexts) both.0, ltb-true i (length script.lines) both.1)
command_so script (Subtract j (Line i)) h =
    let both = and_parts (nat_lt j (length script.contexts)) (nat_lt i (length script.lines)) h in
    (ltb-true j (length script.contexts) both.0, ltb-true i (length script.lines) both.1)
command_so script (ModifyLine NullContext i options) h = (tt, ltb-true i (length script.lines) h)
command_so script command h = absurd (false_not_true h)

all_so : {A : Type 0} (P : A → Type 0) (test : A → Bool) → ((x : A) → IsTrue (test x) → P x) → (xs : List A) → IsTrue (list_all test xs) → All P xs
all_so P test sound [] h = All-nil P
all_so P test sound (x ∷ xs) h =
    let both = and_parts (test x) (list_all test xs) h in
    All-cons P x xs (sound x both.0) (all_so P test sound xs both.1)

abbrev is_state : Script → State → Bool
is_state script state = list_all (is_command script) state.commands && create_once state.commands

state_so : (script : Script) (state : State) → IsTrue (is_state script state) → IsStateOf script state
state_so script state h =
    let both = and_parts (list_all (is_command script) state.commands) (create_once state.commands) h in
    (all_so (IsCommandOf script) (is_command script) (command_so script) state.commands both.0, both.1)

-- a script of such states
pub is_accepted : (script : Script) → length script.lines ≤ 4 → length script.ephemerals ≤ 4 → length script.contexts ≤ 4
    → IsTrue (list_all (is_state script) script.states) → IsScript script
is_accepted script lines ephemerals contexts h =
    let states = all_so (IsStateOf script) (is_state script) (state_so script) script.states h in
    record { lines = lines; ephemerals = ephemerals; contexts = contexts; states = states }
