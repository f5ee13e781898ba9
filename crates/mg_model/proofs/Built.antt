-- The commands of a state, and those that are built of them.
use Rattle.std.proofs.Common.{◌≡◌, ◌≤◌, ℕ, suc, Bool, true, false, List, [], ◌∷◌, length, Option, sym, subst, arith, inl, inr}
use Rattle.std.specs.Prelude.{if◌then◌else◌, unwrap_or}
use Rattle.std.specs.List.{All}
use Rattle.std.proofs.lemmas.Bool.{cases_lt}
use Rattle.std.proofs.lemmas.List.Elements.{All-nil, All-cons, All-head, All-tail}
use Rattle.std.proofs.lemmas.Option.{unwrap_or-slice_get, slice_get_past}
use Rattle.mg_model.specs.declared.commands.Command.{Command}
use Rattle.mg_model.specs.Accepted.{IsScript, IsCommandOf, IsStateOf}
use Rattle.mg_model.specs.Request.{Names, uses_known, names_after, built}
use Rattle.mg_model.specs.Script.{Script, State}
use Rattle.mg_model.specs.Tables.{state_of, no_state}

-- ---- the commands of a state

pub state_commands : (script : Script) → IsScript script → (state : ℕ) → All (IsCommandOf script) (state_of script state).commands
state_commands script is state = elim (cases_lt state (length script.states)) [
  | inl below ↦ (subst (IsStateOf script) (sym (unwrap_or-slice_get script.states state no_state)) (is.states state no_state below)).0
  | inr past ↦ subst (λ (found : Option State). All (IsCommandOf script) (unwrap_or found no_state).commands)
      (sym (slice_get_past script.states state past)) (All-nil (IsCommandOf script))
]

-- ---- what is built of commands

pub same_names : (m n : Names) → m.contexts ≡ n.contexts → m.ephemerals ≡ n.ephemerals → m ≡ n
same_names m n e f = λ i. record { contexts = e i; ephemerals = f i }

pub built_commands : (script : Script) (names : Names) (commands : List Command) → All (IsCommandOf script) commands
    → All (IsCommandOf script) (built names commands)
built_commands script names [] all = All-nil (IsCommandOf script)
built_commands script names (command ∷ more) all =
    by_test (uses_known names command)
    (built_commands script (names_after names command) more (All-tail (IsCommandOf script) command more all))
    (built_commands script names more (All-tail (IsCommandOf script) command more all))
  where
    by_test : (known : Bool) → All (IsCommandOf script) (built (names_after names command) more) → All (IsCommandOf script) (built names more)
        → All (IsCommandOf script) (if known then command ∷ built (names_after names command) more else built names more)
    by_test true kept left_out = All-cons (IsCommandOf script) command (built (names_after names command) more)
        (All-head (IsCommandOf script) command more all) kept
    by_test false kept left_out = left_out

pub built_no_more : (names : Names) (commands : List Command) → length (built names commands) ≤ length commands
built_no_more names [] = omega (arith)
built_no_more names (command ∷ more) =
    by_test (uses_known names command) (built_no_more (names_after names command) more) (built_no_more names more)
  where
    by_test : (known : Bool) → length (built (names_after names command) more) ≤ length more → length (built names more) ≤ length more
        → length (if known then command ∷ built (names_after names command) more else built names more) ≤ suc (length more)
    by_test true kept left_out = omega (arith, kept)
    by_test false kept left_out = omega (arith, left_out)
