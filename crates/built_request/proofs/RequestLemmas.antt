-- When a built request is empty.
use Rattle.std.proofs.Common.{◌≡◌, ◌≤◌, Bool, true, false, not, ◌||◌, List, [], ◌∷◌, refl}
use Rattle.std.specs.List.{list_any}
use Rattle.mg_model.specs.declared.commands.Command.{Command}
use Rattle.mg_model.specs.Tables.{is_empty}
use Rattle.mg_model.specs.Request.{Names, uses_known, built}

-- a request is empty exactly where no command uses known names alone
pub is_empty-built : (names : Names) (commands : List Command) →
    is_empty (built names commands) ≡ not (list_any (uses_known names) commands)
is_empty-built names [] = refl
is_empty-built names (command ∷ more) = by_test (uses_known names command) refl (is_empty-built names more)
  where
    by_test : (b : Bool) → uses_known names command ≡ b →
        is_empty (built names more) ≡ not (list_any (uses_known names) more) →
        is_empty (built names (command ∷ more)) ≡ not (b || list_any (uses_known names) more)
    by_test true e rest = rw e refl
    by_test false e rest = rw e rest
