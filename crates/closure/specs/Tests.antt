-- Words of the tests that the obligations of a configuration are made of. No public clause speaks of them.
use Rattle.std.specs.Prelude.{ℕ, ◌<◌, ◌==◌, Bool, true, false, not, ◌&&◌, ◌||◌, nat_lt, IsTrue, List, [], ◌∷◌}
use Rattle.std.specs.List.{list_all}
use Rattle.mg_names.specs.declared.context_values.ContextValue.{ContextValue}
use Rattle.mg_names.specs.declared.context_values.ContextValue.TheVariants.{Free, Live, Stale}
use Rattle.mg_model.specs.declared.commands.Termination.TheVariants.{Line, Ephemeral}
use Rattle.mg_model.specs.declared.components.Remote.{Remote}
use Rattle.mg_model.specs.declared.components.Remote.TheVariants.{Unset, Gone, To}
use Rattle.mg_model.specs.declared.transitions.Pair.{Pair}
use Rattle.mg_model.specs.Script.{Script}
use Rattle.mg_model.specs.Tables.{state_of, items_of, is_armed_list, is_marked}
use Rattle.mg_model.specs.Configuration.{Configuration, is_null, is_present}
use Rattle.mg_model.specs.Paths.{AreJoined}

-- two lines that are joined are marked
abbrev pub PairIsMarked : Script → Configuration → ℕ → ℕ → Type 0
PairIsMarked script c i j = AreJoined c i j → IsTrue (is_marked (state_of script c.state).talk i j)

-- the same of two among so many lines
abbrev pub PairBelowIsMarked : Script → Configuration → ℕ → ℕ → ℕ → Type 0
PairBelowIsMarked script c lines i j = i < lines → j < lines → PairIsMarked script c i j

-- two lines are one, or aren't both among so many, or are marked
abbrev pub marks_pair : List Pair → ℕ → ℕ → ℕ → Bool
marks_pair talk lines i j = i == j || (not (nat_lt i lines) || (not (nat_lt j lines) || is_marked talk i j))

-- the same of a line and each of the four
abbrev pub marks_with : List Pair → ℕ → ℕ → Bool
marks_with talk lines i = list_all (marks_pair talk lines i) (0 ∷ 1 ∷ 2 ∷ 3 ∷ [])

abbrev pub line_is_cleared : Script → Configuration → ℕ → ℕ → Bool
line_is_cleared script c lines i =
    not (nat_lt i lines) || (is_null (c.spot (Line i)) && not (c.plays i) && is_armed_list (items_of script (c.events i)))

abbrev pub ephemeral_is_absent : Configuration → ℕ → Bool
ephemeral_is_absent c k = not (is_present (c.spot (Ephemeral k)))

-- a context that is bound and deleted
abbrev pub is_stale : ContextValue → Bool
is_stale Stale = true
is_stale Free = false
is_stale Live = false

-- a Remote that names what has been destroyed
abbrev pub is_gone : Remote → Bool
is_gone Gone = true
is_gone Unset = false
is_gone (To k) = false

abbrev pub context_stands : Configuration → ℕ → Bool
context_stands c j = not (is_stale (c.context j))

abbrev pub remote_stands : Configuration → ℕ → Bool
remote_stands c k = not (is_gone (c.remote k))
