-- The scripts of two lines with the states `idle`, `talk` and `stopped` are accepted, and no pair is marked where `talk` marks none.
use Rattle.std.proofs.Common.{◌≡◌, ℕ, zero, suc, List, [], refl, arith}
use Rattle.mg_examples.proofs.Words.{Pair, state_of, IsScript}
use Rattle.mg_model.specs.declared.transitions.Transition.{Transition}
use Rattle.mg_examples.specs.TwoLines.{two_lines}
use Rattle.mg_examples.proofs.QuietStates.{is_accepted}

-- ---- scripts

pub is_script : (marks : List Pair) (on : List Transition) (restart : ℕ) → IsScript (two_lines marks on restart)
is_script marks on restart = is_accepted (two_lines marks on restart) (omega (arith)) (omega (arith)) (omega (arith)) refl

-- where `talk` marks no pair, no state does
pub none_marked : (on : List Transition) (again n : ℕ) → (state_of (two_lines [] on again) n).talk ≡ []
none_marked on again zero = refl
none_marked on again (suc zero) = refl
none_marked on again (suc (suc zero)) = refl
none_marked on again (suc (suc (suc n))) = refl
