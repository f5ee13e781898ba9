-- Joined lines of the hull of some configurations, where those that aren't marked have no path.
use Rattle.std.proofs.Common.{◌≡◌, ◌∙◌, ℕ, ◌<◌, ◌≤◌, true, List, length, inl, inr, sym, ap, subst, arith, IsTrue}
use Rattle.mg_model.specs.declared.transitions.Pair.{Pair}
use Rattle.mg_model.specs.Script.{Script}
use Rattle.mg_model.specs.Tables.{is_marked, state_of}
use Rattle.mg_model.specs.Configuration.{Configuration}
use Rattle.mg_model.specs.Paths.{AreJoined, HasPath}
use Rattle.closure.specs.Hulls.{AreHullLinesMarked, IsHullMarked, AreOfState}
use Rattle.closure.specs.Tests.{marks_pair}
use Rattle.closure.proofs.StepLists.{of_lines}
use Rattle.closure.proofs.MarkLemmas.{apart_of, marked_pair}

-- two lines that the test of marks takes for marked are so where they are joined
pub marked_if_joined : (talk : List Pair) (lines i j : ℕ) (c : Configuration) → marks_pair talk lines i j ≡ true → i < lines → j < lines
    → AreJoined c i j → IsTrue (is_marked talk i j)
marked_if_joined talk lines i j c test hi hj joined = marked_pair talk lines i j hi hj (apart_of c i j joined) test

pub never_joined : (c : Configuration) (i j : ℕ) → (HasPath c i j → ⊥) → (HasPath c j i → ⊥) → AreJoined c i j → ⊥
never_joined c i j onward back (inl path) = onward path
never_joined c i j onward back (inr path) = back path

pub all_hull_marked : (script : Script) (some : List Configuration) (one : Configuration) → AreOfState some one.state → (talk : List Pair) (lines : ℕ)
    → lines ≡ length script.lines → lines ≤ 4 → talk ≡ (state_of script one.state).talk
    → AreHullLinesMarked talk lines some 0 → AreHullLinesMarked talk lines some 1 → AreHullLinesMarked talk lines some 2
    → AreHullLinesMarked talk lines some 3 → IsHullMarked script some
all_hull_marked script some one of_state talk lines many few is first second third fourth c inside i j hi hj joined =
    let li : i < lines = omega (arith, hi, many) in
    let lj : j < lines = omega (arith, hj, many) in
    subst (λ (t : List Pair). IsTrue (is_marked t i j))
    (is ∙ ap (λ (state : ℕ). (state_of script state).talk) (sym (of_state inside.state.0 inside.state.1.0) ∙ inside.state.1.1))
    (of_lines (λ (n : ℕ). AreHullLinesMarked talk lines some n) lines few first second third fourth i li j lj c inside li joined)
