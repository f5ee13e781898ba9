-- A state that marks each two lines marks those that are joined.
use Rattle.std.proofs.Common.{◌≡◌, ℕ, ◌<◌, ◌≤◌, ◌==◌, nat_lt, Bool, true, false, List, [], ◌∷◌, length, inl, inr, refl, sym, subst, arith}
use Rattle.std.specs.List.{list_all}
use Rattle.std.proofs.lemmas.Bool.{eqb-true}
use Rattle.std.proofs.lemmas.Grind.{common_steps}
use Rattle.mg_model.specs.declared.transitions.Pair.{Pair}
use Rattle.mg_model.specs.Script.{Script}
use Rattle.mg_model.specs.Tables.{state_of, is_marked}
use Rattle.mg_model.specs.Configuration.{Configuration}
use Rattle.mg_model.specs.Paths.{AreJoined}
use Rattle.mg_model.specs.Obligations.{JoinedAreMarked}
use Rattle.configuration.proofs.WellFormedLemmas.{at_slot}
use Rattle.closure.specs.Tests.{marks_pair, marks_with}
use Rattle.closure.specs.Walk.{AllMayTalk}

different : (i j : ℕ) → (i ≡ j → ⊥) → (i == j) ≡ false
different i j apart = by_test (i == j) refl
  where
    by_test : (b : Bool) → (i == j) ≡ b → (i == j) ≡ false
    by_test true e = absurd (apart (eqb-true i j e))
    by_test false e = e

below : (i n : ℕ) → i < n → nat_lt i n ≡ true
below i n lt = grind (arith, common_steps)

-- two different lines that pass the test are marked
pub marked_pair : (talk : List Pair) (lines i j : ℕ) → i < lines → j < lines → (i ≡ j → ⊥) → marks_pair talk lines i j ≡ true
    → is_marked talk i j ≡ true
marked_pair talk lines i j hi hj apart test = rw (different i j apart, below i lines hi, below j lines hj) at test

pub all_may_talk : (script : Script) (state lines : ℕ) (talk : List Pair) → lines ≡ length script.lines → lines ≤ 4
    → talk ≡ (state_of script state).talk → list_all (marks_with talk lines) (0 ∷ 1 ∷ 2 ∷ 3 ∷ []) ≡ true → AllMayTalk script state
all_may_talk script state lines talk many few is all i j hi hj apart =
    let li : i < lines = omega (arith, hi, many) in
    let lj : j < lines = omega (arith, hj, many) in
    let row : marks_with talk lines i ≡ true = at_slot (marks_with talk lines) all i (omega (arith, li, few)) in
    subst (λ (t : List Pair). is_marked t i j ≡ true) is
    (marked_pair talk lines i j li lj apart (at_slot (marks_pair talk lines i) row j (omega (arith, lj, few))))

-- joined lines are two
pub apart_of : (c : Configuration) (i j : ℕ) → AreJoined c i j → i ≡ j → ⊥
apart_of c i j (inl path) same = path.another same
apart_of c i j (inr path) same = path.another (sym same)

pub joined_marked : (script : Script) (c : Configuration) → AllMayTalk script c.state → JoinedAreMarked script c
joined_marked script c all i j hi hj joined = all i j hi hj (apart_of c i j joined)
