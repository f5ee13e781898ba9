-- Two runs after each other are a run; one more piece goes on where the last one ends; what is walked over of pieces stands in their order.
use Rattle.std.proofs.Common.{◌≡◌, ◌∙◌, ℕ, ◌+◌, ◌-◌, ◌*◌, ◌^◌, ◌≤◌, List, [], ◌∷◌, ◌++◌, drop, min, inl, inr, refl, sym, subst, arith}
use Rattle.std.specs.List.{AllZip}
use Rattle.std.proofs.Math.Nat.{min-eq_left}
use Rattle.std.proofs.lemmas.Bool.{cases_lt}
use Rattle.mg_model.specs.Script.{Script}
use Rattle.mg_model.specs.Entries.{Entry, HavePoints}
use Rattle.mg_model.specs.declared.faults.Fault.{Fault}
use Rattle.closure.specs.Runs.{IsFirstInRun, IsOfRun, RunHasPoints, RunIsKept}
use Rattle.parcheck.specs.declared.pieces.Piece.{Piece}
use Rattle.closure.specs.declared.first_fault.Finding.TheVariants as finding
use Rattle.parcheck.specs.declared.walked.Walked.{Walked}
use Rattle.parcheck.specs.Pieces.{AreRuns, AreWalked, IsOfPiece}

module _ (script : Script) (entries : List Entry) (a b c : ℕ) where
  pub both_kept : RunIsKept script entries a b → RunIsKept script entries b c → RunIsKept script entries a c
  both_kept first second place below from entry at = elim (cases_lt place b) [
    | inl before ↦ first place before from entry at
    | inr after ↦ second place below after entry at
  ]

  pub both_counted : (points more : ℕ) → RunHasPoints entries a b points → RunHasPoints entries b c more → RunHasPoints entries a c (points + more)
  both_counted points more first second rest left = subst (HavePoints (drop a entries)) (omega arith) (first (more + rest) (second rest left))

  pub first_broken : b ≤ c → (fault : Fault) → IsFirstInRun script entries a b fault → IsFirstInRun script entries a c fault
  first_broken rise fault found = record {
    place = found.place;
    from = found.from;
    below = omega (arith, found.below, rise);
    entry = found.entry;
    at_place = found.at_place;
    number = found.number;
    broken = found.broken;
    first_point = found.first_point;
    before = found.before;
    named = found.named;
  }

  pub second_broken : a ≤ b → (fault : Fault) → RunIsKept script entries a b → IsFirstInRun script entries b c fault
      → IsFirstInRun script entries a c fault
  second_broken rise fault kept found = record {
    place = found.place;
    from = omega (arith, rise, found.from);
    below = found.below;
    entry = found.entry;
    at_place = found.at_place;
    number = found.number;
    broken = found.broken;
    first_point = found.first_point;
    before = λ place below from entry at. elim (cases_lt place b) [
      | inl early ↦ kept place early from entry at
      | inr late ↦ found.before place below late entry at
    ];
    named = found.named;
  }

  -- no count is cut: each entry has fewer points than 32 bits count
  pub both_of_kept : (points more both : ℕ) → both ≡ min (points + more) (2 ^ 128 - 1) → a ≤ b → b ≤ c → c ≤ 2 ^ 64
      → IsOfRun script entries a b (finding.Kept points) → IsOfRun script entries b c (finding.Kept more)
      → IsOfRun script entries a c (finding.Kept both)
  both_of_kept points more both is rise more_rise small one another =
      let few : points + more + a * 2 ^ 32 ≤ c * 2 ^ 32 = omega (arith, (one.1 rise).1, (another.1 more_rise).1) in
      let exact : both ≡ points + more = is ∙ min-eq_left (omega (arith, few, small)) in
      subst (λ (n : ℕ). IsOfRun script entries a c (finding.Kept n)) (sym exact)
      (both_kept one.0 another.0, λ within. (both_counted points more (one.1 rise).0 (another.1 more_rise).0, few))

-- one more piece goes on where the last one ends
pub one_more_run : (first : ℕ) (pieces : List Piece) (last : ℕ) (piece : Piece) → AreRuns first pieces last → piece.first ≡ last
    → last ≤ piece.last → AreRuns first (pieces ++ piece ∷ []) piece.last
one_more_run first [] last piece same from rise = (from ∙ sym same, omega (arith, same, rise), refl)
one_more_run first (other ∷ pieces) last piece runs from rise =
    (runs.0, runs.1, one_more_run other.last pieces last piece runs.2 from rise)

-- ---- what is walked over

module _ (script : Script) (entries : List Entry) where
  pub none_of_none : (first last : ℕ) → first ≡ last → IsOfRun script entries first last (finding.Kept 0)
  none_of_none first last same = (
    λ place below from entry at. absurd (omega (arith, below, from, same)),
    λ within. (
      λ rest left. subst (HavePoints (drop first entries)) (omega arith) (subst (λ from. HavePoints (drop from entries) rest) (sym same) left),
      omega (arith, same),
    ),
  )

  -- runs that are walked over rise
  pub walked_rise : (first : ℕ) (all : List Walked) (last : ℕ) → AreWalked script entries first all last → first ≤ last
  walked_rise first [] last rise = rise
  walked_rise first (walked ∷ more) last are = omega (arith, are.0, are.1, walked_rise walked.last more last are.3)

  -- what is walked over of pieces stands in file order, as they do
  pub all_walked : (start first : ℕ) (pieces : List Piece) (last : ℕ) (all : List Walked) → start ≤ first → AreRuns first pieces last
      → AllZip (IsOfPiece script entries) pieces all → AreWalked script entries start all last
  all_walked start first [] last [] rise runs each = omega (arith, rise, runs)
  all_walked start first [] last (walked ∷ more) rise runs each = absurd each
  all_walked start first (piece ∷ pieces) last [] rise runs each = absurd each
  all_walked start first (piece ∷ pieces) last (walked ∷ more) rise runs each = (
    omega (arith, rise, each.0.from, runs.0),
    each.0.rises,
    each.0.found,
    all_walked walked.last piece.last pieces last more (each.0.within (omega (arith, runs.0, runs.1))) runs.2 each.1,
  )
