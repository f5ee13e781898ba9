-- Points that some components make of a configuration, all obligations of which are known to hold, are counted: one value for all where any is as good.
use Rattle.std.proofs.Common.{◌≡◌, ◌∙◌, ℕ, zero, suc, ◌+◌, ◌*◌, ◌<◌, ◌≤◌, ◌↔◌, Bool, true, false, IsTrue, List, [], ◌∷◌, length, refl, sym, ap, subst, arith}
use Rattle.std.specs.Int.{from_bool}
use Rattle.std.specs.List.{slice_index_or}
use Rattle.std.proofs.Math.Nat.{mul_comm}
use Rattle.mg_model.specs.Script.{Script}
use Rattle.mg_model.specs.Configuration.{Configuration, IsWellFormed}
use Rattle.mg_model.specs.Entries.{Entry, Component, choices_of, numbered, same_choice, size_of}
use Rattle.mg_model.specs.Obligations.{JoinedAreMarked}
use Rattle.mg_model.proofs.Cases.{false_not_true}
use Rattle.entry_table.specs.declared.component.Component as declared
use Rattle.entry_table.specs.Shown.{shown, shown_all}
use Rattle.closure.specs.Counting.{AreAllCounted, AreCounted, KeepsWellformedness}
use Rattle.closure.specs.Findings.{IsKept}
use Rattle.closure.specs.Hulls.{AreOthersKept, IsBlockKept, IsBlockMarked}
use Rattle.closure.specs.Walk.{HasPassed}
use Rattle.closure.specs.Ways.{BlockIsPassed}
use Rattle.closure.proofs.Forms.{form_formed, form_given, form_itself, form_lowered, form_raised, form_stays, low_formed}
use Rattle.closure.proofs.WalkLemmas.{kept_inside, marked_inside, numbered_inside, one_no_point, one_point}

module _ (script : Script) (entries : List Entry) where
  point_kept : (c : Configuration) → AreOthersKept script entries c → JoinedAreMarked script c → IsKept script entries c
  point_kept c others marked = record {
    marked = marked;
    cleared = others.cleared;
    unbound = others.unbound;
    live = others.live;
    covered = others.covered;
  }

  -- no components make one number, a point or none
  pub counted_here : (items : List declared.Component) (low : Configuration) (formed : Bool) (points : ℕ) → length items ≡ 0 → points ≡ from_bool formed
      → IsTrue formed ↔ IsWellFormed low → AreAllCounted (shown_all items) low script entries points
  counted_here [] low true points none is test entry c number before form kept marked numbers passed =
      subst (λ (more : ℕ). HasPassed script entries entry (number + 1) (before + more)) (sym is)
      (one_point script entries entry number before c (ap (numbered entry) (omega arith) ∙ numbers 0 (omega arith)) passed
      (form_formed [] low c form (test.0 refl))
      (point_kept c (kept 0 (omega arith) (form_formed [] low c form (test.0 refl))) (marked 0 (omega arith))))
  counted_here [] low false points none is test entry c number before form kept marked numbers passed =
      subst (λ (more : ℕ). HasPassed script entries entry (number + 1) (before + more)) (sym is)
      (subst (λ (all : ℕ). HasPassed script entries entry (number + 1) all) (omega arith)
      (one_no_point script entries entry number before c (ap (numbered entry) (omega arith) ∙ numbers 0 (omega arith)) passed
      (λ formed. false_not_true (test.1 (low_formed [] low c form formed)))))
  counted_here (item ∷ items) low formed points none is test entry c number before form kept marked numbers passed = absurd (omega (arith, none))

  module _ (first : Component) (rest : List Component) (low : Configuration) where
    -- none of the values of a component yet
    pub none_counted : AreCounted (first ∷ rest) low script entries (0 * size_of rest) 0
    none_counted entry c number before form kept marked numbers passed =
        subst (λ (n : ℕ). HasPassed script entries entry n (before + 0)) (omega arith)
        (subst (λ (points : ℕ). HasPassed script entries entry number points) (omega arith) passed)

    -- the values of a component in turn, each by itself
    pub more_counted : (place points more : ℕ) → place < length (choices_of first)
        → AreCounted (first ∷ rest) low script entries (place * size_of rest) points
        → AreAllCounted rest ((slice_index_or (choices_of first) place same_choice) low) script entries more
        → AreCounted (first ∷ rest) low script entries ((place + 1) * size_of rest) (points + more)
    more_counted place points more within so_far here entry c number before form kept marked numbers passed =
        subst (λ (n : ℕ). HasPassed script entries entry n (before + (points + more))) (omega arith)
        (subst (λ (p : ℕ). HasPassed script entries entry (number + place * size_of rest + size_of rest) p) (omega arith)
        (here entry ((slice_index_or (choices_of first) place same_choice) c) (number + place * size_of rest) (before + points)
        (form_given rest low c first place form) (kept_inside script entries first rest c place within kept)
        (marked_inside script first rest c place within marked) (numbered_inside entry number first rest c place within numbers)
        (so_far entry c number before form kept marked numbers passed)))

    -- the same where any value is as good
    module _ (free : KeepsWellformedness rest low first) (n : ℕ)
        (one : AreAllCounted rest ((slice_index_or (choices_of first) 0 same_choice) low) script entries n) where
      each_counted : (m : ℕ) → m ≤ length (choices_of first) → AreCounted (first ∷ rest) low script entries (m * size_of rest) (m * n)
      each_counted zero within =
          subst (λ (points : ℕ). AreCounted (first ∷ rest) low script entries (0 * size_of rest) points) (omega arith) none_counted
      each_counted (suc m) within = λ entry c number before form kept marked numbers passed.
          let lt : m < length (choices_of first) = omega (arith, within) in
          let low0 : Configuration = (slice_index_or (choices_of first) 0 same_choice) low in
          let cm : Configuration = (slice_index_or (choices_of first) m same_choice) c in
          subst (λ (k : ℕ). HasPassed script entries entry k (before + suc m * n)) (omega arith)
          (subst (λ (p : ℕ). HasPassed script entries entry (number + m * size_of rest + size_of rest) p) (omega arith)
          (one entry cm (number + m * size_of rest) (before + m * n)
          (form_lowered rest low cm first 0 free (form_raised rest low c first m free (form_stays rest low c first form)))
          (kept_inside script entries first rest c m lt kept) (marked_inside script first rest c m lt marked)
          (numbered_inside entry number first rest c m lt numbers)
          (each_counted m (omega (arith, within)) entry c number before form kept marked numbers passed)))

  -- ---- the same of the code's components

  module _ (items : List declared.Component) (first : declared.Component) (more : List declared.Component) (whole : items ≡ first ∷ more) (low : Configuration)
      (count : ℕ) (counted : count ≡ length (choices_of (shown first))) where
    pub free_counted : (n : ℕ) → KeepsWellformedness (shown_all more) low (shown first)
        → AreAllCounted (shown_all more) ((slice_index_or (choices_of (shown first)) 0 same_choice) low) script entries n
        → AreAllCounted (shown_all items) low script entries (n * count)
    free_counted n free one =
        subst (λ (cs : List declared.Component). AreAllCounted (shown_all cs) low script entries (n * count)) (sym whole)
        (subst (AreCounted (shown first ∷ shown_all more) low script entries (length (choices_of (shown first)) * size_of (shown_all more)))
        (mul_comm (length (choices_of (shown first))) n ∙ ap (λ (k : ℕ). n * k) (sym counted))
        (each_counted (shown first) (shown_all more) low free n one (length (choices_of (shown first))) (omega arith)))

    pub all_counted : (place points : ℕ) → place ≤ count → count ≤ place
        → AreCounted (shown first ∷ shown_all more) low script entries (place * size_of (shown_all more)) points
        → AreAllCounted (shown_all items) low script entries points
    all_counted place points below past so_far =
        subst (λ (cs : List declared.Component). AreAllCounted (shown_all cs) low script entries points) (sym whole)
        (subst (λ (k : ℕ). AreCounted (shown first ∷ shown_all more) low script entries (k * size_of (shown_all more)) points)
        (omega (arith, below, past, counted)) so_far)

  -- a configuration has its own form
  pub block_passed : (components : List Component) (c : Configuration) (points : ℕ) → points ≤ size_of components
      → AreAllCounted components c script entries points → IsBlockKept script entries components c → IsBlockMarked script components c
      → BlockIsPassed script entries components c points
  block_passed components c points few counted kept marked =
      (few, λ entry number before. counted entry c number before (form_itself components c) kept marked)
