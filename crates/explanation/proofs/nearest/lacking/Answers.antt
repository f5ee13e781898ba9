-- One component more is counted, if it doesn't have the value; at the end none is left.
use Rattle.std.proofs.Common.{◌≡◌, ◌∙◌, ◌+◌, ◌∷◌, [], ℕ, List, drop, inl, inr, sym, ap, subst, refl, arith}
use Rattle.mg_model.specs.Entries.{Component as Listed}
use Rattle.configuration.specs.Config.{configuration_of}
use Rattle.entry_table.specs.Shown.{shown_all}
use Rattle.entry_table.specs.declared.component.Component.{Component}
use Rattle.closure.proofs.FindingLemmas.{refuted}
use Rattle.closure.proofs.VisitLemmas.{next_of}
use Rattle.explanation.specs.Nearest.{Lack}
use Rattle.explanation.proofs.Lacks.{drop_past}
use Rattle.explanation.proofs.nearest.lacking.Goals as goal
use Rattle.explanation.proofs.nearest.lacking.Goals.{then-not-allows, else-not-allows}

pub loop-component-preserved : goal.loop-component-preserved
loop-component-preserved c =
    let C = configuration_of c.args.config.now in
    let xs : List Component = c.components-component-items.result.now in
    let i : ℕ = c.loop-component.component-index in
    let x : Component = c.component-item.result in
    let next : drop i xs ≡ x ∷ drop (i + 1) xs =
    next_of xs i x c.loop-component-test.true ∙ ap (λ (y : Component). y ∷ drop (i + 1) xs) (sym c.component-item.is) in
    let inv = c.loop-component.invariant in
    elim c.if-not-allows.branch [
      | then-not-allows w ↦ (
        inv.0,
        omega (arith, inv.1, w.missing-is),
        λ rest lacks.
            let more : Lack C (shown_all (drop i xs)) (rest + 1) =
            subst (λ (ys : List Component). Lack C (shown_all ys) (rest + 1)) (sym next)
            (inr ((λ a. refuted c.allows.result w.if-not-allows.true (c.allows.ensures.1 a)), (rest, (lacks, refl)))) in
            let same : c.loop-component.missing + (rest + 1) ≡ c.if-not-allows.missing + rest = omega (arith, w.missing-is) in
            subst (λ (n : ℕ). Lack C (shown_all xs) n) same (inv.2 (rest + 1) more),
      )
      | else-not-allows w ↦ (
        inv.0,
        omega (arith, inv.1, w.missing-is),
        λ rest lacks.
            let more : Lack C (shown_all (drop i xs)) rest =
            subst (λ (ys : List Component). Lack C (shown_all ys) rest) (sym next) (inl (c.allows.ensures.0 w.if-not-allows.false, lacks)) in
            let same : c.loop-component.missing + rest ≡ c.if-not-allows.missing + rest = omega (arith, w.missing-is) in
            subst (λ (n : ℕ). Lack C (shown_all xs) n) same (inv.2 rest more),
      )
    ]

pub returns : goal.returns
returns c =
    let C = configuration_of c.args.config.now in
    let xs : List Component = c.components-component-items.result.now in
    let none : drop c.loop-component.component-index xs ≡ [] = drop_past xs c.loop-component.component-index c.loop-component-test.false in
    let left : Lack C (shown_all (drop c.loop-component.component-index xs)) 0 =
    subst (λ (ys : List Component). Lack C (shown_all ys) 0) (sym none) refl in
    let same : c.loop-component.missing + 0 ≡ c.loop-component.missing = omega arith in
    subst (λ (cs : List Listed). Lack C cs c.loop-component.missing) c.components-component-items.ensures
    (subst (λ (n : ℕ). Lack C (shown_all xs) n) same (c.loop-component.invariant.2 0 left))
