-- The result of one step more is in some entry; at the end, of all.
use Rattle.std.proofs.Common.{◌≡◌, ◌∙◌, ◌<◌, ℕ, length, inl, inr, sym, ap, subst, arith}
use Rattle.std.specs.List.{slice_get}
use Rattle.std.proofs.lemmas.Bool.{cases_lt}
use Rattle.std.proofs.lemmas.List.{length-map}
use Rattle.std.proofs.lemmas.Option.{same_Some, slice_get_within}
use Rattle.mg_model.specs.Entries.{IsCovered}
use Rattle.mg_model.specs.Steps.{Step as ModelStep}
use Rattle.closure.specs.Shown.{shown}
use Rattle.explanation.proofs.StepsShown.{shown_at, shown_step}
use Rattle.explanation.proofs.uncovered.first_uncovered.Goals as goal

pub loop-step-preserved : goal.loop-step-preserved
loop-step-preserved c = λ s lt step at.
    let i : ℕ = c.loop-step.step-index in
    elim (cases_lt s i) [
      | inl before ↦ c.loop-step.invariant s before step at
      | inr past ↦ (
          let here : s ≡ i = omega (arith, lt, past) in
          let got = shown_at c.args.steps.now i c.step-item.result c.loop-step-test.true c.step-item.is in
          let same : shown_step c.step-item.result ≡ step =
          same_Some (shown_step c.step-item.result) step (sym got ∙ ap (slice_get (shown c.args.steps.now)) (sym here) ∙ at) in
          subst (λ (x : ModelStep). IsCovered c.args.cert.now x.1) same (c.covers.ensures.0 c.if-not-covers.false))
    ]

pub returns-clause-none : goal.returns-clause-none
returns-clause-none c = λ s step at.
    let within : s < length (shown c.args.steps.now) = slice_get_within (shown c.args.steps.now) s step at in
    c.loop-step.invariant s (omega (arith, within, c.loop-step-test.false, length-map c.args.steps.now shown_step)) step at
