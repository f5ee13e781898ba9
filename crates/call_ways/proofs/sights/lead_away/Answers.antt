-- One step more.
use Rattle.std.proofs.Common.{◌∙◌, refl, sym, arith}
use Rattle.closure.specs.Shown.{shown}
use Rattle.call_ways.specs.Seen.{LeadsAway}
use Rattle.call_ways.proofs.Below.{none_found, none_more}
use Rattle.call_ways.proofs.Seeing.{away_here, away_within, stays_here}
use Rattle.call_ways.proofs.sights.lead_away.Goals as goal

pub returns-then-state : goal.returns-then-state
returns-then-state c =
    let here = away_here c.args.steps.now c.args.state c.loop-step.step-index c.step-item.result c.loop-step-test.true c.step-item.is in
    ((λ _. (c.loop-step.step-index, here (λ same. omega (arith, same, c.state.ensures, c.if-state.true)))), (λ _. refl))

pub loop-step-preserved : goal.loop-step-preserved
loop-step-preserved c =
    none_more (LeadsAway (shown c.args.steps.now) c.args.state) c.loop-step.step-index c.loop-step.invariant
    (stays_here c.args.steps.now c.args.state c.loop-step.step-index c.step-item.result c.loop-step-test.true c.step-item.is
    (sym c.state.ensures ∙ c.if-state.false))

pub returns : goal.returns
returns c =
    none_found (LeadsAway (shown c.args.steps.now) c.args.state) c.loop-step.step-index c.loop-step.invariant
    (λ k away. away_within c.args.steps.now c.args.state c.loop-step.step-index k c.loop-step-test.false away)
