-- One state more.
use Rattle.std.proofs.Common.{arith, refl}
use Rattle.closure.proofs.FindingLemmas.{refuted}
use Rattle.call_ways.proofs.Below.{none_found, none_more}
use Rattle.check_facts.specs.Forgotten.{HasForgottenIn}
use Rattle.check_facts.proofs.telephones.has_forgotten_in.Goals as goal

pub returns-then-is_forgotten_in : goal.returns-then-is_forgotten_in
returns-then-is_forgotten_in c = (
  (λ yes. (c.loop-state.state, (omega (arith, c.loop-state-test.true, c.states-state-end.ensures.value), c.is_forgotten_in.ensures.0 c.if-is_forgotten_in.true))),
  (λ so. refl),
)

pub loop-state-preserved : goal.loop-state-preserved
loop-state-preserved c =
    none_more (HasForgottenIn c.args.script.now c.args.states.now) c.loop-state.state c.loop-state.invariant
    (λ so. refuted c.is_forgotten_in.result c.if-is_forgotten_in.false (c.is_forgotten_in.ensures.1 so.1))

pub returns : goal.returns
returns c =
    none_found (HasForgottenIn c.args.script.now c.args.states.now) c.loop-state.state c.loop-state.invariant
    (λ k so. omega (arith, so.0, c.loop-state-test.false, c.states-state-end.ensures.value))
