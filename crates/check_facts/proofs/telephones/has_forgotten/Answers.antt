-- One line more.
use Rattle.std.proofs.Common.{ℕ, List, refl, sym, subst}
use Rattle.closure.proofs.FindingLemmas.{refuted}
use Rattle.call_ways.proofs.Below.{none_found, none_more}
use Rattle.call_ends.specs.declared.resting_telephones.RestingTelephone.{RestingTelephone}
use Rattle.check_facts.specs.Forgotten.{HasForgottenAt, HasForgottenIn}
use Rattle.check_facts.proofs.Forgotten.{line_here, line_not_here, line_within}
use Rattle.check_facts.proofs.telephones.has_forgotten.Goals as goal

pub returns-then-has_forgotten_in : goal.returns-then-has_forgotten_in
returns-then-has_forgotten_in c = (
  (λ yes. line_here c.args.script.now c.args.telephones.now c.loop-of_line.of_line-index c.of_line-item.result c.loop-of_line-test.true c.of_line-item.is
      (subst (λ (xs : List RestingTelephone). (s : ℕ) × HasForgottenIn c.args.script.now xs s) c.as_slice.ensures.value
      (c.has_forgotten_in.ensures.0 c.if-has_forgotten_in.true))),
  (λ so. refl),
)

pub loop-of_line-preserved : goal.loop-of_line-preserved
loop-of_line-preserved c =
    none_more (HasForgottenAt c.args.script.now c.args.telephones.now) c.loop-of_line.of_line-index c.loop-of_line.invariant
    (line_not_here c.args.script.now c.args.telephones.now c.loop-of_line.of_line-index c.of_line-item.result c.loop-of_line-test.true c.of_line-item.is
    (λ so. refuted c.has_forgotten_in.result c.if-has_forgotten_in.false
    (c.has_forgotten_in.ensures.1
    (subst (λ (xs : List RestingTelephone). (s : ℕ) × HasForgottenIn c.args.script.now xs s) (sym c.as_slice.ensures.value) so))))

pub returns : goal.returns
returns c =
    none_found (HasForgottenAt c.args.script.now c.args.telephones.now) c.loop-of_line.of_line-index c.loop-of_line.invariant
    (λ k so. line_within c.args.script.now c.args.telephones.now c.loop-of_line.of_line-index k c.loop-of_line-test.false so)
