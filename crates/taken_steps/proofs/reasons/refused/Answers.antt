-- What is found is the reason.
use Rattle.std.proofs.Common.{◌∙◌, sym, subst}
use Rattle.taken_steps.specs.Findings.{IsStandingAlike}
use Rattle.taken_steps.proofs.FoundReasons.{all_found, kind_found, never_so}
use Rattle.taken_steps.proofs.reasons.refused.Goals as goal

pub returns-then-not-has_step : goal.returns-then-not-has_step
returns-then-not-has_step c =
    kind_found c.args.shard.now c.keeps_its_run.ensures c.args.next.now c.in_ok-stands.stands c.args.call.0 c.args.event
    (never_so c.args.shard.now c.args.call.0 c.args.event c.can_occur.result c.in_ok-can_occur.field-0 c.can_occur.ensures c.in_ok-can_occur.was
    c.if-branch.false).0
    (subst (λ n. IsStandingAlike c.args.shard.now n c.args.next.now c.in_ok-stands.stands) c.own_call.ensures c.in_ok-stands.ensures)
    (sym c.has_step.ensures ∙ c.if-not-has_step.true) c.kind.result c.kind.ensures

pub returns : goal.returns
returns c =
    let never = never_so c.args.shard.now c.args.call.0 c.args.event c.can_occur.result c.in_ok-can_occur.field-0 c.can_occur.ensures c.in_ok-can_occur.was
    c.if-branch.false in
    all_found c.args.shard.now c.keeps_its_run.ensures c.args.next.now c.in_ok-stands.stands c.args.call.0 c.args.event never.0
    (subst (λ n. IsStandingAlike c.args.shard.now n c.args.next.now c.in_ok-stands.stands) c.own_call.ensures c.in_ok-stands.ensures) never.1
    (sym c.has_step.ensures ∙ c.if-not-has_step.false) c.cause.result c.cause.ensures
