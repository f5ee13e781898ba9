-- One event more.
use Rattle.std.proofs.Common.{◌∙◌, refl, ap, arith}
use Rattle.std.proofs.lemmas.List.{take_all}
use Rattle.mg_model.specs.Shards.{restarts_in}
use Rattle.run_account.proofs.CountLemmas.{restarts_next}
use Rattle.run_account.proofs.compare.restarts_in.Goals as goal

pub loop-event-init : goal.loop-event-init
unfolding restarts_in
loop-event-init c = (refl, omega arith)

pub loop-event-preserved : goal.loop-event-preserved
loop-event-preserved c = (
  restarts_next _ _ _ _ _ c.loop-event.invariant.0 c.loop-event-test.true c.restarts_of-restarts.ensures.value,
  omega (arith, c.loop-event.invariant.1, c.restarts_of-restarts.ensures.few),
)

pub returns : goal.returns
returns c = c.loop-event.invariant.0 ∙ ap restarts_in (take_all c.loop-event.event-index c.args.history.now c.loop-event-test.false)
