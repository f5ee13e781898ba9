-- One epoch more is passed, once the one before it ended.
use Rattle.std.proofs.Common.{◌∙◌, arith}
use Rattle.workers.proofs.OverLemmas.{next_over}
use Rattle.workers.proofs.epochs.pass_all.Goals as goal

pub loop-epoch-preserved : goal.loop-epoch-preserved
loop-epoch-preserved g c =
    let was = c.loop-epoch.invariant in
    let end = c.in_ok-end_epoch.ensures in
    let passed = c.pass-in-loop-epoch.ensures in record {
      len = c.in_ok-places.ensures.len ∙ was.len;
      passed = omega (arith, was.passed, end.passed, passed.passed);
      ended = omega (arith, was.passed, end.passed, end.ended, passed.ended);
      over = next_over c.args.first.now.plan.now.calls c.loop-epoch.epoch c.in_ok-places.places.items c.in_ok-places.ensures.over;
    }
