-- One epoch more, up to the last.
use Rattle.std.proofs.Common.{◌≡◌, [], ap, arith, ℕ}
use Rattle.std.specs.Prelude.{slice_index_or}
use Rattle.mg_model.specs.Plans.{steps_in}
use Rattle.run_steps.proofs.ManySteps.{tells_as, tells_epoch}
use Rattle.run_steps.proofs.telling.Telling.take_epochs.Goals as goal

pub loop-epoch-preserved : goal.loop-epoch-preserved
loop-epoch-preserved c =
    let epochs = c.args.epochs.now in
    let k = c.loop-epoch.epoch in
    tells_epoch epochs k c.args.self c.loop-epoch.telling c.in_ok-telling.telling c.in_ok-telling-2.telling c.loop-epoch.invariant c.in_ok-telling.ensures
    (tells_as c.steps_in-steps.result.now (slice_index_or epochs k []) c.in_ok-telling.telling c.in_ok-telling-2.telling c.steps_in-steps.ensures
    c.in_ok-telling-2.ensures)

pub returns : goal.returns
returns c =
    let end : c.loop-epoch.epoch ≡ c.args.count = omega arith in
    tells_as (steps_in c.loop-epoch.epoch c.args.epochs.now) (steps_in c.args.count c.args.epochs.now) c.args.self c.loop-epoch.telling
    (ap (λ (n : ℕ). steps_in n c.args.epochs.now) end) c.loop-epoch.invariant
