-- There are as many places as at first, no call at its place has a step of the last epoch left, and all epochs before it ended.
use Rattle.std.proofs.Common.{◌≡◌, ℕ, ◌+◌, ◌-◌}
use Rattle.std.specs.Prelude.{vec_len}
use Rattle.workers.specs.PlanSteps.{AreOver}
use Rattle.workers.proofs.epochs.pass_all.Given as goal

abbrev pub invariant-loop-epoch : goal.invariant-loop-epoch
invariant-loop-epoch g l = record {
  len : vec_len l.places ≡ vec_len l.fn.places;
  passed : l.epochs.passed ≡ l.epoch;
  ended : l.epochs.ended ≡ l.epoch - 1;
  over : (epoch : ℕ) → epoch + 1 ≡ l.epoch → AreOver l.first.plan.now.calls epoch l.places.items;
}
