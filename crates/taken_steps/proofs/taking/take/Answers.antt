-- A step that means nothing is idle, and so is one whose event is refused.
use Rattle.std.proofs.Common.{refl}
use Rattle.taken_steps.specs.Taking.{means_nothing}
use Rattle.taken_steps.proofs.Refusing.{told_idle}
use Rattle.taken_steps.proofs.taking.take.Goals as goal

pub returns-in_default-meaning : goal.returns-in_default-meaning
returns-in_default-meaning c = (
  means_nothing c.in-Some.begins c.in-Some.ensures c.in_default-meaning.ensures.meant c.in-Some-unmeant.ensures c.meaning.ensures.unchanged refl,
  refl,
)

pub returns : goal.returns
returns c =
    told_idle c.args.shard.now c.meaning.new.self c.step-next.new.self c.args.next c.step-next.result.0 c.args.number.0 c.args.step.now c.in-Some.begins
    c.in-Some-meaning.event c.in-OfCall.call c.in-OfCall.happens c.in-Some.ensures c.in-Some-meaning.ensures.meant c.meaning.ensures.unchanged
    c.in-OfCall.is c.step-next.result.1 c.in-Err.fault c.refused-why.result c.in_ok-came-in-Err.came c.step-next.ensures.stepped c.in-Err.is
    c.refused-why.ensures c.in_ok-came-in-Err.ensures.1
