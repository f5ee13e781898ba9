use Rattle.std.proofs.Common.{◌∙◌, ap}
use Rattle.digits.proofs.Parts.{copied_more}
use Rattle.digits.proofs.map.copied.Goals as goal

pub loop-alternative-preserved : goal.loop-alternative-preserved
loop-alternative-preserved c =
    rw c.in_ok-push.ensures.items (copied_more (λ a. a.items) c.loop-alternative.found.items c.args.alternatives.now c.loop-alternative.alternative-index c.in_ok-positions.positions c.alternative-item.result c.loop-alternative-test.true (c.in_ok-positions.ensures ∙ c.as_slice.ensures.value ∙ ap (λ a. a.items) c.alternative-item.is) c.loop-alternative.invariant)
