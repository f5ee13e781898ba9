-- The four slots are all; what is gone stays so.
use Rattle.configuration.specs.Config.{configuration_of}
use Rattle.closure.proofs.HullEmptying.{all_lost}
use Rattle.closure.proofs.hull_emptying.with_lost.Goals as goal

pub returns : goal.returns
returns c =
    all_lost c.args.hull.now c.args.context (configuration_of c.lose_remote-4.new.gone)
    (λ d i inside names leaves stays. c.lose_remote-4.ensures.kept 0 (c.lose_remote-3.ensures.kept 0 (c.lose_remote-2.ensures.kept 0
    (rw c.all.ensures at (c.lose_remote.ensures.lost) d i inside names leaves stays))))
    (λ d i inside names leaves stays. c.lose_remote-4.ensures.kept 1 (c.lose_remote-3.ensures.kept 1
    (rw c.all.ensures at (c.lose_remote-2.ensures.lost) d i inside names leaves stays)))
    (λ d i inside names leaves stays. c.lose_remote-4.ensures.kept 2 (rw c.all.ensures at (c.lose_remote-3.ensures.lost) d i inside names leaves stays))
    (rw c.all.ensures at (c.lose_remote-4.ensures.lost))
