-- What the mask has is reached, and what comes next.
use Rattle.std.proofs.Common.{◌-◌}
use Rattle.configuration.proofs.SearchLemmas.{IsSearched}
use Rattle.configuration.proofs.config.paths.heard.Given as goal

abbrev pub invariant-loop-mask : goal.invariant-loop-mask
invariant-loop-mask l = IsSearched l.rows l.crossings l.fn.from l.mask l.more

-- the numbers that the mask hasn't come to
abbrev pub decreases-loop-mask : goal.decreases-loop-mask
decreases-loop-mask l = 256 - l.mask
