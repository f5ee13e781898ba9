-- The values before the place are below the new one.
use Rattle.std.proofs.Common.{◌≡◌, ◌++◌, take, drop}
use Rattle.certificate.specs.Ranks.{inserted}
use Rattle.certificate.proofs.ranked.place_of.Given as goal

abbrev pub invariant-loop-place : goal.invariant-loop-place
invariant-loop-place g l =
    inserted g.T.Ranked.place l.value l.values
    ≡ take l.place l.values ++ inserted g.T.Ranked.place l.value (drop l.place l.values)
