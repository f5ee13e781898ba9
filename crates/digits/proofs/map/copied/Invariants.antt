use Rattle.std.proofs.Common.{◌≡◌, map, take}
use Rattle.digits.proofs.map.copied.Given as goal

abbrev pub invariant-loop-alternative : goal.invariant-loop-alternative
invariant-loop-alternative l = map (λ a. a.items) l.found.items ≡ take l.alternative-index (map (λ a. a.items) l.alternatives)
