use Rattle.std.proofs.Common.{◌≡◌, map, take}
use Rattle.terminations.proofs.keys.named.Given as goal

abbrev pub invariant-loop-number : goal.invariant-loop-number
invariant-loop-number g l = map g.N.Numbered.number_of l.found.items ≡ take l.number-index l.numbers
