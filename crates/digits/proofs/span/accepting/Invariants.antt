use Rattle.std.proofs.Common.{◌≡◌, ℕ, ◌<◌, length, get_or, false}
use Rattle.digits.specs.Symbols.{reached}
use Rattle.digits.proofs.span.accepting.Given as goal

abbrev pub invariant-loop-symbol : goal.invariant-loop-symbol
invariant-loop-symbol l = (length l.accepts ≡ 12) × ((k : ℕ) → k < l.symbol → get_or l.accepts k false ≡ reached l.spans k)
