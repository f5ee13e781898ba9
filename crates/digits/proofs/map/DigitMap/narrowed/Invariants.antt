use Rattle.std.proofs.Common.{◌≡◌, ℕ, ◌<◌, [], length, map, get_or, false, ◌&&◌}
use Rattle.digits.specs.Alternatives.{accepts_at}
use Rattle.digits.proofs.map.DigitMap.narrowed.Given as goal

abbrev pub invariant-loop-index : goal.invariant-loop-index
invariant-loop-index l = (length l.left ≡ 16)
    × ((k : ℕ) → k < l.index → get_or l.left k false ≡ (get_or l.remaining k false && accepts_at (get_or (map (λ a. a.items) l.alternatives) k []) l.count l.symbol))
