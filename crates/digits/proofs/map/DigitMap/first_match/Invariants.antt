use Rattle.std.proofs.Common.{◌≡◌, ℕ, ◌<◌, [], get_or, false}
use Rattle.mg_model.specs.DigitMaps.{matches}
use Rattle.digits.proofs.map.DigitMap.first_match.Given as goal

abbrev pub invariant-loop-place : goal.invariant-loop-place
invariant-loop-place l = (k : ℕ) → k < l.place → matches (get_or l.self k []) l.symbols ≡ false
