-- Small facts on tests.
use Rattle.std.proofs.Common.{◌≡◌, Bool, true, false, refl, rules}

-- by a test, with its value
pub by_value : {P : Type 0} (b : Bool) → (b ≡ true → P) → (b ≡ false → P) → P
by_value true f g = f refl
by_value false f g = g refl

pub not_both : {P : Type 0} (b : Bool) → b ≡ true → b ≡ false → P
not_both true h k = absurd (search rules)
not_both false h k = absurd (search rules)
