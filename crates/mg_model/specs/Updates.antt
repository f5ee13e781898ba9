-- A function over numbers that is changed at one of them. A word of both sides of the definitions; it is no rule of either.
use Rattle.std.specs.Prelude.{ℕ, ◌==◌, if◌then◌else◌}

-- f but for one number, where it is v
abbrev pub with_at : {A : Type 0} → (ℕ → A) → ℕ → A → ℕ → A
with_at f i v = λ k. if k == i then v else f k
