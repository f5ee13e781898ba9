-- How many numbers have a property.
use Rattle.std.specs.Prelude.{◌≡◌, ℕ, List, length, Contains, ◌↔◌}
use Rattle.mg_model.specs.Items.{IsRising}

pub record IsCount (has : ℕ → Type 0) (count : ℕ) : Type 0 where
  pub numbers : List ℕ
  pub rising : IsRising numbers
  pub exactly : (n : ℕ) → Contains numbers n ↔ has n
  pub is : count ≡ length numbers
