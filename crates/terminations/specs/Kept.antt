-- Under which numbers a map keeps something.
use Rattle.std.specs.Prelude.{ℕ, Bool, List, is_some, nat_eq}
use Rattle.std.specs.Map.{lookup}

abbrev pub is_kept : {V : Type 0} → List (ℕ × V) → ℕ → Bool
is_kept entries n = is_some (lookup (nat_eq n) entries)
