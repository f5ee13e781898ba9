-- What a table of names finds by a name.
use Rattle.std.specs.Prelude.{ℕ, List, ◌≡◌}
use Rattle.std.specs.BTreeMap.{BTreeMap, get_by}
use Rattle.std.specs.Borrow.{Bor}
use Rattle.std.specs.Cmp.Lexicographic.{slice_cmp}
use Rattle.std.specs.Ordering.{nat_cmp}
use Rattle.script_table.specs.Table.{place_of}

-- the table finds each name's place among the names, and no other name
abbrev pub ArePlacesIn : List (List ℕ) → BTreeMap (Bor (List ℕ)) ℕ → Type 0
ArePlacesIn names table = (name : List ℕ) → get_by (λ key. slice_cmp nat_cmp name key.now) table ≡ place_of name names
