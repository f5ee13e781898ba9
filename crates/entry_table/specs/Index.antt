-- Where the entries of a state stand among those of a certificate.
use Rattle.std.specs.Prelude.{◌≡◌, ℕ, ◌==◌, ◌+◌, ◌<◌, List, [], ◌∷◌, length, if◌then◌else◌}
use Rattle.std.specs.List.{slice_index_or}
use Rattle.entry_table.specs.Listed.{Listed}

-- the places of a state's entries, in their order, counted from a place on
abbrev pub places_from : ℕ → ℕ → List Listed → List ℕ
places_from place state [] = []
places_from place state (entry ∷ entries) =
    if entry.state == state then place ∷ places_from (place + 1) state entries else places_from (place + 1) state entries

abbrev pub places_of : ℕ → List Listed → List ℕ
places_of state entries = places_from 0 state entries

-- for each number of a state of 8 bits, the places of its entries
abbrev pub IsIndex : List (List ℕ) → List Listed → Type 0
IsIndex places entries =
    (length places ≡ 256) × ((state : ℕ) (none : List ℕ) → state < 256 → slice_index_or places state none ≡ places_of state entries)
