-- A configuration that the entry at some place has is covered.
use Rattle.std.proofs.Common.{◌↔◌, ℕ, IsTrue, List, Option, Some, None, refl}
use Rattle.std.specs.Option.{IfSome, IfNone, is_some}
use Rattle.std.proofs.lemmas.Option.{slice_get_within, get_or_from_slice_get}
use Rattle.mg_model.specs.Configuration.{Configuration}
use Rattle.mg_model.specs.Entries.{Entry, IsCovered}
use Rattle.entry_table.specs.Places.{PlaceIncludes}

pub place_covers : (entries : List Entry) (c : Configuration) (place : ℕ) → PlaceIncludes entries c place → IsCovered entries c
place_covers entries c place includes =
    let entry = includes.0 in
    let at = includes.1.0 in
    (entry, ((place, slice_get_within entries place entry at, get_or_from_slice_get entries place entry entry at), includes.1.1))

-- where a place is found that of an entry that has it, and where none is found none has it
pub found_covers : (entries : List Entry) (c : Configuration) (found : Option ℕ) → IfSome found (PlaceIncludes entries c)
    → IfNone found (IsCovered entries c → ⊥) → IsTrue (is_some found) ↔ IsCovered entries c
found_covers entries c (Some place) has none = (λ yes. place_covers entries c place has, λ covered. refl)
found_covers entries c None has none = (λ bad. absurd (cc), λ covered. absurd (none covered))
