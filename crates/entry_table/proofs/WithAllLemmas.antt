-- Entries that allow each of some configurations, by their places.
use Rattle.std.proofs.Common.{◌≡◌, ◌∙◌, ℕ, ◌<◌, nat_lt, true, false, List, length, Some, Contains, refl, sym, subst, ap}
use Rattle.std.specs.List.{slice_get, slice_index_or}
use Rattle.std.proofs.lemmas.Bool.{ltb-true, true≢false, lt-ltb}
use Rattle.std.proofs.lemmas.Option.{same_Some, slice_get_read, slice_get_within, slice_get-get_or}
use Rattle.configuration.specs.Packed.{Words}
use Rattle.entry_table.specs.Listed.{Listed}
use Rattle.entry_table.specs.WithAll.{AllowsEach, IsFirstWithAll, PlaceAllowsEach}

-- the item that is found at a place stands there
pub found_at : (items entries : List Listed) (place : ℕ) (entry : Listed) → items ≡ entries → true ≡ nat_lt place (length items)
    → entry ≡ slice_index_or items place entry → slice_get entries place ≡ Some entry
found_at items entries place entry same within is =
    subst (λ (xs : List Listed). slice_get xs place ≡ Some entry) same
    (slice_get_read items (length items) place entry refl (ltb-true place (length items) (sym within)) is)

-- past the last place nothing stands
pub none_past : (items entries : List Listed) (place : ℕ) (entry : Listed) → items ≡ entries → false ≡ nat_lt place (length items)
    → slice_get entries place ≡ Some entry → ⊥
none_past items entries place entry same past at =
    let here : slice_get items place ≡ Some entry = subst (λ (xs : List Listed). slice_get xs place ≡ Some entry) (sym same) at in
    true≢false (sym (lt-ltb place (length items) (slice_get_within items place entry here)) ∙ sym past)

-- what stands at a place is one of the entries
pub contained_at : (entries : List Listed) (place : ℕ) (entry : Listed) → slice_get entries place ≡ Some entry → Contains entries entry
contained_at entries place entry at =
    let within = slice_get_within entries place entry at in
    (place, within, same_Some (slice_index_or entries place entry) entry (sym (slice_get-get_or entries place entry within) ∙ at))

module _ (entries : List Listed) (state : ℕ) (configs : List Words) where
  -- the entry at a place that allows each
  pub allows_here : (place : ℕ) (entry : Listed) → slice_get entries place ≡ Some entry → PlaceAllowsEach entries state configs place
      → AllowsEach configs entry
  allows_here place entry at allows =
      let same : allows.0 ≡ entry = same_Some allows.0 entry (sym allows.1.0 ∙ at) in
      subst (AllowsEach configs) same allows.1.1.1

  pub first_here : (place : ℕ) (entry : Listed) → slice_get entries place ≡ Some entry → PlaceAllowsEach entries state configs place
      → ((other : ℕ) → other < place → PlaceAllowsEach entries state configs other → ⊥) → IsFirstWithAll entries state configs entry
  first_here place entry at allows before =
      let same : allows.0 ≡ entry = same_Some allows.0 entry (sym allows.1.0 ∙ at) in
      record { place = place; at = at; of_state = sym (ap (λ (e : Listed). e.state) same) ∙ allows.1.1.0; before = before }

  pub none_anywhere : ((place : ℕ) → PlaceAllowsEach entries state configs place → ⊥) → (entry : Listed) → Contains entries entry
      → entry.state ≡ state → AllowsEach configs entry → ⊥
  none_anywhere none entry has of_state each =
      none has.0 (entry, (slice_get-get_or entries has.0 entry has.1 ∙ ap (λ (e : Listed). Some e) has.2, (of_state, each)))
