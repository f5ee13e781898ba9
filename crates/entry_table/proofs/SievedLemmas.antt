-- Sieves that the entries of a state narrow one by one.
use Rattle.std.proofs.Common.{◌≡◌, ◌∙◌, ◌↔◌, ℕ, ◌+◌, ◌<◌, ◌≤◌, ◌==◌, nat_lt, Bool, true, false, ◌&&◌, IsTrue, List, [], ◌∷◌, ◌++◌, length, Some, refl, sym, subst, ap, arith}
use Rattle.std.specs.List.{All, slice_get, slice_index_or}
use Rattle.std.proofs.lemmas.Bool.{and_parts, and_from, ltb-true, lt-ltb, eqb-true, eqb-false, true≢false}
use Rattle.std.proofs.lemmas.List.{get_or_push, get_or_append_left}
use Rattle.std.proofs.lemmas.Option.{same_Some, slice_get_within}
use Rattle.mg_model.specs.Configuration.{Configuration, IsWellFormed}
use Rattle.mg_model.specs.Entries.{Component, IsCovered}
use Rattle.configuration.specs.Config.{configuration_of}
use Rattle.configuration.specs.Packed.{Words, IsPacked}
use Rattle.configuration.specs.Regions.{ValueSet, is_in}
use Rattle.entry_table.specs.Sieves.{Sieves, IsFirstLeft, is_left}
use Rattle.entry_table.specs.Index.{places_of}
use Rattle.entry_table.specs.Listed.{Listed, Allows}
use Rattle.entry_table.specs.Places.{PlaceIncludes}
use Rattle.entry_table.specs.Sieved.{AllowsAt, AreSieved}
use Rattle.entry_table.proofs.PlaceLemmas.{of_state, first_listed, none_listed}
use Rattle.entry_table.proofs.RegionLemmas.{all_before, all_last, all_more, none_all}

-- ---- one list, component by component

-- a list is left where it was and some components allow the values; the others are as they were
pub record IsNarrowedBy (first new : Sieves) (number : ℕ) (components : List Component) : Type 0 where
  pub here : (w : Words) → IsPacked w
      → IsTrue (is_left new number w) ↔ (IsTrue (is_left first number w) × All (Allows (configuration_of w)) components)
  pub others : (other : ℕ) (w : Words) → (other ≡ number → ⊥) → is_left new other w ≡ is_left first other w
  pub count : new.count ≡ first.count

pub by_none : (first : Sieves) (number : ℕ) → IsNarrowedBy first first number []
by_none first number = record {
  here = λ w packed. (λ left. (left, none_all (Allows (configuration_of w))), λ both. both.0);
  others = λ other w apart. refl;
  count = refl;
}

pub by_one_more : (first old new : Sieves) (number : ℕ) (set : ValueSet) (components : List Component) (component : Component)
    → ((w : Words) → is_left new number w ≡ (is_left old number w && is_in set w))
    → ((other : ℕ) (w : Words) → (other ≡ number → ⊥) → is_left new other w ≡ is_left old other w) → new.count ≡ old.count
    → ((w : Words) → IsPacked w → IsTrue (is_in set w) ↔ Allows (configuration_of w) component)
    → IsNarrowedBy first old number components → IsNarrowedBy first new number (components ++ component ∷ [])
by_one_more first old new number set components component here others count is before = record {
  here = λ w packed.
      let were = before.here w packed in
      let asked = is w packed in
      let P = Allows (configuration_of w) in (
        λ left.
            let parts = and_parts (is_left old number w) (is_in set w) (sym (here w) ∙ left) in
            let both = were.0 parts.0 in
            (both.0, all_more P components component both.1 (asked.0 parts.1)),
        λ both. here w ∙ and_from (is_left old number w) (is_in set w) (were.1 (both.0, all_before P components component both.1))
            (asked.1 (all_last P components component both.1)),
      );
  others = λ other w apart. others other w apart ∙ before.others other w apart;
  count = count ∙ before.count;
}

-- ---- the lists of some entries, one by one

-- each list is left that there is, and of those below a number where its entry allows the values
pub record AreSievedBelow (entries : List Listed) (places : List ℕ) (sieves : Sieves) (i : ℕ) : Type 0 where
  pub left : (number : ℕ) (w : Words) → IsPacked w → IsTrue (is_left sieves number w)
      ↔ ((number < length places) × (number < i → AllowsAt entries places (configuration_of w) number))

pub none_sieved : (entries : List Listed) (places : List ℕ) (sieves : Sieves)
    → ((number : ℕ) (w : Words) → is_left sieves number w ≡ nat_lt number (length places)) → AreSievedBelow entries places sieves 0
none_sieved entries places sieves is = record {
  left = λ number w packed. (
    λ left. (ltb-true number (length places) (sym (is number w) ∙ left), λ below. absurd (omega arith)),
    λ both. is number w ∙ lt-ltb number (length places) both.0,
  );
}

pub one_sieved : (entries : List Listed) (places : List ℕ) (old new : Sieves) (i place : ℕ) (entry : Listed)
    → slice_get places i ≡ Some place → slice_get entries place ≡ Some entry
    → ((w : Words) → IsPacked w
    → IsTrue (is_left new i w) ↔ (IsTrue (is_left old i w) × All (Allows (configuration_of w)) entry.components))
    → ((other : ℕ) (w : Words) → (other ≡ i → ⊥) → is_left new other w ≡ is_left old other w)
    → AreSievedBelow entries places old i → AreSievedBelow entries places new (i + 1)
one_sieved entries places old new i place entry at_i at_place here others before =
    record { left = λ number w packed. by_test number w packed (number == i) refl }
  where
    the_entry : (c : Configuration) → AllowsAt entries places c i → All (Allows c) entry.components
    the_entry c allows =
        let same : allows.0 ≡ place = same_Some allows.0 place (sym allows.1.0 ∙ at_i) in
        let found : allows.1.1.0 ≡ entry =
        same_Some allows.1.1.0 entry (sym allows.1.1.1.0 ∙ ap (slice_get entries) same ∙ at_place) in
        subst (λ (e : Listed). All (Allows c) e.components) found allows.1.1.1.1

    this : (w : Words) → IsPacked w
        → IsTrue (is_left new i w) ↔ ((i < length places) × (i < i + 1 → AllowsAt entries places (configuration_of w) i))
    this w packed = (
      λ left.
          let both = (here w packed).0 left in
          (((before.left i w packed).0 both.0).0, λ below. (place, (at_i, (entry, (at_place, both.1))))),
      λ both. (here w packed).1 ((before.left i w packed).1 (both.0, λ below. absurd (omega arith)), the_entry (configuration_of w) (both.1 (omega arith))),
    )

    by_test : (number : ℕ) (w : Words) → IsPacked w → (t : Bool) → (number == i) ≡ t
        → IsTrue (is_left new number w) ↔ ((number < length places) × (number < i + 1 → AllowsAt entries places (configuration_of w) number))
    by_test number w packed true e =
        subst (λ n. IsTrue (is_left new n w) ↔ ((n < length places) × (n < i + 1 → AllowsAt entries places (configuration_of w) n)))
        (sym (eqb-true number i e)) (this w packed)
    by_test number w packed false e =
        let apart = eqb-false number i e in
        let were = before.left number w packed in (
          λ left.
              let both = were.0 (sym (others number w apart) ∙ left) in
              (both.0, λ below. both.1 (omega arith)),
          λ both. others number w apart ∙ were.1 (both.0, λ below. both.1 (omega arith)),
        )

pub all_sieved : (entries : List Listed) (places : List ℕ) (sieves : Sieves) (i : ℕ) → length places ≤ i → sieves.count ≡ length places
    → AreSievedBelow entries places sieves i → AreSieved entries places sieves
all_sieved entries places sieves i all count are = record {
  count = count;
  left = λ number w packed.
      let is = are.left number w packed in (
        λ left. (let both = is.0 left in both.1 (omega (arith, both.0))),
        λ allows.
            let within = slice_get_within places number allows.0 allows.1.0 in
            is.1 (within, λ below. allows),
      );
}

-- sieves that leave the same lists
pub same_sieved : (entries : List Listed) (places : List ℕ) (old new : Sieves) → ((number : ℕ) (w : Words) → is_left new number w ≡ is_left old number w)
    → new.count ≡ old.count → AreSieved entries places old → AreSieved entries places new
same_sieved entries places old new same count are = record {
  count = count ∙ are.count;
  left = λ number w packed.
      let is = are.left number w packed in
      (λ left. is.0 (sym (same number w) ∙ left), λ allows. same number w ∙ is.1 allows);
}

-- ---- the sieves of the states, one by one

pub one_state_more : (entries : List Listed) (found new : List Sieves) (i : ℕ) (sieves : Sieves) → length found ≡ i
    → new ≡ found ++ sieves ∷ [] → AreSieved entries (places_of i entries) sieves
    → ((state : ℕ) (none : Sieves) → state < i → AreSieved entries (places_of state entries) (slice_index_or found state none))
    → (state : ℕ) (none : Sieves) → state < i + 1 → AreSieved entries (places_of state entries) (slice_index_or new state none)
one_state_more entries found new i sieves long is last before state none below = by_test (state == i) refl
  where
    by_test : (t : Bool) → (state == i) ≡ t → AreSieved entries (places_of state entries) (slice_index_or new state none)
    by_test true e =
        let same = eqb-true state i e in
        subst (λ (s : Sieves). AreSieved entries (places_of state entries) s)
        (sym (ap (λ (xs : List Sieves). slice_index_or xs state none) is ∙ get_or_push found sieves none state (long ∙ sym same)))
        (subst (λ n. AreSieved entries (places_of n entries) sieves) (sym same) last)
    by_test false e =
        let apart = eqb-false state i e in
        let less : state < i = omega arith in
        subst (λ (s : Sieves). AreSieved entries (places_of state entries) s)
        (sym (ap (λ (xs : List Sieves). slice_index_or xs state none) is
        ∙ get_or_append_left found (sieves ∷ []) none state (omega (arith, long, less))))
        (before state none less)

-- ---- what is left for a well-formed configuration

module _ (entries : List Listed) (sieves : Sieves) (w : Words) (packed : IsPacked w) (formed : IsWellFormed (configuration_of w))
    (are : AreSieved entries (places_of (configuration_of w).state entries) sieves) where
  abbrev places : List ℕ
  places = places_of (configuration_of w).state entries

  pub left_within : (number : ℕ) → is_left sieves number w ≡ true → number < length places
  left_within number left =
      let allows = (are.left number w packed).0 left in
      slice_get_within places number allows.0 allows.1.0

  pub left_includes : (number place : ℕ) → is_left sieves number w ≡ true → slice_get places number ≡ Some place
      → PlaceIncludes entries (configuration_of w) place
  left_includes number place left at_number =
      let allows = (are.left number w packed).0 left in
      let entry = allows.1.1.0 in
      let same : allows.0 ≡ place = same_Some allows.0 place (sym allows.1.0 ∙ at_number) in
      let at_place : slice_get entries place ≡ Some entry = sym (ap (slice_get entries) same) ∙ allows.1.1.1.0 in
      let there = of_state (configuration_of w).state entries 0 number place at_number in
      let at_k : slice_get entries there.k ≡ Some entry = ap (slice_get entries) (sym (there.is ∙ omega arith)) ∙ at_place in
      let one : there.entry ≡ entry = same_Some there.entry entry (sym there.at ∙ at_k) in
      (entry, (at_place, (sym (sym (ap (λ (e : Listed). e.state) one) ∙ there.state_is), formed, allows.1.1.1.1)))

  included_is_left : (number place : ℕ) → slice_get places number ≡ Some place → PlaceIncludes entries (configuration_of w) place
      → is_left sieves number w ≡ true
  included_is_left number place at includes = (are.left number w packed).1 (place, (at, (includes.0, (includes.1.0, includes.1.1.2))))

  pub first_includes : (number place : ℕ) → IsFirstLeft sieves w number → slice_get places number ≡ Some place
      → (other : ℕ) → other < place → PlaceIncludes entries (configuration_of w) other → ⊥
  first_includes number place first at =
      first_listed entries (configuration_of w) number place at
      (λ m below p at_m includes. true≢false (sym (included_is_left m p at_m includes) ∙ first.before m below))

  pub none_includes : ((number : ℕ) → is_left sieves number w ≡ false) → IsCovered entries (configuration_of w) → ⊥
  none_includes none =
      none_listed entries (configuration_of w) (length places) (omega arith)
      (λ m below p at_m includes. true≢false (sym (included_is_left m p at_m includes) ∙ none m))
