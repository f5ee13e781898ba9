-- What is left for each of some configurations of one state: the entries that allow each.
use Rattle.std.proofs.Common.{◌≡◌, ◌∙◌, ℕ, zero, suc, ◌<◌, Bool, true, false, nat_lt, List, [], ◌∷◌, length, Some, Contains, refl, sym, ap, subst, arith}
use Rattle.std.specs.List.{All, list_all, slice_get}
use Rattle.std.proofs.lemmas.Bool.{and_parts, and_from, ltb-true, lt-ltb, true≢false}
use Rattle.std.proofs.lemmas.Option.{same_Some, slice_get_within}
use Rattle.configuration.specs.Config.{configuration_of}
use Rattle.configuration.specs.Packed.{Words, IsPacked}
use Rattle.entry_table.specs.Sieves.{Sieves, IsFirstLeftForEach, is_left, is_left_for_each}
use Rattle.entry_table.specs.Index.{places_of}
use Rattle.entry_table.specs.Listed.{Listed, Allows}
use Rattle.entry_table.specs.Sieved.{AllowsAt, AreSieved}
use Rattle.entry_table.specs.WithAll.{PlaceAllowsEach}
use Rattle.entry_table.proofs.PlaceLemmas.{allowing_is_listed, none_at_all, none_below, of_state}

module _ {X : Type 0} (test : X → Bool) where
  each_passes : (xs : List X) → list_all test xs ≡ true → (x : X) → Contains xs x → test x ≡ true
  each_passes [] all x has = absurd (omega (arith, has.1))
  each_passes (y ∷ xs) all x (zero, within, is) = ap test (sym is) ∙ (and_parts (test y) (list_all test xs) all).0
  each_passes (y ∷ xs) all x (suc k, within, is) =
      each_passes xs (and_parts (test y) (list_all test xs) all).1 x (k, omega (arith, within), is)

  all_pass : (xs : List X) → ((x : X) → Contains xs x → test x ≡ true) → list_all test xs ≡ true
  all_pass [] each = refl
  all_pass (y ∷ xs) each =
      and_from (test y) (list_all test xs) (each y (0, omega arith, refl)) (all_pass xs (λ x has. each x (suc has.0, omega (arith, has.1), has.2)))

module _ (entries : List Listed) (sieves : Sieves) (state : ℕ) (ws : List Words) (packed : (w : Words) → Contains ws w → IsPacked w)
    (are : AreSieved entries (places_of state entries) sieves) where
  abbrev places : List ℕ
  places = places_of state entries

  there_is : (number : ℕ) → is_left_for_each sieves ws number ≡ true → nat_lt number sieves.count ≡ true
  unfolding is_left_for_each
  there_is number left = (and_parts (nat_lt number sieves.count) (list_all (is_left sieves number) ws) left).0

  left_each : (number : ℕ) → is_left_for_each sieves ws number ≡ true → (w : Words) → Contains ws w → is_left sieves number w ≡ true
  unfolding is_left_for_each
  left_each number left =
      each_passes (is_left sieves number) ws (and_parts (nat_lt number sieves.count) (list_all (is_left sieves number) ws) left).1

  is_left_from : (number : ℕ) → nat_lt number sieves.count ≡ true → ((w : Words) → Contains ws w → is_left sieves number w ≡ true)
      → is_left_for_each sieves ws number ≡ true
  unfolding is_left_for_each
  is_left_from number there each =
      and_from (nat_lt number sieves.count) (list_all (is_left sieves number) ws) there (all_pass (is_left sieves number) ws each)

  pub each_left_within : (number : ℕ) → is_left_for_each sieves ws number ≡ true → number < length places
  each_left_within number left = omega (arith, ltb-true number sieves.count (there_is number left), are.count)

  pub each_left_allows : ((w : Words) → Contains ws w → (configuration_of w).state ≡ state) → (number place : ℕ)
      → is_left_for_each sieves ws number ≡ true → slice_get places number ≡ Some place → PlaceAllowsEach entries state ws place
  each_left_allows states number place left at_number =
      let there = of_state state entries 0 number place at_number in
      let at : slice_get entries place ≡ Some there.entry = ap (slice_get entries) (there.is ∙ omega arith) ∙ there.at in (
        there.entry,
        (
          at,
          (
            there.state_is,
            λ w has. (
              states w has ∙ sym there.state_is,
              allowed there.entry at w ((are.left number w (packed w has)).0 (left_each number left w has)),
            ),
          ),
        ),
      )
    where
      allowed : (entry : Listed) → slice_get entries place ≡ Some entry → (w : Words) → AllowsAt entries places (configuration_of w) number
          → All (Allows (configuration_of w)) entry.components
      allowed entry at w allows =
          let same : allows.0 ≡ place = same_Some allows.0 place (sym allows.1.0 ∙ at_number) in
          let one : allows.1.1.0 ≡ entry =
          same_Some allows.1.1.0 entry (sym allows.1.1.1.0 ∙ ap (slice_get entries) same ∙ at) in
          subst (λ (e : Listed). All (Allows (configuration_of w)) e.components) one allows.1.1.1.1

  allowing_is_left : (number place : ℕ) → slice_get places number ≡ Some place → PlaceAllowsEach entries state ws place
      → is_left_for_each sieves ws number ≡ true
  allowing_is_left number place at allows =
      is_left_from number (lt-ltb number sieves.count (omega (arith, slice_get_within places number place at, are.count)))
      (λ w has. (are.left number w (packed w has)).1 (place, (at, (allows.0, (allows.1.0, (allows.1.1.1 w has).1)))))

  pub first_allows : (number place : ℕ) → IsFirstLeftForEach sieves ws number → slice_get places number ≡ Some place
      → (other : ℕ) → other < place → PlaceAllowsEach entries state ws other → ⊥
  first_allows number place first at =
      none_below entries state (PlaceAllowsEach entries state ws) (allowing_is_listed entries state ws) number place at
      (λ m below p at_m allows. true≢false (sym (allowing_is_left m p at_m allows) ∙ first.before m below))

  pub none_allows : ((number : ℕ) → is_left_for_each sieves ws number ≡ false) → (place : ℕ) → PlaceAllowsEach entries state ws place → ⊥
  none_allows none =
      none_at_all entries state (PlaceAllowsEach entries state ws) (allowing_is_listed entries state ws) (length places) (omega arith)
      (λ m below p at_m allows. true≢false (sym (allowing_is_left m p at_m allows) ∙ none m))

-- an entry that allows each is of their state
pub none_of_other_state : (entries : List Listed) (state : ℕ) (ws : List Words)
    → (((w : Words) → Contains ws w → (configuration_of w).state ≡ state) → ⊥) → (place : ℕ) → PlaceAllowsEach entries state ws place → ⊥
none_of_other_state entries state ws others place allows = others (λ w has. (allows.1.1.1 w has).0 ∙ allows.1.1.0)
