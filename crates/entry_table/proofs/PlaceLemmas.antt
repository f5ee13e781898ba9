-- Where the entries of a state stand: each is listed, what is listed is one of them, and the places rise.
use Rattle.std.proofs.Common.{◌≡◌, ◌∙◌, ℕ, zero, suc, ◌==◌, ◌+◌, ◌≤◌, ◌<◌, Bool, true, false, List, [], ◌∷◌, length, Some, refl, subst, ap, arith, sym, nat_lt}
use Rattle.std.specs.List.{All, slice_get, slice_index_or}
use Rattle.std.proofs.lemmas.Bool.{eqb-true, eqb-false, eq-eqb, ltb-true, ltb-false}
use Rattle.std.proofs.lemmas.Option.{same_Some, none-some, slice_get_within, slice_get-get_or}
use Rattle.entry_table.specs.Index.{places_from, places_of}
use Rattle.entry_table.specs.Listed.{Listed}
use Rattle.entry_table.specs.Places.{PlaceIncludes}
use Rattle.entry_table.specs.WithAll.{PlaceAllowsEach}
use Rattle.configuration.specs.Packed.{Words}
use Rattle.mg_model.specs.Configuration.{Configuration}
use Rattle.mg_model.specs.Entries.{IsCovered}

-- an entry of the state is listed
abbrev pub IsListed : ℕ → List Listed → ℕ → ℕ → Type 0
IsListed state entries n place = (number : ℕ) × (slice_get (places_from n state entries) number ≡ Some place)

pub is_listed : (state : ℕ) (entries : List Listed) (n k : ℕ) (entry : Listed) → slice_get entries k ≡ Some entry
    → entry.state ≡ state → IsListed state entries n (n + k)
is_listed state [] n k entry at same = absurd (none-some entry at)
is_listed state (other ∷ more) n zero entry at same =
    let first : other ≡ entry = same_Some other entry at in
    let test : (other.state == state) ≡ true = eq-eqb other.state state (ap (λ (e : Listed). e.state) first ∙ same) in
    rw test (0, ap (λ (m : ℕ). Some m) (omega arith))
is_listed state (other ∷ more) n (suc k) entry at same =
    by_test (other.state == state) refl (subst (IsListed state more (n + 1)) (omega arith) (is_listed state more (n + 1) k entry at same))
  where
    by_test : (t : Bool) → (other.state == state) ≡ t → IsListed state more (n + 1) (n + suc k) → IsListed state (other ∷ more) n (n + suc k)
    by_test true e rest = rw e (suc rest.0, rest.1)
    by_test false e rest = rw e rest

-- what is listed is the place of an entry of the state
pub record IsOfState (state : ℕ) (entries : List Listed) (n place : ℕ) : Type 0 where
  pub k : ℕ
  pub entry : Listed
  pub is : place ≡ n + k
  pub at : slice_get entries k ≡ Some entry
  pub state_is : entry.state ≡ state

abbrev AreOfState : ℕ → List Listed → ℕ → ℕ → Type 0
AreOfState state entries n place = (number : ℕ) → slice_get (places_from n state entries) number ≡ Some place → IsOfState state entries n place

pub of_state : (state : ℕ) (entries : List Listed) (n number place : ℕ) → slice_get (places_from n state entries) number ≡ Some place
    → IsOfState state entries n place
of_state state [] n number place at = absurd (none-some place at)
of_state state (other ∷ more) n number place at =
    by_test (λ m there. of_state state more (n + 1) m place there) (other.state == state) refl
  where
    later : IsOfState state more (n + 1) place → IsOfState state (other ∷ more) n place
    later there = record {
      k = suc there.k;
      entry = there.entry;
      is = omega (arith, there.is);
      at = there.at;
      state_is = there.state_is;
    }

    listed : AreOfState state more (n + 1) place → (m : ℕ) → (other.state == state) ≡ true → slice_get (n ∷ places_from (n + 1) state more) m ≡ Some place
        → IsOfState state (other ∷ more) n place
    listed rest zero e here = record {
      k = 0;
      entry = other;
      is = omega (arith, same_Some n place here);
      at = refl;
      state_is = eqb-true other.state state e;
    }
    listed rest (suc m) e there = later (rest m there)

    by_test : AreOfState state more (n + 1) place → (t : Bool) → (other.state == state) ≡ t → IsOfState state (other ∷ more) n place
    by_test rest true e = listed rest number e (rw e at at)
    by_test rest false e = later (rest number (rw e at at))

pub places_within : (state : ℕ) (entries : List Listed) → All (λ place. place < length entries) (places_of state entries)
places_within state entries number none within =
    let there = of_state state entries 0 number (slice_index_or (places_of state entries) number none)
    (slice_get-get_or (places_of state entries) number none within) in
    omega (arith, there.is, slice_get_within entries there.k there.entry there.at)

-- what is listed later stands later
abbrev Rise : ℕ → List Listed → ℕ → ℕ → ℕ → Type 0
Rise state entries n one other =
    (first later : ℕ) → first ≤ later → slice_get (places_from n state entries) first ≡ Some one
    → slice_get (places_from n state entries) later ≡ Some other → one ≤ other

pub rising : (state : ℕ) (entries : List Listed) (n first later one other : ℕ) → first ≤ later
    → slice_get (places_from n state entries) first ≡ Some one → slice_get (places_from n state entries) later ≡ Some other → one ≤ other
rising state [] n first later one other order at_one at_other = absurd (none-some one at_one)
rising state (entry ∷ more) n first later one other order at_one at_other =
    by_test (λ i j before at_i at_j. rising state more (n + 1) i j one other before at_i at_j) (entry.state == state) refl
  where
    listed : Rise state more (n + 1) one other → (i j : ℕ) → i ≤ j → slice_get (n ∷ places_from (n + 1) state more) i ≡ Some one
        → slice_get (n ∷ places_from (n + 1) state more) j ≡ Some other → one ≤ other
    listed rest zero zero before at_i at_j = omega (arith, same_Some n one at_i, same_Some n other at_j)
    listed rest zero (suc j) before at_i at_j =
        let there = of_state state more (n + 1) j other at_j in
        omega (arith, same_Some n one at_i, there.is)
    listed rest (suc i) zero before at_i at_j = absurd (omega arith)
    listed rest (suc i) (suc j) before at_i at_j = rest i j (omega arith) at_i at_j

    by_test : Rise state more (n + 1) one other → (t : Bool) → (entry.state == state) ≡ t → one ≤ other
    by_test rest true e = listed rest first later order (rw e at at_one) (rw e at at_other)
    by_test rest false e = rest first later order (rw e at at_one) (rw e at at_other)

-- ---- which entries of a state have something

module _ (entries : List Listed) (state : ℕ) (P : ℕ → Type 0) (listed : (place : ℕ) → P place → IsListed state entries 0 place) where
  abbrev its_places : List ℕ
  its_places = places_of state entries

  -- none of those that are listed before a number has it
  abbrev pub NoneBefore : ℕ → Type 0
  NoneBefore n = (number : ℕ) → number < n → (place : ℕ) → slice_get its_places number ≡ Some place → P place → ⊥

  pub none_below : (n place : ℕ) → slice_get its_places n ≡ Some place → NoneBefore n → (other : ℕ) → other < place → P other → ⊥
  none_below n place at none other below has = by_test (listed other has) (nat_lt (listed other has).0 n) refl
    where
      by_test : (there : (number : ℕ) × (slice_get its_places number ≡ Some other)) → (t : Bool) → nat_lt there.0 n ≡ t → ⊥
      by_test there true e = none there.0 (ltb-true there.0 n e) other there.1 has
      by_test there false e =
          let order = rising state entries 0 n there.0 place other (ltb-false there.0 n e) at there.1 in
          absurd (omega arith)

  pub none_at_all : (n : ℕ) → length its_places ≤ n → NoneBefore n → (place : ℕ) → P place → ⊥
  none_at_all n all none place has =
      let there = listed place has in
      let within = slice_get_within its_places there.0 place there.1 in
      none there.0 (omega (arith, within, all)) place there.1 has

  -- one more was asked
  pub none_before_next : (n item : ℕ) → slice_get its_places n ≡ Some item → (P item → ⊥) → NoneBefore n → NoneBefore (n + 1)
  none_before_next n item at hasnt none number below place at_number has = by_test (number == n) refl
    where
      by_test : (t : Bool) → (number == n) ≡ t → ⊥
      by_test true e =
          let same : place ≡ item =
          same_Some place item (sym at_number ∙ ap (slice_get its_places) (eqb-true number n e) ∙ at) in
          hasnt (subst P same has)
      by_test false e =
          let apart = eqb-false number n e in
          none number (omega arith) place at_number has

-- an entry of the state is listed with its place
pub listed_at : (entries : List Listed) (state place : ℕ) (entry : Listed) → slice_get entries place ≡ Some entry → entry.state ≡ state
    → IsListed state entries 0 place
listed_at entries state place entry at same = subst (IsListed state entries 0) zero_more (is_listed state entries 0 place entry at same)
  where
    zero_more : 0 + place ≡ place
    zero_more = omega arith

-- an entry that allows each of some configurations is one of its state
pub allowing_is_listed : (entries : List Listed) (state : ℕ) (configs : List Words) (place : ℕ) → PlaceAllowsEach entries state configs place
    → IsListed state entries 0 place
allowing_is_listed entries state configs place allows = listed_at entries state place allows.0 allows.1.0 allows.1.1.0

-- ---- which entries have a configuration

module _ (entries : List Listed) (c : Configuration) where
  abbrev places : List ℕ
  places = places_of c.state entries

  -- an entry that has it is one of its state
  pub included_is_listed : (place : ℕ) → PlaceIncludes entries c place → (number : ℕ) × (slice_get places number ≡ Some place)
  included_is_listed place includes = listed_at entries c.state place includes.0 includes.1.0 (sym includes.1.1.0)

  -- none of those that are listed before a number has it
  abbrev pub NoneListedBefore : ℕ → Type 0
  NoneListedBefore n = (number : ℕ) → number < n → (place : ℕ) → slice_get places number ≡ Some place → PlaceIncludes entries c place → ⊥

  pub first_listed : (n place : ℕ) → slice_get places n ≡ Some place → NoneListedBefore n
      → (other : ℕ) → other < place → PlaceIncludes entries c other → ⊥
  first_listed = none_below entries c.state (PlaceIncludes entries c) included_is_listed

  pub none_listed : (n : ℕ) → length places ≤ n → NoneListedBefore n → IsCovered entries c → ⊥
  none_listed n all none covered =
      let entry = covered.0 in
      let k = covered.1.0.0 in
      let at : slice_get entries k ≡ Some entry =
      slice_get-get_or entries k entry covered.1.0.1 ∙ ap (λ (e : Listed). Some e) covered.1.0.2 in
      none_at_all entries c.state (PlaceIncludes entries c) included_is_listed n all none k (entry, (at, covered.1.1))

  -- one more was asked
  pub one_more_asked : (n item : ℕ) → slice_get places n ≡ Some item → (PlaceIncludes entries c item → ⊥) → NoneListedBefore n
      → NoneListedBefore (n + 1)
  one_more_asked = none_before_next entries c.state (PlaceIncludes entries c) included_is_listed
