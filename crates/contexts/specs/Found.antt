-- The search for a path of media by the ephemerals that it finds: those at which media arrives, each noted once. A reader should
-- check that only what media may arrive at is noted, and that nothing is left out where the search has gone on from all of them.
use Rattle.std.specs.Prelude.{◌≡◌, ℕ, ◌<◌, Bool, true, false, not, ◌&&◌, if◌then◌else◌, IsTrue, List, [], ◌∷◌, ◌++◌, length, Option, Some, None, ◌⊎◌}
use Rattle.mg_names.specs.declared.identifiers.TermId.{TermId}
use Rattle.mg_names.specs.declared.identifiers.TermId.TheVariants.{Eph}
use Rattle.mg_model.specs.Board.{Board, same_term}
use Rattle.mg_model.specs.Members.{is_among}
use Rattle.mg_model.specs.Media.{hops, crosses}

-- ---- what was found

pub record FoundValue : Type 0 where
  -- those from which the search has gone on, in the order in which they were found
  pub done : List ℕ
  -- those after them, from which it is still to go on
  pub ahead : List ℕ

abbrev pub all_found : FoundValue → List ℕ
all_found found = found.done ++ found.ahead

-- one more, unless it was found before
abbrev pub noted : ℕ → FoundValue → FoundValue
noted i found = if is_among (all_found found) i then found else record { done = found.done; ahead = found.ahead ++ i ∷ [] }

-- no number stands twice
abbrev pub all_differ : List ℕ → Bool
all_differ [] = true
all_differ (i ∷ more) = not (is_among more i) && all_differ more

-- one more doesn't fit
pub record IsFull (most : ℕ) (i : ℕ) (found : FoundValue) : Type 0 where
  pub many : length (all_found found) ≡ most
  pub differ : IsTrue (all_differ (i ∷ all_found found))

abbrev pub noted_if : Option ℕ → FoundValue → FoundValue
noted_if None found = found
noted_if (Some i) found = noted i found

abbrev pub IsFullFor : ℕ → Option ℕ → FoundValue → Type 0
IsFullFor most None found = ⊥
IsFullFor most (Some i) found = IsFull most i found

-- the first one ahead, from which the search has now gone on
abbrev pub IsTaken : FoundValue → FoundValue → Option ℕ → Type 0
IsTaken old new None = (old.ahead ≡ []) × (new ≡ old)
IsTaken old new (Some i) = (old.ahead ≡ i ∷ new.ahead) × (new.done ≡ old.done ++ i ∷ [])

-- ---- where media arrives

-- media arrives at an ephemeral from a termination by one hop and one crossing
pub record ArrivesNext (b : Board) (from : TermId) (i : ℕ) : Type 0 where
  pub by : ℕ
  pub hop : hops b from (Eph by) ≡ true
  pub crossing : crosses b by i ≡ true

-- media goes from a termination over these crossings, in order, with a hop before each, and is then at an ephemeral
abbrev pub arrives_over : Board → TermId → List (ℕ × ℕ) → ℕ → Bool
arrives_over b from [] i = same_term from (Eph i)
arrives_over b from (crossing ∷ more) i =
    hops b from (Eph crossing.0) && crosses b crossing.0 crossing.1 && arrives_over b (Eph crossing.1) more i

pub record MayArrive (b : Board) (from : TermId) (i : ℕ) : Type 0 where
  pub crossings : List (ℕ × ℕ)
  pub goes : IsTrue (arrives_over b from crossings i)

-- ---- the search

-- each ephemeral at which media arrives next is found, and what is new is such a one
pub record IsSpread (b : Board) (from : TermId) (old new : FoundValue) : Type 0 where
  pub done : new.done ≡ old.done
  pub kept : (i : ℕ) → is_among (all_found old) i ≡ true → is_among (all_found new) i ≡ true
  pub arrived : (i : ℕ) → ArrivesNext b from i → is_among (all_found new) i ≡ true
  pub only : (i : ℕ) → is_among (all_found new) i ≡ true → (is_among (all_found old) i ≡ true) ⊎ ArrivesNext b from i

-- with the ephemerals at which media arrives next there are more than this number of them
pub record IsOverfull (b : Board) (most : ℕ) (from : TermId) (old : FoundValue) : Type 0 where
  pub numbers : List ℕ
  pub more : most < length numbers
  pub differ : IsTrue (all_differ numbers)
  pub only : (i : ℕ) → is_among numbers i ≡ true → (is_among (all_found old) i ≡ true) ⊎ ArrivesNext b from i

-- media may arrive at more than this number of ephemerals
pub record ArrivesAtMore (b : Board) (most : ℕ) (from : TermId) : Type 0 where
  pub numbers : List ℕ
  pub more : most < length numbers
  pub differ : IsTrue (all_differ numbers)
  pub sound : (i : ℕ) → is_among numbers i ≡ true → MayArrive b from i

-- media doesn't hop from a termination to the aim, and each ephemeral at which it arrives next is found
pub record IsExplored (b : Board) (to : TermId) (found : List ℕ) (from : TermId) : Type 0 where
  pub misses : hops b from to ≡ false
  pub arrived : (i : ℕ) → ArrivesNext b from i → is_among found i ≡ true

-- so far the start and all from which the search has gone on are settled, and media may arrive at each one found
pub record IsClosed (b : Board) (from to : TermId) (found : FoundValue) : Type 0 where
  pub start : IsExplored b to (all_found found) from
  pub done : (i : ℕ) → is_among found.done i ≡ true → IsExplored b to (all_found found) (Eph i)
  pub sound : (i : ℕ) → is_among (all_found found) i ≡ true → MayArrive b from i
