-- The entries of `specs/EntriesOfTwo` are entries of a script of two lines without ephemerals and with at most one context; a configuration
-- that reads so is in such an entry, and so is each point of one, where its link is listed.
use Rattle.std.proofs.Common.{◌≡◌, ◌<◌, ◌==◌, ◌++◌, ℕ, zero, suc, Bool, true, false, if◌then◌else◌, List, [], ◌∷◌, length, Option, Some, None, refl, sym, ap, subst, arith, true≢false}
use Rattle.std.proofs.lemmas.List.Elements.{All-append, All-cons, All-nil, All-from_recursion}
use Rattle.std.specs.Prelude.{◌||◌, Contains}
use Rattle.std.specs.List.{All}
use Rattle.mg_examples.proofs.Words.{ContextValue, Free, Live, Stale, Mode, LinkPhase, EventsName, Termination, Ephemeral, Spot, Configuration, IsWellFormed}
use Rattle.mg_examples.proofs.Words.{is_live, is_same, stands_in, value_of, with_pair, Entry, IsCovered, numbered, links, Script, unused, IsEntryOf, HasOne}
use Rattle.mg_examples.proofs.Words.{IsContext, is_contexts, Allows, spots, modes, events, plays, contexts, cuts, IsSlot, is_spots, is_modes, is_events}
use Rattle.mg_examples.proofs.Words.{is_plays, is_cuts}
use Rattle.mg_model.specs.declared.commands.Termination.TheVariants.{Line}
use Rattle.mg_model.proofs.Cases.{same_turned}
use Rattle.mg_examples.specs.EntriesOfTwo.{Place, null, contexts_of, list_at, line_of, no_cuts, entry_of}
use Rattle.mg_examples.proofs.PointFacts.{below_one, below_two, plain_formed, pair_uncut}

-- ---- they are entries

pub none_below : (k : ℕ) → k < 0 → ⊥
none_below k within = omega (arith, within)

module _ (state : ℕ) (link : List LinkPhase) (list : EventsName) (first second : Place) (value : Option ContextValue) where
  abbrev entry : Entry
  entry = entry_of state link list first second value

  line_spot : (i : ℕ) → i < 2 → HasOne entry (is_spots (Line i))
  line_spot = below_two (λ i. HasOne entry (is_spots (Line i))) (spots (Line 0) (first.spot ∷ []), (1, omega (arith), refl), refl)
      (spots (Line 1) (second.spot ∷ []), (5, omega (arith), refl), refl)

  line_mode : (i : ℕ) → i < 2 → HasOne entry (is_modes (Line i))
  line_mode = below_two (λ i. HasOne entry (is_modes (Line i))) (modes (Line 0) (first.mode ∷ []), (2, omega (arith), refl), refl)
      (modes (Line 1) (second.mode ∷ []), (6, omega (arith), refl), refl)

  line_events : (i : ℕ) → i < 2 → HasOne entry (is_events i)
  line_events = below_two (λ i. HasOne entry (is_events i)) (events 0 (list_at first list ∷ []), (3, omega (arith), refl), refl)
      (events 1 (list_at second list ∷ []), (7, omega (arith), refl), refl)

  line_plays : (i : ℕ) → i < 2 → HasOne entry (is_plays i)
  line_plays = below_two (λ i. HasOne entry (is_plays i)) (plays 0 (false ∷ []), (4, omega (arith), refl), refl)
      (plays 1 (false ∷ []), (8, omega (arith), refl), refl)

-- the cut from the first line to the second, and the one back
cut_to : (state : ℕ) (link : List LinkPhase) (list : EventsName) (first second : Place) (value : Option ContextValue)
    → HasOne (entry_of state link list first second value) (is_cuts (Line 0) (Line 1))
cut_to state link list first second None = (cuts (Line 0) (Line 1) (false ∷ []), (9, omega (arith), refl), refl)
cut_to state link list first second (Some value) = (cuts (Line 0) (Line 1) (false ∷ []), (10, omega (arith), refl), refl)

cut_from : (state : ℕ) (link : List LinkPhase) (list : EventsName) (first second : Place) (value : Option ContextValue)
    → HasOne (entry_of state link list first second value) (is_cuts (Line 1) (Line 0))
cut_from state link list first second None = (cuts (Line 1) (Line 0) (false ∷ []), (10, omega (arith), refl), refl)
cut_from state link list first second (Some value) = (cuts (Line 1) (Line 0) (false ∷ []), (11, omega (arith), refl), refl)

line_cut : (state : ℕ) (link : List LinkPhase) (list : EventsName) (first second : Place) (value : Option ContextValue) (i j : ℕ) → i < 2 → j < 2
    → (i == j) ≡ false → HasOne (entry_of state link list first second value) (is_cuts (Line i) (Line j))
line_cut state link list first second value zero zero left right differ = absurd (true≢false differ)
line_cut state link list first second value zero (suc zero) left right differ = cut_to state link list first second value
line_cut state link list first second value (suc zero) zero left right differ = cut_from state link list first second value
line_cut state link list first second value (suc zero) (suc zero) left right differ = absurd (true≢false differ)
line_cut state link list first second value (suc (suc i)) j left right differ = absurd (let out : suc (suc i) < 2 = left in omega (arith, out))
line_cut state link list first second value i (suc (suc j)) left right differ = absurd (let out : suc (suc j) < 2 = right in omega (arith, out))

-- where the script has one context
pub of_context : (state : ℕ) (link : List LinkPhase) (list : EventsName) (first second : Place) (value : ContextValue) (j : ℕ) → j < 1
    → HasOne (entry_of state link list first second (Some value)) (is_contexts j)
of_context state link list first second value =
    below_one (λ j. HasOne (entry_of state link list first second (Some value)) (is_contexts j)) (contexts 0 (value ∷ []), (9, omega (arith), refl), refl)

pub record HasTwoLines (script : Script) : Type 0 where
  pub lines : length script.lines ≡ 2
  pub ephemerals : length script.ephemerals ≡ 0

module _ (script : Script) (two : HasTwoLines script) where
  line_below : (i : ℕ) → i < length script.lines → i < 2
  line_below i within = subst (λ n. i < n) two.lines within

  no_ephemeral : (k : ℕ) → k < length script.ephemerals → ⊥
  no_ephemeral k within = none_below k (subst (λ n. k < n) two.ephemerals within)

  slot_spot : (one : Entry) → ((i : ℕ) → i < 2 → HasOne one (is_spots (Line i))) → (t : Termination) → IsSlot script t → HasOne one (is_spots t)
  slot_spot one of_line (Line i) within = of_line i (line_below i within)
  slot_spot one of_line (Ephemeral k) within = absurd (no_ephemeral k within)

  slot_mode : (one : Entry) → ((i : ℕ) → i < 2 → HasOne one (is_modes (Line i))) → (t : Termination) → IsSlot script t → HasOne one (is_modes t)
  slot_mode one of_line (Line i) within = of_line i (line_below i within)
  slot_mode one of_line (Ephemeral k) within = absurd (no_ephemeral k within)

  slot_cut : (one : Entry) → ((i j : ℕ) → i < 2 → j < 2 → (i == j) ≡ false → HasOne one (is_cuts (Line i) (Line j)))
      → (t u : Termination) → IsSlot script t → IsSlot script u → is_same t u ≡ false → HasOne one (is_cuts t u)
  slot_cut one of_lines (Line i) (Line j) left right differ = of_lines i j (line_below i left) (line_below j right) differ
  slot_cut one of_lines (Line i) (Ephemeral k) left right differ = absurd (no_ephemeral k right)
  slot_cut one of_lines (Ephemeral k) u left right differ = absurd (no_ephemeral k left)

  pub is_entry : (state : ℕ) (link : List LinkPhase) (list : EventsName) (first second : Place) (value : Option ContextValue)
      → ((j : ℕ) → IsContext script j → HasOne (entry_of state link list first second value) (is_contexts j))
      → IsEntryOf script (entry_of state link list first second value)
  is_entry state link list first second value context = record {
    lines = sym two.lines;
    link = (links link, (0, omega (arith), refl), refl);
    spot = slot_spot (entry_of state link list first second value) (line_spot state link list first second value);
    mode = slot_mode (entry_of state link list first second value) (line_mode state link list first second value);
    event = λ i within. line_events state link list first second value i (line_below i within);
    play = λ i within. line_plays state link list first second value i (line_below i within);
    context = context;
    remote = λ k within. absurd (no_ephemeral k within);
    cut = slot_cut (entry_of state link list first second value) (line_cut state link list first second value);
  }

-- ---- what they allow

-- what a configuration says of a line
pub record LineValues : Type 0 where
  pub spot : Spot
  pub mode : Mode
  pub event : EventsName
  pub play : Bool

abbrev pub values_at : ℕ → Configuration → LineValues
values_at i c = record { spot = c.spot (Line i); mode = c.mode (Line i); event = c.events i; play = c.plays i }

abbrev pub LineReads : ℕ → EventsName → Place → Configuration → Type 0
LineReads i list place c = values_at i c ≡ record { spot = place.spot; mode = place.mode; event = list_at place list; play = false }

-- the context has the value, where the script has a context
abbrev pub HasValue : Option ContextValue → Configuration → Type 0
HasValue None c = Unit {0}
HasValue (Some value) c = c.context 0 ≡ value

-- a configuration reads so
pub record ReadsSo (list : EventsName) (first second : Place) (value : Option ContextValue) (c : Configuration) : Type 0 where
  pub first_line : LineReads 0 list first c
  pub second_line : LineReads 1 list second c
  pub context : HasValue value c
  pub cut_to : c.cut (Line 0) (Line 1) ≡ false
  pub cut_from : c.cut (Line 1) (Line 0) ≡ false

is_alone : {A : Type 0} (x y : A) → y ≡ x → Contains (x ∷ []) y
is_alone x y e = (0, omega (arith), sym e)

line_allowed : (i : ℕ) (list : EventsName) (place : Place) (c : Configuration) → LineReads i list place c → All (Allows c) (line_of i list place)
line_allowed i list place c reads =
    let spot = is_alone place.spot (c.spot (Line i)) (ap (λ (x : LineValues). x.spot) reads) in
    let mode = is_alone place.mode (c.mode (Line i)) (ap (λ (x : LineValues). x.mode) reads) in
    let event = is_alone (list_at place list) (c.events i) (ap (λ (x : LineValues). x.event) reads) in
    let play = is_alone false (c.plays i) (ap (λ (x : LineValues). x.play) reads) in
    All-from_recursion (Allows c) (line_of i list place) (spot, (mode, (event, (play, tt))))

context_allowed : (value : Option ContextValue) (c : Configuration) → HasValue value c → All (Allows c) (contexts_of value)
context_allowed None c has = All-nil (Allows c)
context_allowed (Some value) c has = All-from_recursion (Allows c) (contexts_of (Some value)) (is_alone value (c.context 0) has, tt)

cuts_allowed : (c : Configuration) → c.cut (Line 0) (Line 1) ≡ false → c.cut (Line 1) (Line 0) ≡ false → All (Allows c) no_cuts
cuts_allowed c to from =
    All-from_recursion (Allows c) no_cuts (is_alone false (c.cut (Line 0) (Line 1)) to, (is_alone false (c.cut (Line 1) (Line 0)) from, tt))

module _ (state : ℕ) (link : List LinkPhase) (list : EventsName) (first second : Place) (value : Option ContextValue) (c : Configuration) where
  allowed : Contains link c.link → ReadsSo list first second value c → All (Allows c) (entry_of state link list first second value).components
  allowed in_link reads =
      let both = All-append (Allows c) (contexts_of value) no_cuts (context_allowed value c reads.context) (cuts_allowed c reads.cut_to reads.cut_from) in
      let from_second = All-append (Allows c) (line_of 1 list second) (contexts_of value ++ no_cuts) (line_allowed 1 list second c reads.second_line) both in
      let from_first =
      All-append (Allows c) (line_of 0 list first) (line_of 1 list second ++ contexts_of value ++ no_cuts) (line_allowed 0 list first c reads.first_line) from_second in
      All-cons (Allows c) (links link) (line_of 0 list first ++ line_of 1 list second ++ contexts_of value ++ no_cuts) in_link from_first

  pub is_covered : (entries : List Entry) → Contains entries (entry_of state link list first second value) → c.state ≡ state → Contains link c.link
      → IsWellFormed c → ReadsSo list first second value c → IsCovered entries c
  is_covered entries among same in_link formed reads =
      (entry_of state link list first second value, (among, (same, formed, allowed in_link reads)))

-- ---- their configurations are well formed

abbrev nothing_cut : Termination → Termination → Bool
nothing_cut t u = false

pub pairs_uncut : (t u : Termination) → with_pair (with_pair nothing_cut (Line 0) (Line 1) false) (Line 1) (Line 0) false t u ≡ false
pairs_uncut =
    pair_uncut (with_pair nothing_cut (Line 0) (Line 1) false) (pair_uncut nothing_cut (λ t u. refl) (Line 0) (Line 1)) (Line 1) (Line 0)

-- the one number of an entry that lists one link
abbrev pub point_of : ℕ → LinkPhase → EventsName → Place → Place → Option ContextValue → Configuration
point_of state link list first second value = numbered (entry_of state (link ∷ []) list first second value) 0

-- each context is live exactly where a line stands in it
abbrev pub LiveWhereStood : Configuration → Type 0
LiveWhereStood c = (j : ℕ) → is_live (c.context j) ≡ stands_in c.spot j

-- so it is where the context is free and no line stands in it
pub is_free_live : (test : Bool) → is_live (if test then Free else Free) ≡ false
is_free_live true = refl
is_free_live false = refl

-- where its context is gone
pub is_stale_live : (test : Bool) → is_live (if test then Stale else Free) ≡ false
is_stale_live true = refl
is_stale_live false = refl

-- a number is the first one, or it isn't, whichever way that is asked
pub either_way : (P : Bool → Bool → Type 0) → P true true → P false false → (j : ℕ) → P (j == 0) (0 == j)
either_way P is other j = subst (P (j == 0)) (same_turned j 0) (both (j == 0))
  where
    both : (test : Bool) → P test test
    both true = is
    both false = other

-- where the first line stands in the first context
pub is_first_live : (j : ℕ) → is_live (if j == 0 then Live else Free) ≡ ((0 == j) || false)
is_first_live = either_way (λ test turned. is_live (if test then Live else Free) ≡ (turned || false)) refl refl

-- where the first line was put into the first context, which was free
pub is_first_settled : (j : ℕ)
    → is_live (value_of (if j == 0 then Live else (if j == 0 then Free else Free)) ((0 == j) || false)) ≡ ((0 == j) || false)
is_first_settled =
    either_way (λ test turned. is_live (value_of (if test then Live else (if test then Free else Free)) (turned || false)) ≡ (turned || false)) refl refl

-- where both lines stand in the first context
pub is_both_live : (j : ℕ) → is_live (if j == 0 then Live else Free) ≡ ((0 == j) || ((0 == j) || false))
is_both_live = either_way (λ test turned. is_live (if test then Live else Free) ≡ (turned || (turned || false))) refl refl

pub point_formed : (state : ℕ) (link : LinkPhase) (list : EventsName) (first second : Place) (value : Option ContextValue)
    → LiveWhereStood (point_of state link list first second value) → IsWellFormed (point_of state link list first second value)
point_formed state link list first second None live =
    plain_formed (point_of state link list first second None) live (record { mode = λ k. refl; remote = λ k. refl; uncut = pairs_uncut })
point_formed state link list first second (Some value) live =
    plain_formed (point_of state link list first second (Some value)) live (record { mode = λ k. refl; remote = λ k. refl; uncut = pairs_uncut })

point_reads : (state : ℕ) (link : LinkPhase) (list : EventsName) (first second : Place) (value : Option ContextValue)
    → ReadsSo list first second value (point_of state link list first second value)
point_reads state link list first second None = record {
  first_line = refl;
  second_line = refl;
  context = tt;
  cut_to = refl;
  cut_from = refl;
}
point_reads state link list first second (Some value) = record {
  first_line = refl;
  second_line = refl;
  context = refl;
  cut_to = refl;
  cut_from = refl;
}

point_at : (state : ℕ) (link : LinkPhase) (list : EventsName) (first second : Place) (value : Option ContextValue)
    → ((point_of state link list first second value).state ≡ state) × ((point_of state link list first second value).link ≡ link)
point_at state link list first second None = (refl, refl)
point_at state link list first second (Some value) = (refl, refl)

-- it is covered by an entry that has its link among others
pub point_covered : (entries : List Entry) (state : ℕ) (linked : List LinkPhase) (link : LinkPhase) (list : EventsName) (first second : Place) (value : Option ContextValue)
    → Contains entries (entry_of state linked list first second value) → Contains linked link → LiveWhereStood (point_of state link list first second value)
    → IsCovered entries (point_of state link list first second value)
point_covered entries state linked link list first second value among in_them live =
    let at = point_at state link list first second value in
    is_covered state linked list first second value (point_of state link list first second value) entries among at.0
    (subst (Contains linked) (sym at.1) in_them) (point_formed state link list first second value live) (point_reads state link list first second value)

-- so is what a call opens in, and what it is in after a restart: no name is in use
pub unused_formed : (state : ℕ) (link : LinkPhase) (list : EventsName) → IsWellFormed (unused 2 state link list)
unused_formed state link list = plain_formed (unused 2 state link list) (λ j. refl) (record { mode = λ k. refl; remote = λ k. refl; uncut = λ t u. refl })

pub unused_covered : (entries : List Entry) (state : ℕ) (linked : List LinkPhase) (link : LinkPhase) (list : EventsName) (value : Option ContextValue)
    → HasValue value (unused 2 state link list) → Contains entries (entry_of state linked list null null value) → Contains linked link
    → IsCovered entries (unused 2 state link list)
unused_covered entries state linked link list value has among in_them =
    is_covered state linked list null null value (unused 2 state link list) entries among refl in_them
    (unused_formed state link list)
    (record { first_line = refl; second_line = refl; context = has; cut_to = refl; cut_from = refl })
