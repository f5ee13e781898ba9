-- Entries of two lines read as rows, so that what is asked of all their points can be computed: each point of such an entry has one of its links, and
-- else what its row says; and a configuration is covered by a row where what is seen of it is seen of a point of the row.
use Rattle.std.proofs.Common.{◌≡◌, ◌<◌, ◌==◌, ◌%◌, ◌/◌, ◌*◌, ◌++◌, ◌∙◌}
use Rattle.std.proofs.Common.{ℕ, zero, suc, Bool, true, false, if◌then◌else◌, List, [], ◌∷◌, map, length, get_or, Option, Some, None, refl, sym, ap, subst, arith}
use Rattle.std.proofs.lemmas.Bool.{and_parts, eqb-true}
use Rattle.std.proofs.lemmas.List.Elements.{All-cons, All-nil}
use Rattle.std.specs.List.{All, list_all}
use Rattle.std.specs.Prelude.{◌&&◌, ◌||◌, slice_index_or, Contains, IsTrue, unwrap_or}
use Rattle.mg_examples.proofs.Words.{ContextValue, Free, Live, Stale, LinkPhase, Resting, EventsName, Empty, Spot, Null, In, Configuration, IsWellFormed, is_in}
use Rattle.mg_examples.proofs.Words.{is_live, Entry, IsCovered, links, numbered, size_of, HasOne, IsContext, IsEntryOf, is_contexts, Script, unused, Choice}
use Rattle.mg_examples.proofs.Words.{Component, Includes, link_choice, same_choice, chosen, choices_of}
use Rattle.mg_model.specs.declared.commands.Termination.TheVariants.{Line}
use Rattle.mg_model.proofs.Cases.{false_not_true}
use Rattle.mg_model.proofs.Single.{first_in, only_one}
use Rattle.mg_examples.specs.EntriesOfTwo.{Place, contexts_of, entry_of, line_of, no_cuts}
use Rattle.mg_examples.proofs.EntriesOfTwo.{HasTwoLines, LineValues, is_both_live, is_covered, is_entry, is_first_live}
use Rattle.mg_examples.proofs.EntriesOfTwo.{is_free_live, is_stale_live, none_below, of_context, point_formed, point_of, values_at}
use Rattle.mg_examples.proofs.Finding.{later_in}
use Rattle.mg_examples.proofs.PointFacts.{Below, EachPoint}

-- ---- rows

-- what makes an entry of two lines
pub record EntryRow : Type 0 where
  pub state : ℕ
  pub linked : List LinkPhase
  pub list : EventsName
  pub first : Place
  pub second : Place
  pub value : Option ContextValue

abbrev pub entry_at : EntryRow → Entry
entry_at r = entry_of r.state r.linked r.list r.first r.second r.value

abbrev pub point_at : EntryRow → LinkPhase → Configuration
point_at r link = point_of r.state link r.list r.first r.second r.value

abbrev links_in : List Component → List LinkPhase
links_in (links linked ∷ more) = linked
links_in components = []

abbrev place_in : Configuration → ℕ → Place
place_in c i = record { spot = c.spot (Line i); mode = c.mode (Line i); own = Some (c.events i) }

-- read off an entry: the twelfth component is there where the script has a context
abbrev pub row_of : Entry → EntryRow
row_of entry = record {
  state = entry.state;
  linked = links_in entry.components;
  list = Empty;
  first = place_in (numbered entry 0) 0;
  second = place_in (numbered entry 0) 1;
  value = if length entry.components == 12 then Some ((numbered entry 0).context 0) else None;
}

-- entries of two lines are what their rows make
abbrev pub reread : List Entry → List Entry
reread entries = map (λ (entry : Entry). entry_at (row_of entry)) entries

-- ---- they are entries of a script

abbrev contexts_in : Option ContextValue → ℕ
contexts_in None = 0
contexts_in (Some value) = 1

module _ (script : Script) (two : HasTwoLines script) where
  its_context : (r : EntryRow) (value : Option ContextValue) → length script.contexts ≡ contexts_in value → (j : ℕ) → IsContext script j
      → HasOne (entry_at (record r { value = value })) (is_contexts j)
  its_context r None none j within = absurd (none_below j (subst (λ n. j < n) none within))
  its_context r (Some value) one j within = of_context r.state r.linked r.list r.first r.second value j (subst (λ n. j < n) one within)

  abbrev has_contexts : Entry → Bool
  has_contexts entry = length script.contexts == contexts_in (row_of entry).value

  all_reread : (entries : List Entry) → IsTrue (list_all has_contexts entries) → All (IsEntryOf script) (reread entries)
  all_reread [] h = All-nil (IsEntryOf script)
  all_reread (entry ∷ more) h =
      let both = and_parts (has_contexts entry) (list_all has_contexts more) h in
      let r = row_of entry in
      All-cons (IsEntryOf script) (entry_at r) (reread more)
      (is_entry script two r.state r.linked r.list r.first r.second r.value
      (its_context r r.value (eqb-true (length script.contexts) (contexts_in r.value) both.0)))
      (all_reread more both.1)

  pub all_entries : (entries : List Entry) → reread entries ≡ entries → IsTrue (list_all has_contexts entries) → All (IsEntryOf script) entries
  all_entries entries reads h = subst (All (IsEntryOf script)) reads (all_reread entries h)

-- ---- their points

mod_one : (n : ℕ) → n % 1 ≡ 0
mod_one n = omega arith

div_one : (n : ℕ) → n / 1 ≡ n
div_one n = omega arith

abbrev IsPick : List LinkPhase → ℕ → LinkPhase → Type 0
IsPick linked n link = slice_index_or (map link_choice linked) n same_choice ≡ link_choice link

picked : (linked : List LinkPhase) (n : ℕ) → n < length (map link_choice linked) → (link : LinkPhase) × Contains linked link × IsPick linked n link
picked [] n within = absurd (let below : n < 0 = within in omega (arith, below))
picked (x ∷ xs) zero within = (x, first_in x xs, refl)
picked (x ∷ xs) (suc n) within =
    let later = picked xs n (let below : suc n < suc (length (map link_choice xs)) = within in omega (arith, below)) in
    (later.0, later_in x later.0 xs later.1, later.2)

made_in_order : (rest : List (List Choice)) (c : Configuration) (linked : List LinkPhase) (n : ℕ) (link : LinkPhase) → IsPick linked n link
    → chosen rest (n % 1) ((slice_index_or (map link_choice linked) (n / 1) same_choice) c) ≡ chosen rest 0 (link_choice link c)
made_in_order rest c linked n link is = rw (mod_one n, div_one n, is) refl

module _ (state : ℕ) (linked : List LinkPhase) (list : EventsName) (first second : Place) where
  abbrev rest_of : Option ContextValue → List (List Choice)
  rest_of value = map choices_of (line_of 0 list first ++ line_of 1 list second ++ contexts_of value ++ no_cuts)

  its_point : (value : Option ContextValue) (n : ℕ) → n < size_of (entry_of state linked list first second value).components
      → (link : LinkPhase) × Contains linked link × (numbered (entry_of state linked list first second value) n ≡ point_of state link list first second value)
  its_point None n within =
      let it = picked linked n (let below : n < length (map link_choice linked) * 1 = within in omega (arith, below)) in
      (it.0, it.1, made_in_order (rest_of None) (unused 2 state Resting Empty) linked n it.0 it.2)
  its_point (Some value) n within =
      let it = picked linked n (let below : n < length (map link_choice linked) * 1 = within in omega (arith, below)) in
      (it.0, it.1, made_in_order (rest_of (Some value)) (unused 2 state Resting Empty) linked n it.0 it.2)

passes : {A : Type 0} (test : A → Bool) (xs : List A) (x : A) → IsTrue (list_all test xs) → Contains xs x → IsTrue (test x)
passes {A = A} test xs x h there = at xs h there.0 there.1 there.2
  where
    at : (ys : List A) → IsTrue (list_all test ys) → (i : ℕ) → i < length ys → get_or ys i x ≡ x → IsTrue (test x)
    at [] h i within is = absurd (let below : i < 0 = within in omega (arith, below))
    at (y ∷ ys) h zero within is = subst (λ z. IsTrue (test z)) is (and_parts (test y) (list_all test ys) h).0
    at (y ∷ ys) h (suc i) within is =
        at ys (and_parts (test y) (list_all test ys) h).1 i (let below : suc i < suc (length ys) = within in omega (arith, below)) is

below_all : (P : Configuration → Type 0) (entry : Entry) (size : ℕ) → ((n : ℕ) → n < size → P (numbered entry n)) → Below P entry size
unfolding Below
below_all P entry zero all = tt
below_all P entry (suc size) all = ((λ formed. all size (omega arith)), below_all P entry size (λ n within. all n (omega (arith, within))))

-- a test of the row and of each of its links, for all rows
abbrev pub rows_pass : (EntryRow → LinkPhase → Bool) → List Entry → Bool
rows_pass test entries = list_all (λ (entry : Entry). list_all (test (row_of entry)) (links_in entry.components)) entries

abbrev IsSound : (Configuration → Type 0) → (EntryRow → LinkPhase → Bool) → Type 0
IsSound P test = (r : EntryRow) (link : LinkPhase) → IsTrue (test r link) → P (point_at r link)

module _ (P : Configuration → Type 0) (test : EntryRow → LinkPhase → Bool) (sound : IsSound P test) where
  of_row : (r : EntryRow) → IsTrue (list_all (test r) r.linked) → Below P (entry_at r) (size_of (entry_at r).components)
  of_row r h = below_all P (entry_at r) (size_of (entry_at r).components) (λ n within.
      let it = its_point r.state r.linked r.list r.first r.second r.value n within in
      subst P (sym it.2) (sound r it.0 (passes (test r) r.linked it.0 h it.1)))

  of_rows : (entries : List Entry) → IsTrue (rows_pass test entries) → EachPoint P (reread entries)
  unfolding EachPoint
  of_rows [] h = tt
  of_rows (entry ∷ more) h =
      let both = and_parts (list_all (test (row_of entry)) (links_in entry.components)) (rows_pass test more) h in
      (of_row (row_of entry) both.0, of_rows more both.1)

  pub by_rows : (entries : List Entry) → reread entries ≡ entries → IsTrue (rows_pass test entries) → EachPoint P entries
  by_rows entries reads h = subst (EachPoint P) reads (of_rows entries h)

-- ---- what is covered

-- what an entry of two lines reads of a configuration
pub record Seen : Type 0 where
  pub state : ℕ
  pub link : LinkPhase
  pub first : LineValues
  pub second : LineValues
  pub context : ContextValue
  pub cut_to : Bool
  pub cut_from : Bool

abbrev pub seen : Configuration → Seen
seen c = record {
  state = c.state;
  link = c.link;
  first = values_at 0 c;
  second = values_at 1 c;
  context = c.context 0;
  cut_to = c.cut (Line 0) (Line 1);
  cut_from = c.cut (Line 1) (Line 0);
}

module _ (entries : List Entry) (state : ℕ) (linked : List LinkPhase) (link : LinkPhase) (list : EventsName) (first second : Place) where
  as_seen : (value : Option ContextValue) (c : Configuration) → Contains entries (entry_of state linked list first second value) → Contains linked link
      → seen c ≡ seen (point_of state link list first second value) → IsWellFormed c → IsCovered entries c
  as_seen None c among in_them e formed =
      is_covered state linked list first second None c entries among (ap (λ (s : Seen). s.state) e)
      (subst (Contains linked) (sym (ap (λ (s : Seen). s.link) e)) in_them) formed (record {
        first_line = ap (λ (s : Seen). s.first) e;
        second_line = ap (λ (s : Seen). s.second) e;
        context = tt;
        cut_to = ap (λ (s : Seen). s.cut_to) e;
        cut_from = ap (λ (s : Seen). s.cut_from) e;
      })
  as_seen (Some value) c among in_them e formed =
      is_covered state linked list first second (Some value) c entries among (ap (λ (s : Seen). s.state) e)
      (subst (Contains linked) (sym (ap (λ (s : Seen). s.link) e)) in_them) formed (record {
        first_line = ap (λ (s : Seen). s.first) e;
        second_line = ap (λ (s : Seen). s.second) e;
        context = ap (λ (s : Seen). s.context) e;
        cut_to = ap (λ (s : Seen). s.cut_to) e;
        cut_from = ap (λ (s : Seen). s.cut_from) e;
      })

-- a list has a place, and what stands there
abbrev is_at : {A : Type 0} → List A → ℕ → Bool
is_at [] n = false
is_at (x ∷ xs) zero = true
is_at (x ∷ xs) (suc n) = is_at xs n

there : {A : Type 0} (xs : List A) (other : A) (n : ℕ) → IsTrue (is_at xs n) → Contains xs (get_or xs n other)
there [] other n h = absurd (false_not_true h)
there (x ∷ xs) other zero h = first_in x xs
there (x ∷ xs) other (suc n) h = later_in x (get_or xs n other) xs (there xs other n h)

-- the context is live where a line stands in it, and none is without one
abbrev lives_in : ContextValue → Spot → Spot → Bool
lives_in Live (In zero) Null = true
lives_in Live (In zero) (In zero) = true
lives_in Free Null Null = true
lives_in Stale Null Null = true
lives_in value first second = false

live_so : (value : ContextValue) (first second : Spot) → IsTrue (lives_in value first second) → (j : ℕ)
    → is_live (if j == 0 then value else Free) ≡ (is_in first j || (is_in second j || false))
live_so Live (In zero) Null h j = is_first_live j
live_so Live (In zero) (In zero) h j = is_both_live j
live_so Free Null Null h j = is_free_live (j == 0)
live_so Stale Null Null h j = is_stale_live (j == 0)
live_so value first second h j = absurd (false_not_true h)

abbrev pub is_formed : EntryRow → Bool
is_formed r = lives_in (unwrap_or r.value Free) r.first.spot r.second.spot

formed_so : (state : ℕ) (link : LinkPhase) (list : EventsName) (first second : Place) (value : Option ContextValue)
    → IsTrue (lives_in (unwrap_or value Free) first.spot second.spot) → IsWellFormed (point_of state link list first second value)
formed_so state link list first second None h =
    point_formed state link list first second None (λ j. sym (is_free_live (j == 0)) ∙ live_so Free first.spot second.spot h j)
formed_so state link list first second (Some value) h =
    point_formed state link list first second (Some value) (live_so value first.spot second.spot h)

pub row_formed : (r : EntryRow) (link : LinkPhase) → IsTrue (is_formed r) → IsWellFormed (point_at r link)
row_formed r link h = formed_so r.state link r.list r.first r.second r.value h

abbrev no_entry : Entry
no_entry = record { state = 0; lines = 0; components = [] }

abbrev pub row_in : List Entry → ℕ → EntryRow
row_in entries e = row_of (get_or entries e no_entry)

abbrev link_in : List Entry → ℕ → ℕ → LinkPhase
link_in entries e p = get_or (row_in entries e).linked p Resting

abbrev pub point_in : List Entry → ℕ → ℕ → Configuration
point_in entries e p = point_at (row_in entries e) (link_in entries e p)

among : (entries : List Entry) (e : ℕ) → IsTrue (is_at entries e) → Contains (reread entries) (entry_at (row_in entries e))
among [] e h = absurd (false_not_true h)
among (entry ∷ more) zero h = first_in (entry_at (row_of entry)) (reread more)
among (entry ∷ more) (suc e) h = later_in (entry_at (row_of entry)) (entry_at (row_in more e)) (reread more) (among more e h)

module _ (entries : List Entry) (reads : reread entries ≡ entries) (e p : ℕ) where
  -- a configuration of which the same is seen as of this point of this entry
  pub covered_by : IsTrue (is_at entries e && is_at (row_in entries e).linked p) → (c : Configuration) → seen c ≡ seen (point_in entries e p) → IsWellFormed c
      → IsCovered entries c
  covered_by h c same formed =
      let both = and_parts (is_at entries e) (is_at (row_in entries e).linked p) h in
      let r = row_in entries e in
      as_seen entries r.state r.linked (link_in entries e p) r.list r.first r.second r.value c
      (subst (λ (es : List Entry). Contains es (entry_at (row_in entries e))) reads (among entries e both.0)) (there r.linked Resting p both.1) same formed

  -- the point itself
  pub lands : IsTrue ((is_at entries e && is_at (row_in entries e).linked p) && is_formed (row_in entries e)) → IsCovered entries (point_in entries e p)
  lands h =
      let both = and_parts (is_at entries e && is_at (row_in entries e).linked p) (is_formed (row_in entries e)) h in
      covered_by both.0 (point_in entries e p) refl (row_formed (row_in entries e) (link_in entries e p) both.1)

-- where there is one entry it has what is covered
pub only_one_included : (entry : Entry) (c : Configuration) → IsCovered (entry ∷ []) c → Includes entry c
only_one_included entry c covered = subst (λ (x : Entry). Includes x c) (sym (only_one entry covered.0 covered.1.0)) covered.1.1
