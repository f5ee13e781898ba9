-- What it is for a gateway to show a configuration of a call: each component of the configuration is what the gateway's rows are,
-- read through the call's names; and the names are one to one with what the call owns.
use Rattle.mg_safety.proofs.Words.{◌≡◌, ℕ, ◌<◌, Bool, true, false, not, ◌&&◌, ◌||◌, if◌then◌else◌, List, [], length, Option, Some, None, is_some, unwrap_or}
use Rattle.mg_safety.proofs.Words.{option_map, slice_get, option_and_then, ◌⊎◌, list_any, TermId, Line, Eph, Kind, Command, AddLine, AddEphemeral, ModifyLine}
use Rattle.mg_safety.proofs.Words.{ModifyEphemeral, MoveLine, MoveEphemeral, Subtract, SubtractAll, SetTopology, EphemeralOptions, LineOptions, Place}
use Rattle.mg_safety.proofs.Words.{NullContext, Context, RemoteOption, NoneGiven, Peer, Termination, Remote, Unset, Gone, To, Spot, Absent, Null, In, Item}
use Rattle.mg_safety.proofs.Words.{Settings, Row, Agent, Made, bound_if, is_listed, list_of, Board, exists, place_of, place_in, mode_in, remote_in}
use Rattle.mg_safety.proofs.Words.{ContextExists, with_at, choose, null, all, Configuration, is_present, is_free, Done, is_context_number, OnHook, OffHook}
use Rattle.mg_safety.proofs.Words.{Flash, Digits, LineRow, ListItem, silent, Names, Script, IsSlot}
use Rattle.mg_names.specs.declared.kinds.Kind.TheVariants as kind
use Rattle.mg_model.specs.declared.commands.Termination.TheVariants as termination
use Rattle.mg_model.specs.declared.items.Added.TheVariants as added
use Rattle.mg_model.specs.declared.items.Item.TheVariants as item
use Rattle.mg_model.specs.declared.items.RemoteSetting.{RemoteSetting}
use Rattle.mg_model.specs.declared.items.RemoteSetting.TheVariants.{Nothing, Ephemeral}

-- ---- names

-- the line of the gateway for each line of a call, and what its names are bound to
pub record Naming : Type 0 where
  pub lines : ℕ → ℕ
  pub contexts : ℕ → Option ℕ
  pub ephemerals : ℕ → Option ℕ

abbrev pub naming : Agent → Naming
naming a = record { lines = a.lines; contexts = a.contexts; ephemerals = a.ephemerals }

abbrev pub eph_of : Option ℕ → Option TermId
eph_of None = None
eph_of (Some x) = Some (Eph x)

-- the termination of the gateway that a name stands for
abbrev pub term_of : Naming → Termination → Option TermId
term_of n (termination.Line i) = Some (Line (record { 0 = n.lines i }))
term_of n (termination.Ephemeral k) = eph_of (n.ephemerals k)

abbrev pub row_on : Board → Option TermId → Option Row
row_on b None = None
row_on b (Some t) = b.row t

abbrev pub cut_on : Board → Option TermId → Option TermId → Bool
cut_on b None u = false
cut_on b (Some t) None = false
cut_on b (Some t) (Some u) = b.cut t u

-- the context in which a spot is
abbrev pub number_at : Naming → Spot → ℕ
number_at n Absent = 0
number_at n Null = 0
number_at n (In j) = unwrap_or (n.contexts j) 0

abbrev pub RemoteReads : Board → Naming → Remote → Option ℕ → Type 0
RemoteReads b n Unset remote = remote ≡ None
RemoteReads b n Gone remote = (x : ℕ) × (remote ≡ Some x) × (exists b (Eph x) ≡ false) × (b.used_ephemeral x ≡ true)
RemoteReads b n (To i) remote = (x : ℕ) × (remote ≡ Some x) × (n.ephemerals i ≡ Some x)

-- ---- the board, while a request runs

-- the board shows the configuration of a call that owns these terminations; what the request has freed isn't given again before it ends
pub record Shown (script : Script) (owned : TermId → Bool) (n : Naming) (b : Board) (c : Configuration) : Type 0 where
  -- what is read at each name
  pub stands : (t : Termination) → IsSlot script t → is_some (row_on b (term_of n t)) ≡ is_present (c.spot t)
  pub place : (t : Termination) → IsSlot script t → place_in (row_on b (term_of n t)) ≡ number_at n (c.spot t)
  pub in_bound : (t : Termination) (j : ℕ) → IsSlot script t → c.spot t ≡ In j → is_some (n.contexts j) ≡ true
  pub mode : (t : Termination) → IsSlot script t → c.mode t ≡ mode_in (row_on b (term_of n t))
  pub remote : (k : ℕ) → k < length script.ephemerals → RemoteReads b n (c.remote k) (remote_in (row_on b (eph_of (n.ephemerals k))))
  pub cut : (t u : Termination) → IsSlot script t → IsSlot script u → c.cut t u ≡ cut_on b (term_of n t) (term_of n u)
  pub bound : (j : ℕ) → is_some (n.contexts j) ≡ not (is_free (c.context j))
  -- lines
  pub line_stands : (i : ℕ) → i < length script.lines → exists b (Line (record { 0 = n.lines i })) ≡ true
  pub line_owned : (i : ℕ) → i < length script.lines → owned (Line (record { 0 = n.lines i })) ≡ true
  pub line_once : (i j : ℕ) → i < length script.lines → j < length script.lines → n.lines i ≡ n.lines j → i ≡ j
  -- contexts
  pub context_real : (j x : ℕ) → n.contexts j ≡ Some x → is_context_number x × (b.used_context x ≡ true)
  pub context_once : (i j x : ℕ) → n.contexts i ≡ Some x → n.contexts j ≡ Some x → i ≡ j
  pub members : (j x : ℕ) (t : TermId) → n.contexts j ≡ Some x → place_of b t ≡ x → (u : Termination) × IsSlot script u × (term_of n u ≡ Some t)
  -- ephemerals
  pub ephemeral_slot : (k x : ℕ) → n.ephemerals k ≡ Some x → k < length script.ephemerals
  pub ephemeral_stands : (k x : ℕ) → n.ephemerals k ≡ Some x → exists b (Eph x) ≡ true
  pub ephemeral_owned : (k x : ℕ) → n.ephemerals k ≡ Some x → owned (Eph x) ≡ true
  pub ephemeral_once : (k i x : ℕ) → n.ephemerals k ≡ Some x → n.ephemerals i ≡ Some x → k ≡ i
  pub ephemeral_named : (x : ℕ) → owned (Eph x) ≡ true → exists b (Eph x) ≡ true → (k : ℕ) × (n.ephemerals k ≡ Some x)

-- ---- between requests

-- a Remote that is gone names nothing of the call's own: its number may by now be another's
abbrev pub RemoteSeen : Naming → Remote → Option ℕ → Type 0
RemoteSeen n Unset remote = remote ≡ None
RemoteSeen n Gone remote = (x : ℕ) × (remote ≡ Some x) × ((i : ℕ) → n.ephemerals i ≡ Some x → ⊥)
RemoteSeen n (To i) remote = (x : ℕ) × (remote ≡ Some x) × (n.ephemerals i ≡ Some x)

-- what is left of that when numbers may be given again: nothing is said of a name that is stale, nor of what a Remote that is gone names
pub record Seen (script : Script) (owned : TermId → Bool) (n : Naming) (b : Board) (c : Configuration) : Type 0 where
  -- what is read at each name
  pub stands : (t : Termination) → IsSlot script t → is_some (row_on b (term_of n t)) ≡ is_present (c.spot t)
  pub place : (t : Termination) → IsSlot script t → place_in (row_on b (term_of n t)) ≡ number_at n (c.spot t)
  pub in_bound : (t : Termination) (j : ℕ) → IsSlot script t → c.spot t ≡ In j → is_some (n.contexts j) ≡ true
  pub mode : (t : Termination) → IsSlot script t → c.mode t ≡ mode_in (row_on b (term_of n t))
  pub remote : (k : ℕ) → k < length script.ephemerals → RemoteSeen n (c.remote k) (remote_in (row_on b (eph_of (n.ephemerals k))))
  pub cut : (t u : Termination) → IsSlot script t → IsSlot script u → c.cut t u ≡ cut_on b (term_of n t) (term_of n u)
  pub bound : (j : ℕ) → is_some (n.contexts j) ≡ not (is_free (c.context j))
  -- lines
  pub line_stands : (i : ℕ) → i < length script.lines → exists b (Line (record { 0 = n.lines i })) ≡ true
  pub line_owned : (i : ℕ) → i < length script.lines → owned (Line (record { 0 = n.lines i })) ≡ true
  pub line_once : (i j : ℕ) → i < length script.lines → j < length script.lines → n.lines i ≡ n.lines j → i ≡ j
  -- contexts
  pub context_number : (j x : ℕ) → n.contexts j ≡ Some x → is_context_number x
  pub context_once : (i j x : ℕ) → n.contexts i ≡ Some x → n.contexts j ≡ Some x → i ≡ j
  -- whoever stands where one of the call's stands is one of the call's
  pub members : (v : Termination) (j x : ℕ) (t : TermId) → IsSlot script v → c.spot v ≡ In j → n.contexts j ≡ Some x → place_of b t ≡ x
      → (u : Termination) × IsSlot script u × (term_of n u ≡ Some t)
  -- ephemerals
  pub ephemeral_slot : (k x : ℕ) → n.ephemerals k ≡ Some x → k < length script.ephemerals
  pub ephemeral_stands : (k x : ℕ) → n.ephemerals k ≡ Some x → exists b (Eph x) ≡ true
  pub ephemeral_owned : (k x : ℕ) → n.ephemerals k ≡ Some x → owned (Eph x) ≡ true
  pub ephemeral_once : (k i x : ℕ) → n.ephemerals k ≡ Some x → n.ephemerals i ≡ Some x → k ≡ i
  pub ephemeral_named : (x : ℕ) → owned (Eph x) ≡ true → exists b (Eph x) ≡ true → (k : ℕ) × (n.ephemerals k ≡ Some x)

-- whatever stands or exists can't be given by the present request
pub record IsAccounted (b : Board) : Type 0 where
  pub ephemerals : (x : ℕ) → exists b (Eph x) ≡ true → b.used_ephemeral x ≡ true
  pub contexts : (t : TermId) → (place_of b t ≡ 0 → ⊥) → b.used_context (place_of b t) ≡ true

-- ---- the lines

abbrev pub raises_kind : Kind → ListItem → Bool
raises_kind kind.On (OnHook strict) = true
raises_kind kind.Of (OffHook strict) = true
raises_kind kind.Fl Flash = true
raises_kind kind.Full (Digits map) = true
raises_kind kind.Part (Digits map) = true
raises_kind _ _ = false

-- a note of this kind is one that the list can raise
abbrev pub list_raises : List ListItem → Kind → Bool
list_raises list what = list_any (raises_kind what) list

-- the lines show the configuration, the RequestID of the descriptor that stands is the expected one, and a descriptor without one is empty
pub record LinesShown (script : Script) (e : Agent) (line : ℕ → LineRow) (c : Configuration) : Type 0 where
  pub events : (i : ℕ) → i < length script.lines → (line (e.lines i)).list ≡ list_of script (c.events i)
  pub silent : (i : ℕ) → i < length script.lines → c.plays i ≡ false → (line (e.lines i)).playing ≡ silent
  pub expected : (i : ℕ) → i < length script.lines → (line (e.lines i)).request ≡ e.expected i
  pub unnamed : (i : ℕ) → i < length script.lines → (line (e.lines i)).request ≡ None → (line (e.lines i)).list ≡ []

-- ---- a request that runs

-- what a call owns while its request runs: its lines, the ephemerals that it created before, and those that were given since
pub record Owner : Type 0 where
  pub held : ℕ → Bool
  pub created : ℕ → Bool
  pub before : ℕ → Bool

abbrev pub owned_at : Owner → Board → TermId → Bool
owned_at own b (Line l) = own.held l.0
owned_at own b (Eph x) = own.created x || (b.used_ephemeral x && not (own.before x))

-- the names by which commands are built, at a place of a request: what an earlier command of it created, or what was bound
abbrev pub context_made : List Done → Option ℕ → Option ℕ → Option ℕ
context_made results (Some place) bound = option_and_then (λ (done : Done). done.context) (slice_get results place)
context_made results None bound = bound

abbrev pub ephemeral_made : List Done → Option ℕ → Option ℕ → Option ℕ
ephemeral_made results (Some place) bound = option_and_then (λ (done : Done). done.ephemeral) (slice_get results place)
ephemeral_made results None bound = bound

abbrev pub naming_at : Agent → Made → List Done → Naming
naming_at a made results = record {
  lines = a.lines;
  contexts = λ j. context_made results (made.contexts j) (a.contexts j);
  ephemerals = λ k. ephemeral_made results (made.ephemerals k) (a.ephemerals k);
}

-- names in force are among those that commands are built with, and what is not in force any more names nothing
pub record AreBuilt (n m : Naming) (b : Board) : Type 0 where
  pub lines : m.lines ≡ n.lines
  pub context : (j x : ℕ) → n.contexts j ≡ Some x → m.contexts j ≡ Some x
  pub context_lost : (j x : ℕ) → m.contexts j ≡ Some x → n.contexts j ≡ None → ContextExists b x → ⊥
  pub context_real : (j x : ℕ) → m.contexts j ≡ Some x → is_context_number x × (b.used_context x ≡ true)
  pub ephemeral : (k x : ℕ) → n.ephemerals k ≡ Some x → m.ephemerals k ≡ Some x
  pub ephemeral_lost : (k x : ℕ) → m.ephemerals k ≡ Some x → n.ephemerals k ≡ None → exists b (Eph x) ≡ false
  pub ephemeral_given : (k x : ℕ) → m.ephemerals k ≡ Some x → b.used_ephemeral x ≡ true

-- the names that commands may use
abbrev pub known_by : Naming → Names
known_by m = record { contexts = λ j. is_some (m.contexts j); ephemerals = λ k. is_some (m.ephemerals k) }

-- ---- a command by names, as an item

abbrev pub context_for : Naming → ℕ → ℕ
context_for m j = unwrap_or (m.contexts j) all

abbrev pub ephemeral_for : Naming → ℕ → ℕ
ephemeral_for m k = unwrap_or (m.ephemerals k) 0

abbrev pub target_for : Naming → Bool → ℕ → ℕ
target_for m create j = if create then choose else context_for m j

abbrev pub place_for : Naming → Place → ℕ
place_for m NullContext = null
place_for m (Context j) = context_for m j

abbrev pub term_for : Naming → Termination → TermId
term_for m (termination.Line i) = Line (record { 0 = m.lines i })
term_for m (termination.Ephemeral k) = Eph (ephemeral_for m k)

abbrev pub remote_for : Naming → RemoteOption → RemoteSetting
remote_for m NoneGiven = Nothing
remote_for m (Peer k) = Ephemeral (ephemeral_for m k)

abbrev pub line_settings : LineOptions → Settings
line_settings o = record { mode = o.mode; remote = None }

abbrev pub ephemeral_settings : Naming → EphemeralOptions → Settings
ephemeral_settings m o = record { mode = o.mode; remote = option_map (remote_for m) o.remote }

abbrev pub item_for : Naming → Command → Item
item_for m (AddLine create j i o) = item.Add (record { 0 = target_for m create j }) (added.Line (record { 0 = m.lines i })) (line_settings o)
item_for m (AddEphemeral create j k o) = item.Add (record { 0 = target_for m create j }) added.NewEphemeral (ephemeral_settings m o)
item_for m (ModifyLine place i o) = item.Modify (record { 0 = place_for m place }) (Line (record { 0 = m.lines i })) (line_settings o)
item_for m (ModifyEphemeral place k o) = item.Modify (record { 0 = place_for m place }) (Eph (ephemeral_for m k)) (ephemeral_settings m o)
item_for m (MoveLine j i o) = item.Move (record { 0 = context_for m j }) (Line (record { 0 = m.lines i })) (line_settings o)
item_for m (MoveEphemeral j k o) = item.Move (record { 0 = context_for m j }) (Eph (ephemeral_for m k)) (ephemeral_settings m o)
item_for m (Subtract j t) = item.Subtract (record { 0 = context_for m j }) (term_for m t)
item_for m (SubtractAll j) = item.SubtractAll (record { 0 = context_for m j })
item_for m (SetTopology j t u topology) = item.SetTopology (record { 0 = context_for m j }) (term_for m t) (term_for m u) topology

-- the names in force after a command
abbrev pub named_after : Naming → Command → Done → Naming
named_after n (AddLine create j i o) done = record n { contexts = bound_if create n.contexts j done.context }
named_after n (AddEphemeral create j k o) done = record n {
  contexts = bound_if create n.contexts j done.context;
  ephemerals = with_at n.ephemerals k done.ephemeral;
}
named_after n (Subtract j (termination.Ephemeral k)) done = record n { ephemerals = with_at n.ephemerals k None }
named_after n (SubtractAll j) done = record n {
  contexts = with_at n.contexts j None;
  ephemerals = λ k. if is_listed done.ephemerals (n.ephemerals k) then None else n.ephemerals k;
}
named_after n command done = n

-- the names that later commands are built with
abbrev pub built_after : Naming → Command → Done → Naming
built_after m (AddLine create j i o) done = record m { contexts = bound_if create m.contexts j done.context }
built_after m (AddEphemeral create j k o) done = record m {
  contexts = bound_if create m.contexts j done.context;
  ephemerals = with_at m.ephemerals k done.ephemeral;
}
built_after m command done = m

-- ---- what a request changes

-- between two boards of a run: what changed is owned, and where it stands now something owned stood before, or nobody ever did
pub record ChangesOwned (own : Owner) (b after : Board) : Type 0 where
  pub row : (t : TermId) → owned_at own after t ≡ false → after.row t ≡ b.row t
  pub cut : (t u : TermId) → owned_at own after t ≡ false → owned_at own after u ≡ false → after.cut t u ≡ b.cut t u
  pub used_context : (x : ℕ) → b.used_context x ≡ true → after.used_context x ≡ true
  pub used_ephemeral : (x : ℕ) → b.used_ephemeral x ≡ true → after.used_ephemeral x ≡ true
  pub place : (t : TermId) → owned_at own after t ≡ true → (place_of after t ≡ 0 → ⊥)
      → ((u : TermId) × (owned_at own b u ≡ true) × (place_of b u ≡ place_of after t)) ⊎ (b.used_context (place_of after t) ≡ false)
  pub line : (l : ℕ) → exists after (Line (record { 0 = l })) ≡ exists b (Line (record { 0 = l }))
  pub ephemeral : (x : ℕ) → exists after (Eph x) ≡ true → (exists b (Eph x) ≡ true) ⊎ (b.used_ephemeral x ≡ false)
