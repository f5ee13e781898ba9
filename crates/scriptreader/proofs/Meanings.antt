-- A document without a fault has a table.
use Rattle.std.proofs.Common.{◌≡◌, ◌≤◌, ℕ, suc, List, [], ◌∷◌, length, map, Bool, true, false, not, refl, sym, ap, ◌∙◌, arith, subst, Option, Some, None}
use Rattle.std.specs.Prelude.{◌&&◌, is_some, is_err, Result, Ok, Err}
use Rattle.std.specs.List.{list_all, list_any}
use Rattle.std.proofs.lemmas.List.{length-map}
use Rattle.digits.specs.declared.fault.MapFault.{MapFault}
use Rattle.digits.specs.Reading.{map_of}
use Rattle.scriptreader.specs.declared.syntax.WrittenItem.{WrittenItem}
use Rattle.scriptreader.specs.declared.syntax.WrittenItem.TheVariants.{OnHook, OffHook, Flash, Digits}
use Rattle.scriptreader.specs.declared.syntax.WrittenMap.{WrittenMap}
use Rattle.scriptreader.specs.declared.syntax.WrittenPair.{WrittenPair}
use Rattle.scriptreader.specs.declared.syntax.WrittenTransition.{WrittenTransition}
use Rattle.scriptreader.specs.declared.syntax.WrittenCommand.{WrittenCommand}
use Rattle.scriptreader.specs.declared.syntax.WrittenCommand.TheVariants.{Add, Modify, Move, Subtract, SubtractAll, SetTopology}
use Rattle.scriptreader.specs.Written.{Events, State, Document}
use Rattle.typed_values.specs.Names.{is_among}
use Rattle.typed_values.specs.Shape.{◌>>=◌, only_if, each, optional_at, Misses}
use Rattle.scriptreader.specs.Limits.{is_too_large}
use Rattle.scriptreader.specs.DeclaredNames.{Scope, scope_of}
use Rattle.scriptreader.specs.Faults.{fault_of, has_unknown, has_bad_map, is_bad_map, names_state, is_known, termination_known, command_known, item_known, pair_known, transition_known, state_known}
use Rattle.typed_values.specs.declared.missing.Missing.{Missing}
use Rattle.typed_values.specs.declared.missing.Missing.TheVariants.{Nothing}
use Rattle.scriptreader.specs.Meaning.{if_read, slot_for, number_for, termination_for, place_for, line_options_for, ephemeral_options_for, add_line_for, add_ephemeral_for, modify_line_for, modify_ephemeral_for, move_line_for, move_ephemeral_for, subtract_for, subtract_all_for, topology_for, command_for, pair_for, transition_for, state_for, item_for, events_list_for, named_map_for, state_at, script_in, script_meant}
use Rattle.scriptreader.proofs.BooleanTests.{or_left, or_right, and_left, and_right, holds}
use Rattle.scriptreader.proofs.SmallDocuments.{IsSmall, small}
use Rattle.scriptreader.proofs.FaultlessDocuments.{faultless}
use Rattle.scriptreader.proofs.FoundNames.{Fits, number_found, given, first_with, both_ways, each_found, line_found, context_found, ephemeral_found, termination_found, place_found, target_found, line_options_found, ephemeral_options_found}

-- ---- commands and states

module _ (k : Scope) (fits : Fits k) where
  command_found : (c : WrittenCommand) → command_known k c ≡ true → is_some (command_for k c) ≡ true
  unfolding command_known command_for add_line_for add_ephemeral_for modify_line_for modify_ephemeral_for move_line_for move_ephemeral_for subtract_for subtract_all_for topology_for
  command_found (Add create context own name options) e =
      let at = context_found k fits context (and_left _ _ e) in
      both_ways own _ _ _ _ (and_right _ _ e)
      (λ h. given (slot_for k.contexts context) _ at (λ j. given (slot_for k.ephemerals name) _ (ephemeral_found k fits name (and_left _ _ h)) (λ i. given (ephemeral_options_for k options) _ (ephemeral_options_found k fits options (and_right _ _ h)) (λ o. refl))))
      (λ h. given (slot_for k.contexts context) _ at (λ j. given (slot_for k.lines name) _ (line_found k fits name (and_left _ _ h)) (λ i. given (line_options_for k options) _ (line_options_found k fits options (and_right _ _ h)) (λ o. refl))))
  command_found (Modify place name options) e =
      let at = place_found k fits place (and_left _ _ e) in
      first_with (is_among name k.lines) (is_among name k.ephemerals) _ _ _ _ (and_right _ _ e)
      (λ h s. given (place_for k place) _ at (λ j. given (slot_for k.lines name) _ (line_found k fits name h) (λ i. given (line_options_for k options) _ (line_options_found k fits options s) (λ o. refl))))
      (λ h s. given (place_for k place) _ at (λ j. given (slot_for k.ephemerals name) _ (ephemeral_found k fits name h) (λ i. given (ephemeral_options_for k options) _ (ephemeral_options_found k fits options s) (λ o. refl))))
  command_found (Move context name options) e =
      let at = context_found k fits context (and_left _ _ e) in
      first_with (is_among name k.lines) (is_among name k.ephemerals) _ _ _ _ (and_right _ _ e)
      (λ h s. given (slot_for k.contexts context) _ at (λ j. given (slot_for k.lines name) _ (line_found k fits name h) (λ i. given (line_options_for k options) _ (line_options_found k fits options s) (λ o. refl))))
      (λ h s. given (slot_for k.contexts context) _ at (λ j. given (slot_for k.ephemerals name) _ (ephemeral_found k fits name h) (λ i. given (ephemeral_options_for k options) _ (ephemeral_options_found k fits options s) (λ o. refl))))
  command_found (Subtract context name) e =
      given (slot_for k.contexts context) _ (context_found k fits context (and_left _ _ e)) (λ j. given (termination_for k name) _ (termination_found k fits name (and_right _ _ e)) (λ t. refl))
  command_found (SubtractAll context) e = given (slot_for k.contexts context) _ (context_found k fits context e) (λ j. refl)
  command_found (SetTopology context first second topology) e =
      let r : (termination_known k first && termination_known k second) ≡ true = and_right (is_among context k.contexts) _ e in
      given (slot_for k.contexts context) _ (context_found k fits context (and_left (is_among context k.contexts) (termination_known k first && termination_known k second) e))
      (λ j. given (termination_for k first) _ (termination_found k fits first (and_left (termination_known k first) (termination_known k second) r)) (λ t. given (termination_for k second) _ (termination_found k fits second (and_right (termination_known k first) (termination_known k second) r)) (λ u. refl)))

  pair_found : (p : WrittenPair) → pair_known k p ≡ true → is_some (pair_for k p) ≡ true
  unfolding pair_for
  pair_found p e =
      given (slot_for k.lines p.first) _ (line_found k fits p.first (and_left _ _ e)) (λ i. given (slot_for k.lines p.second) _ (line_found k fits p.second (and_right _ _ e)) (λ j. refl))

  transition_found : (t : WrittenTransition) → transition_known k t ≡ true → is_some (transition_for k t) ≡ true
  unfolding transition_for
  transition_found t e =
      given (slot_for k.lines t.line) _ (line_found k fits t.line (and_left _ _ e)) (λ i. given (number_for k.states t.target) _ (number_found k.states t.target fits.states (and_right _ _ e)) (λ j. refl))

  item_found : (i : WrittenItem) → item_known k i ≡ true → is_some (item_for k i) ≡ true
  unfolding item_known item_for
  item_found (OnHook strict) e = refl
  item_found (OffHook strict) e = refl
  item_found Flash e = refl
  item_found (Digits map) e = given (number_for k.maps map) _ (number_found k.maps map fits.maps e) (λ place. refl)

  list_found : (list : Events) → list_all (λ i. item_known k i) list.items ≡ true → is_some (events_list_for k list) ≡ true
  unfolding events_list_for
  list_found list e = given (each (item_for k) list.items) _ (each_found (item_for k) (λ i. item_known k i) item_found list.items e) (λ items. refl)

  state_found : (s : State) → state_known k s ≡ true → is_some (state_for k s) ≡ true
  unfolding state_known state_for
  state_found s e =
      let e2 = and_right (list_all (λ c. command_known k c) s.commands) _ e in
      let e3 = and_right (list_all (λ p. pair_known k p) s.talk) _ e2 in
      let e4 = and_right (list_all (λ t. transition_known k t) s.on) _ e3 in
      let e5 = and_right (is_known k.states s.ok) _ e4 in
      given (each (command_for k) s.commands) _ (each_found (command_for k) (λ c. command_known k c) command_found s.commands (and_left _ _ e))
      (λ commands. given (each (pair_for k) s.talk) _ (each_found (pair_for k) (λ p. pair_known k p) pair_found s.talk (and_left _ _ e2))
      (λ talk. given (optional_at (number_for k.states) s.ok) _ (target_found k fits s.ok (and_left _ _ e4))
      (λ ok. given (optional_at (number_for k.states) s.fault) _ (target_found k fits s.fault (and_left _ _ e5))
      (λ fault. given (optional_at (number_for k.states) s.timer) _ (target_found k fits s.timer (and_right _ _ e5))
      (λ timer. given (each (transition_for k) s.on) _ (each_found (transition_for k) (λ t. transition_known k t) transition_found s.on (and_left _ _ e3))
      (λ on. refl))))))

-- ---- maps

read_found : {A : Type 0} (r : Result A MapFault) → is_err r ≡ false → is_some (if_read r) ≡ true
read_found (Ok x) e = refl
read_found (Err fault) e = absurd cc

maps_found : (ms : List WrittenMap) → list_any (λ m. is_bad_map m) ms ≡ false → is_some (each named_map_for ms) ≡ true
unfolding named_map_for
maps_found [] e = refl
maps_found (m ∷ ms) e =
    given (named_map_for m) _ (given (if_read (map_of m.text)) _ (read_found (map_of m.text) (or_left _ _ e)) (λ found. refl))
    (λ first. given (each named_map_for ms) _ (maps_found ms (or_right _ _ e)) (λ others. refl))

-- ---- the document

few_names : {A : Type 0} (f : A → List ℕ) (n : ℕ) (xs : List A) → length xs ≤ n → length (map f xs) ≤ n
few_names f n xs e = rw (length-map xs f) e

fitting : (d : Document) → IsSmall d → Fits (scope_of d)
fitting d s =
    record {
      lines = s.lines;
      contexts = s.contexts;
      ephemerals = s.ephemerals;
      states = few_names (λ s. s.name) 64 d.states s.states;
      events = few_names (λ s. s.name) 16 d.events s.events;
      signals = few_names (λ s. s.name) 64 d.signals (let h = s.signals in omega arith);
      maps = few_names (λ s. s.name) 64 d.maps (let h = s.maps in omega arith);
    }

state_at_found : (d : Document) → Fits (scope_of d) → (o : Option (List ℕ)) → names_state d o ≡ true → is_some (state_at (scope_of d) o) ≡ true
state_at_found d fits None e = absurd cc
state_at_found d fits (Some name) e = number_found (map (λ s. s.name) d.states) name fits.states e

allowed : {A : Type 0} (b : Bool) (o : Option A) → b ≡ false → is_some o ≡ true → is_some (only_if (not b) o) ≡ true
allowed true o e h = absurd cc
allowed false o e h = h

known : (d : Document) → has_unknown d ≡ false
    → (list_all (λ e. list_all (λ i. item_known (scope_of d) i) e.items) d.events && list_all (λ s. state_known (scope_of d) s) d.states) ≡ true
unfolding has_unknown
known d e = holds _ e

none_bad : (d : Document) → has_bad_map d ≡ false → list_any (λ m. is_bad_map m) d.maps ≡ false
unfolding has_bad_map
none_bad d e = e

-- a document without a fault has a table
pub table_found : (d : Document) → fault_of d ≡ None → is_some (script_meant d) ≡ true
unfolding script_in
table_found d e =
    let f = faultless d e in
    let k = scope_of d in
    let fits = fitting d (small d f.large) in
    let uses = known d f.unknown in
    allowed (is_too_large d) _ f.large
    (given (each (events_list_for k) d.events) _ (each_found (events_list_for k) (λ e. list_all (λ i. item_known k i) e.items) (list_found k fits) d.events (and_left _ _ uses))
    (λ lists. given (each named_map_for d.maps) _ (maps_found d.maps (none_bad d f.maps))
    (λ maps. given (each (state_for k) d.states) _ (each_found (state_for k) (λ s. state_known k s) (state_found k fits) d.states (and_right _ _ uses))
    (λ states. given (state_at k d.start) _ (state_at_found d fits d.start f.start)
    (λ start. given (state_at k d.restart) _ (state_at_found d fits d.restart f.restart)
    (λ restart. refl))))))

pub never_lacks : (d : Document) → fault_of d ≡ None → (k : Scope) → k ≡ scope_of d → script_in k d ≡ None → ⊥
never_lacks d e k is none =
    let there : is_some (script_in (scope_of d) d) ≡ true = table_found d e in
    let gone : script_in (scope_of d) d ≡ None = ap (λ (j : Scope). script_in j d) (sym is) ∙ none in
    let both : is_some (script_in (scope_of d) d) ≡ false = ap (λ o. is_some o) gone in
    cc (there, both)

-- ---- what an end says

pub lacks_none : {A : Type 0} (e : Missing) (meaning : Option A) → e ≡ Nothing → Misses e meaning → meaning ≡ None
lacks_none e meaning is h = subst (λ (u : Missing). Misses u meaning) is h
