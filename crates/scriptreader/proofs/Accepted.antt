-- A table that bytes are read as is an accepted script.
use Rattle.std.proofs.Common.{◌≡◌, ℕ, List, [], ◌∷◌, ◌++◌, map, Bool, false, not, refl, subst, Option, Some, None}
use Rattle.std.specs.Prelude.{Ok}
use Rattle.std.specs.List.{All, list_any, flat_map}
use Rattle.std.proofs.lemmas.List.Elements.{All-nil, All-cons}
use Rattle.std.proofs.lemmas.List.Folds.{list_any_none}
use Rattle.mg_model.specs.Accepted.{IsCommandOf, IsStateOf, IsScript}
use Rattle.mg_model.specs.Script.{Script, State}
use Rattle.mg_model.specs.declared.commands.Command.{Command}
use Rattle.mg_names.specs.Words.{signal_text}
use Rattle.scriptreader.specs.declared.fault.ScriptFault.{ScriptFault}
use Rattle.scriptreader.specs.declared.syntax.WrittenCommand.{WrittenCommand}
use Rattle.scriptreader.specs.Documents.{document_in}
use Rattle.scriptreader.specs.Limits.{is_too_large}
use Rattle.scriptreader.specs.DeclaredNames.{Scope, scope_of, event_text, repeats}
use Rattle.scriptreader.specs.Faults.{is_one_line, is_loop, created_by, state_repeats, has_duplicate, fault_of}
use Rattle.typed_values.specs.Shape.{each, optional_at}
use Rattle.scriptreader.specs.Meaning.{number_for, command_for, pair_for, transition_for, state_for, events_list_for, signals_list_for, named_map_for, state_at, script_in, script_meant}
use Rattle.scriptreader.specs.Reading.{ReadsScript, document_read, fault_or_table, tree_read}
use Rattle.scriptreader.specs.Written as document
use Rattle.scriptreader.proofs.Created.{created_once}
use Rattle.scriptreader.proofs.Declared.{Declares, carried, command_within}
use Rattle.scriptreader.proofs.SmallDocuments.{small}
use Rattle.scriptreader.proofs.FaultlessDocuments.{IsFaultless, faultless}
use Rattle.scriptreader.proofs.BooleanTests.{or_left, or_right}
use Rattle.scriptreader.proofs.Slots.{bound, kept}

-- what holds of the meaning of each element that a test lets through holds of all meanings
pub each_has : {A B : Type 0} (f : A → Option B) (test : A → Bool) (P : B → Type 0) → ((x : A) (y : B) → test x ≡ false → f x ≡ Some y → P y)
    → (xs : List A) (ys : List B) → list_any test xs ≡ false → each f xs ≡ Some ys → All P ys
each_has f test P h [] ys none e = carried (All P) [] ys e (All-nil P)
each_has f test P h (x ∷ xs) ys none e =
    bound (f x) _ ys e (λ z is e2.
    bound (each f xs) _ ys e2 (λ zs are same.
    carried (All P) (z ∷ zs) ys same (All-cons P z zs (h x z (or_left (test x) (list_any test xs) none) is) (each_has f test P h xs zs (or_right (test x) (list_any test xs) none) are))))

module _ (k : Scope) (script : Script) (declares : Declares k script) where
  commands_within : (cs : List WrittenCommand) (ms : List Command) → each (command_for k) cs ≡ Some ms → All (IsCommandOf script) ms
  commands_within cs ms e =
      each_has (command_for k) (λ c. false) (IsCommandOf script) (λ c m none is. command_within k script declares c m is) cs ms (list_any_none (λ c. false) cs (λ n d lt. refl)) e

  state_within : (s : document.State) (state : State) → state_repeats s ≡ false → state_for k s ≡ Some state → IsStateOf script state
  unfolding state_repeats state_for
  state_within s state none e =
      let once : repeats (flat_map created_by s.commands) ≡ false = or_right (list_any (λ command. is_loop command) s.commands) _ (or_right (list_any (λ pair. is_one_line pair) s.talk) _ none) in
      bound (each (command_for k) s.commands) _ state e (λ commands are e2.
      bound (each (pair_for k) s.talk) _ state e2 (λ talk at3 e3.
      bound (optional_at (number_for k.states) s.ok) _ state e3 (λ ok at4 e4.
      bound (optional_at (number_for k.states) s.fault) _ state e4 (λ fault at5 e5.
      bound (optional_at (number_for k.states) s.timer) _ state e5 (λ timer at6 e6.
      bound (each (transition_for k) s.on) _ state e6 (λ on at7 same.
      carried (IsStateOf script) (record { name = s.name; commands = commands; talk = talk; is_end = s.is_end; ok = ok; fault = fault; timer = timer; on = on }) state same
      (commands_within s.commands commands are, created_once k s.commands commands are once)))))))

  states_within : (d : document.Document) (states : List State) → has_duplicate d ≡ false → each (state_for k) d.states ≡ Some states → All (IsStateOf script) states
  unfolding has_duplicate
  states_within d states none e =
      let n2 = or_right (repeats (d.lines ++ (d.contexts ++ d.ephemerals))) _ none in
      let n3 = or_right (repeats (map (λ e. e.name) d.events)) _ n2 in
      let n4 = or_right (repeats (map (λ s. s.name) d.signals)) _ n3 in
      let n5 = or_right (repeats (map (λ m. m.name) d.maps)) _ n4 in
      let n6 = or_right (repeats (map (λ s. s.name) d.states)) _ n5 in
      let n7 = or_right (list_any (λ e. repeats (map event_text e.items)) d.events) _ n6 in
      let n8 : list_any (λ s. state_repeats s) d.states ≡ false = or_right (list_any (λ s. repeats (map signal_text s.items)) d.signals) _ n7 in
      each_has (state_for k) (λ s. state_repeats s) (IsStateOf script) state_within d.states states n8 e

-- the table of a document without a fault
meant : (d : document.Document) (table : Script) → fault_of d ≡ None → script_meant d ≡ Some table → IsScript table
unfolding script_in
meant d table none e =
    let f : IsFaultless d = faultless d none in
    let few = small d f.large in
    bound (each (events_list_for (scope_of d)) d.events) _ table (kept (not (is_too_large d)) _ table e) (λ lists at2 e2.
    bound (each named_map_for d.maps) _ table e2 (λ maps at3 e3.
    bound (each (state_for (scope_of d)) d.states) _ table e3 (λ states are e4.
    bound (state_at (scope_of d) d.start) _ table e4 (λ start at5 e5.
    bound (state_at (scope_of d) d.restart) _ table e5 (λ restart at6 same.
    let script : Script = record { lines = d.lines; contexts = d.contexts; ephemerals = d.ephemerals; lists = lists; signals = map signals_list_for d.signals; maps = maps; states = states; start = start; restart = restart } in
    carried IsScript script table same
    (record {
      lines = few.lines;
      ephemerals = few.ephemerals;
      contexts = few.contexts;
      states = states_within (scope_of d) script (record { lines = refl; contexts = refl; ephemerals = refl }) d states f.duplicate are;
    }))))))

-- what holds of the table of each document without a fault holds of each table that bytes are read as
pub read_has : (P : Script → Type 0) → ((d : document.Document) (table : Script) → fault_of d ≡ None → script_meant d ≡ Some table → P table)
    → (bytes : List ℕ) (table : Script) → ReadsScript bytes (Ok table) → P table
unfolding tree_read
read_has P of_meant bytes table h = of_shape (document_in h.0) h.2
  where
    of_table : (d : document.Document) (script : Option Script) → fault_of d ≡ None → script_meant d ≡ script → fault_or_table None script ≡ Some (Ok table) → P table
    of_table d None none is e = absurd cc
    of_table d (Some script) none is e =
        let same : script ≡ table = cc in
        subst P same (of_meant d script none is)

    of_fault : (d : document.Document) (fault : Option ScriptFault) → fault_of d ≡ fault → fault_or_table fault (script_meant d) ≡ Some (Ok table) → P table
    of_fault d (Some fault) is e = absurd cc
    of_fault d None is e = of_table d (script_meant d) is refl e

    of_shape : (o : Option document.Document) → document_read o ≡ Some (Ok table) → P table
    of_shape None e = absurd cc
    of_shape (Some d) e = of_fault d (fault_of d) refl e

pub accepted : (bytes : List ℕ) (table : Script) → ReadsScript bytes (Ok table) → IsScript table
accepted = read_has IsScript meant
