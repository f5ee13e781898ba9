-- No state of a table that bytes are read as has more than 16 commands: a document with such a state has a fault, and a state means as
-- many commands as are written.
use Rattle.std.proofs.Common.{◌≡◌, ◌≤◌, ℕ, List, [], ◌∷◌, length, false, nat_lt, sym, subst, Some, None}
use Rattle.std.specs.Prelude.{Ok}
use Rattle.mg_model.specs.Accepted.{HasFewCommands}
use Rattle.mg_model.specs.Script.{Script, State}
use Rattle.scriptreader.specs.DeclaredNames.{Scope, scope_of}
use Rattle.scriptreader.specs.Faults.{fault_of}
use Rattle.scriptreader.specs.Meaning.{number_for, command_for, pair_for, transition_for, state_for, events_list_for, named_map_for, state_at, script_in, script_meant}
use Rattle.scriptreader.specs.Reading.{ReadsScript}
use Rattle.scriptreader.specs.Written as document
use Rattle.typed_values.specs.Shape.{each, optional_at}
use Rattle.scriptreader.proofs.Accepted.{each_has, read_has}
use Rattle.scriptreader.proofs.Declared.{carried}
use Rattle.scriptreader.proofs.SmallDocuments.{at_most, small}
use Rattle.scriptreader.proofs.FaultlessDocuments.{faultless}
use Rattle.scriptreader.proofs.Lengths.{each_length}
use Rattle.scriptreader.proofs.Slots.{bound, kept}

state_few : (k : Scope) (s : document.State) (state : State) → nat_lt 16 (length s.commands) ≡ false → state_for k s ≡ Some state → length state.commands ≤ 16
unfolding state_for
state_few k s state few e =
    bound (each (command_for k) s.commands) _ state e (λ commands are e2.
    bound (each (pair_for k) s.talk) _ state e2 (λ talk at3 e3.
    bound (optional_at (number_for k.states) s.ok) _ state e3 (λ ok at4 e4.
    bound (optional_at (number_for k.states) s.fault) _ state e4 (λ fault at5 e5.
    bound (optional_at (number_for k.states) s.timer) _ state e5 (λ timer at6 e6.
    bound (each (transition_for k) s.on) _ state e6 (λ on at7 same.
    carried (λ (meant : State). length meant.commands ≤ 16) (record { name = s.name; commands = commands; talk = talk; is_end = s.is_end; ok = ok; fault = fault; timer = timer; on = on }) state same
    (subst (λ (n : ℕ). n ≤ 16) (sym (each_length (command_for k) s.commands commands are)) (at_most 16 s.commands few))))))))

-- the table of a document without a fault
meant_few : (d : document.Document) (table : Script) → fault_of d ≡ None → script_meant d ≡ Some table → HasFewCommands table
unfolding script_in
meant_few d table none e =
    let few = (small d (faultless d none).large).commands in
    bound (each (events_list_for (scope_of d)) d.events) _ table (kept _ _ table e) (λ lists at2 e2.
    bound (each named_map_for d.maps) _ table e2 (λ maps at3 e3.
    bound (each (state_for (scope_of d)) d.states) _ table e3 (λ states are e4.
    bound (state_at (scope_of d) d.start) _ table e4 (λ start at5 e5.
    bound (state_at (scope_of d) d.restart) _ table e5 (λ restart at6 same.
    carried HasFewCommands _ table same
    (each_has (state_for (scope_of d)) (λ s. nat_lt 16 (length s.commands)) (λ state. length state.commands ≤ 16) (state_few (scope_of d)) d.states states few are))))))

pub few_commands : (bytes : List ℕ) (table : Script) → ReadsScript bytes (Ok table) → HasFewCommands table
few_commands = read_has HasFewCommands meant_few
