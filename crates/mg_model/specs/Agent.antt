-- The agent of one call: the state that it is in, what its names stand for, what it waits for, and its steps. This profile's
-- own. A reader should check exactly when each step is enabled, what a reply binds, and that a note leads on only where its
-- RequestID is the one that is expected of its line.
use Rattle.std.specs.Prelude.{ℕ, ◌+◌, ◌==◌, Bool, true, false, not, ◌&&◌, if◌then◌else◌, nat_lt, nat_le, List, [], ◌∷◌, length, Option, Some, None, unwrap_or, option_map, is_some}
use Rattle.std.specs.List.{list_any}
use Rattle.mg_model.specs.declared.commands.Command.{Command}
use Rattle.mg_model.specs.declared.commands.Command.TheVariants.{AddLine, AddEphemeral, ModifyLine, ModifyEphemeral, MoveLine, MoveEphemeral, Subtract, SubtractAll, SetTopology}
use Rattle.mg_model.specs.declared.commands.EphemeralOptions.{EphemeralOptions}
use Rattle.mg_model.specs.declared.commands.LineOptions.{LineOptions}
use Rattle.mg_model.specs.declared.commands.Place.{Place}
use Rattle.mg_model.specs.declared.commands.Place.TheVariants.{NullContext, Context}
use Rattle.mg_model.specs.declared.commands.RemoteOption.{RemoteOption}
use Rattle.mg_model.specs.declared.commands.RemoteOption.TheVariants.{NoneGiven, Peer}
use Rattle.mg_model.specs.declared.commands.Termination.{Termination}
use Rattle.mg_model.specs.declared.commands.Termination.TheVariants as termination
use Rattle.mg_model.specs.declared.failures.Failure.{Failure}
use Rattle.mg_model.specs.declared.references.ContextRef.{ContextRef}
use Rattle.mg_model.specs.declared.references.ContextRef.TheVariants.{Number, MadeAt}
use Rattle.mg_model.specs.declared.references.EphemeralRef.{EphemeralRef}
use Rattle.mg_model.specs.declared.references.EphemeralRef.TheVariants as ephemeral
use Rattle.mg_model.specs.declared.references.RemoteRef.{RemoteRef}
use Rattle.mg_model.specs.declared.references.RemoteRef.TheVariants.{Nothing, To}
use Rattle.mg_model.specs.declared.references.TerminationRef.{TerminationRef}
use Rattle.mg_model.specs.declared.references.TerminationRef.TheVariants.{Line, Ephemeral}
use Rattle.mg_model.specs.Delivery.{Inbox, arrival, is_new, with_accepted}
use Rattle.mg_model.specs.Items.{Done}
use Rattle.mg_model.specs.LineEvents.{Note}
use Rattle.mg_model.specs.ListContents.{list_of, set_of}
use Rattle.mg_model.specs.Messages.{Descriptors, RequestCommand, add_line, add_ephemeral, modify, move, subtract, subtract_all, set_topology, Request, Reply, SentNote}
use Rattle.mg_model.specs.Numbers.{null, choose, all, no_ephemeral, first_association, first_number, opening_request, last_number, the_context, the_line}
use Rattle.mg_model.specs.Request.{Names, built, created_context, created_ephemeral}
use Rattle.mg_model.specs.Script.{Script}
use Rattle.mg_model.specs.Tables.{state_of, target_in, is_empty}
use Rattle.mg_model.specs.Updates.{with_at}

-- what the agent waits for: the reply to a request, or `pass` where its request was empty; or it is at rest
pub data Phase : Type 0 where
  awaits_reply : Request → Phase
  awaits_pass : Phase
  resting : Phase

pub record Agent : Type 0 where
  pub call : ℕ
  pub state : ℕ
  pub phase : Phase
  pub association : ℕ
  -- the line of the gateway for each line of the script
  pub lines : ℕ → ℕ
  -- what the names of contexts and ephemerals are bound to
  pub contexts : ℕ → Option ℕ
  pub ephemerals : ℕ → Option ℕ
  -- the number of the next request
  pub next : ℕ
  -- of each line the RequestID that is expected in its notes
  pub expected : ℕ → Option ℕ
  -- the numbers of the notes that were accepted in this association
  pub accepted : ℕ → Bool

-- ---- a request, by identifiers and places

-- the places of the commands that created names, so far in the request
pub record Made : Type 0 where
  pub contexts : ℕ → Option ℕ
  pub ephemerals : ℕ → Option ℕ

abbrev pub none_made : Made
none_made = record { contexts = λ j. None; ephemerals = λ k. None }

abbrev pub at_place : (ℕ → Option ℕ) → Option ℕ → ℕ → ℕ → Option ℕ
at_place made None place = made
at_place made (Some name) place = with_at made name (Some place)

abbrev pub made_after : Made → Command → ℕ → Made
made_after made command place = record {
  contexts = at_place made.contexts (created_context command) place;
  ephemerals = at_place made.ephemerals (created_ephemeral command) place;
}

-- a name that the request created means what it created, and else what it is bound to
abbrev pub context_or : Option ℕ → Option ℕ → ContextRef
context_or (Some place) bound = MadeAt place
context_or None bound = Number (the_context (unwrap_or bound all))

abbrev pub ephemeral_or : Option ℕ → Option ℕ → EphemeralRef
ephemeral_or (Some place) bound = ephemeral.MadeAt place
ephemeral_or None bound = ephemeral.Number (unwrap_or bound no_ephemeral)

abbrev pub context_ref : Agent → Made → ℕ → ContextRef
context_ref a made j = context_or (made.contexts j) (a.contexts j)

abbrev pub ephemeral_ref : Agent → Made → ℕ → EphemeralRef
ephemeral_ref a made k = ephemeral_or (made.ephemerals k) (a.ephemerals k)

abbrev pub added_to : Agent → Made → Bool → ℕ → ContextRef
added_to a made create j = if create then Number (the_context choose) else context_ref a made j

abbrev pub place_ref : Agent → Made → Place → ContextRef
place_ref a made NullContext = Number (the_context null)
place_ref a made (Context j) = context_ref a made j

abbrev pub termination_ref : Agent → Made → Termination → TerminationRef
termination_ref a made (termination.Line i) = Line (the_line (a.lines i))
termination_ref a made (termination.Ephemeral k) = Ephemeral (ephemeral_ref a made k)

abbrev pub remote_ref : Agent → Made → RemoteOption → RemoteRef
remote_ref a made NoneGiven = Nothing
remote_ref a made (Peer k) = To (ephemeral_ref a made k)

abbrev pub line_descriptors : Script → LineOptions → Descriptors
line_descriptors script o = record {
  mode = o.mode;
  remote = None;
  events = option_map (list_of script) o.events;
  signals = option_map (set_of script) o.signals;
}

abbrev pub ephemeral_descriptors : Agent → Made → EphemeralOptions → Descriptors
ephemeral_descriptors a made o = record { mode = o.mode; remote = option_map (remote_ref a made) o.remote; events = None; signals = None }

abbrev pub command_of : Script → Agent → Made → Command → RequestCommand
command_of script a made (AddLine create j i o) = add_line (added_to a made create j) (a.lines i) (line_descriptors script o)
command_of script a made (AddEphemeral create j k o) = add_ephemeral (added_to a made create j) (ephemeral_descriptors a made o)
command_of script a made (ModifyLine place i o) = modify (place_ref a made place) (Line (the_line (a.lines i))) (line_descriptors script o)
command_of script a made (ModifyEphemeral place k o) =
    modify (place_ref a made place) (Ephemeral (ephemeral_ref a made k)) (ephemeral_descriptors a made o)
command_of script a made (MoveLine j i o) = move (context_ref a made j) (Line (the_line (a.lines i))) (line_descriptors script o)
command_of script a made (MoveEphemeral j k o) =
    move (context_ref a made j) (Ephemeral (ephemeral_ref a made k)) (ephemeral_descriptors a made o)
command_of script a made (Subtract j t) = subtract (context_ref a made j) (termination_ref a made t)
command_of script a made (SubtractAll j) = subtract_all (context_ref a made j)
command_of script a made (SetTopology j t u topology) =
    set_topology (context_ref a made j) (termination_ref a made t) (termination_ref a made u) topology

abbrev pub commands_of : Script → Agent → Made → ℕ → List Command → List RequestCommand
commands_of script a made place [] = []
commands_of script a made place (command ∷ more) =
    command_of script a made command ∷ commands_of script a (made_after made command place) (place + 1) more

-- the names that are bound
abbrev pub bound_by : Agent → Names
bound_by a = record { contexts = λ j. is_some (a.contexts j); ephemerals = λ k. is_some (a.ephemerals k) }

-- the script's commands of the request that a state builds
abbrev pub built_by : Script → Agent → ℕ → List Command
built_by script a state = built (bound_by a) (state_of script state).commands

abbrev pub request_of : Script → Agent → ℕ → Request
request_of script a state =
    record { call = a.call; association = a.association; number = a.next; commands = commands_of script a none_made 0 (built_by script a state) }

-- an empty request is not sent, and takes no number; the numbers end
abbrev pub entered_with : Script → Agent → ℕ → Bool → Option Agent
entered_with script a state true = Some (record a { state = state; phase = awaits_pass })
entered_with script a state false =
    if nat_le a.next last_number
    then Some (record a { state = state; phase = awaits_reply (request_of script a state); next = a.next + 1 })
    else None

-- the agent that entered a state; nothing where no number is left for the request
abbrev pub entered : Script → Agent → ℕ → Option Agent
entered script a state = entered_with script a state (is_empty (built_by script a state))

-- a target is entered, or the call rests where there is none
abbrev pub entered_or_rests : Script → Agent → Option ℕ → Option Agent
entered_or_rests script a None = Some (record a { phase = resting })
entered_or_rests script a (Some state) = entered script a state

abbrev pub entered_if : Script → Agent → Option ℕ → Option Agent
entered_if script a None = None
entered_if script a (Some state) = entered script a state

abbrev pub bound_if : Bool → (ℕ → Option ℕ) → ℕ → Option ℕ → ℕ → Option ℕ
bound_if creates bound name number = if creates then with_at bound name number else bound

abbrev pub expected_if : Bool → (ℕ → Option ℕ) → ℕ → ℕ → ℕ → Option ℕ
expected_if carries expected line number = if carries then with_at expected line (Some number) else expected

abbrev pub is_listed : List ℕ → Option ℕ → Bool
is_listed numbers None = false
is_listed numbers (Some n) = list_any (λ other. other == n) numbers

-- a command that was done, with its result: what it created is bound, an ephemeral that it subtracted is not; `subtract *` unbinds
-- its context and each ephemeral that the result lists. Events make the request's number expected, a Subtract none
abbrev pub after_result : Agent → Command → Done → ℕ → Agent
after_result a (AddLine create j i o) done number = record a {
  contexts = bound_if create a.contexts j done.context;
  expected = expected_if (is_some o.events) a.expected i number;
}
after_result a (AddEphemeral create j k o) done number = record a {
  contexts = bound_if create a.contexts j done.context;
  ephemerals = with_at a.ephemerals k done.ephemeral;
}
after_result a (ModifyLine place i o) done number = record a { expected = expected_if (is_some o.events) a.expected i number }
after_result a (MoveLine j i o) done number = record a { expected = expected_if (is_some o.events) a.expected i number }
after_result a (Subtract j (termination.Line i)) done number = record a { expected = with_at a.expected i None }
after_result a (Subtract j (termination.Ephemeral k)) done number = record a { ephemerals = with_at a.ephemerals k None }
after_result a (SubtractAll j) done number = record a {
  contexts = with_at a.contexts j None;
  ephemerals = λ k. if is_listed done.ephemerals (a.ephemerals k) then None else a.ephemerals k;
  expected = λ i. if is_listed done.lines (Some (a.lines i)) then None else a.expected i;
}
after_result a command done number = a

abbrev pub after_results : Agent → List Command → List Done → ℕ → Agent
after_results a [] results number = a
after_results a (command ∷ more) [] number = a
after_results a (command ∷ more) (done ∷ results) number = after_results (after_result a command done number) more results number

abbrev pub leads_on : Script → Agent → Agent → Option Failure → Option Agent
leads_on script was a None = entered_or_rests script a (state_of script was.state).ok
leads_on script was a (Some failure) = entered_if script a (state_of script was.state).fault

-- a reply to this request
abbrev pub answers : Reply → Request → Bool
answers reply request = (reply.call == request.call) && ((reply.association == request.association) && reply.number == request.number)

-- the reply to the outstanding request is taken
abbrev pub replied_to : Script → Agent → Phase → Reply → Option Agent
replied_to script a (awaits_reply request) reply =
    if answers reply request
    then leads_on script a (after_results a (built_by script a a.state) reply.results reply.number) reply.failure
    else None
replied_to script a awaits_pass reply = None
replied_to script a resting reply = None

abbrev pub replied : Script → Agent → Reply → Option Agent
replied script a reply = replied_to script a a.phase reply

-- an empty request counts as answered without a failure
abbrev pub passed_in : Script → Agent → Phase → Option Agent
passed_in script a awaits_pass = entered_or_rests script a (state_of script a.state).ok
passed_in script a (awaits_reply request) = None
passed_in script a resting = None

abbrev pub passed : Script → Agent → Option Agent
passed script a = passed_in script a a.phase

-- the script's line of a line of the gateway
abbrev pub line_in : Agent → ℕ → List ℕ → Option ℕ
line_in a l [] = None
line_in a l (i ∷ more) = if a.lines i == l then Some i else line_in a l more

abbrev pub same_number : Option ℕ → ℕ → Bool
same_number None n = false
same_number (Some m) n = m == n

-- where a note leads: nowhere, unless its RequestID is the one that is expected of its line
abbrev pub target_of : Script → Agent → Option ℕ → Note → Option ℕ
target_of script a None note = None
target_of script a (Some i) note =
    if same_number (a.expected i) note.request then target_in (state_of script a.state).on i note.kind else None

abbrev pub entered_or_stays : Script → Agent → Option ℕ → Option Agent
entered_or_stays script a None = Some a
entered_or_stays script a (Some state) = entered script a state

abbrev pub is_resting : Phase → Bool
is_resting resting = true
is_resting awaits_pass = false
is_resting (awaits_reply request) = false

abbrev pub inbox_of : Agent → Inbox
inbox_of a = record { association = a.association; accepted = a.accepted }

-- a note to this call is accepted at rest, in a state that isn't an end, where it is new to the inbox
abbrev pub may_accept : Script → Agent → SentNote → Bool
may_accept script a sent =
    (sent.call == a.call)
    && (is_resting a.phase && not (state_of script a.state).is_end && is_new (arrival (inbox_of a) sent.association sent.number))

abbrev pub noted : Script → Agent → List ℕ → SentNote → Option Agent
noted script a slots sent =
    if may_accept script a sent
    then entered_or_stays script (record a { accepted = (with_accepted (inbox_of a) sent.number).accepted }) (target_of script a (line_in a sent.line slots) sent.note)
    else None

abbrev pub timed : Script → Agent → Option Agent
timed script a = if is_resting a.phase then entered_if script a (state_of script a.state).timer else None

-- what is left of the agent when it hears of a newer association
abbrev pub forgotten : Agent → ℕ → Agent
forgotten a association = record a {
  association = association;
  contexts = λ j. None;
  ephemerals = λ k. None;
  expected = λ i. None;
  accepted = λ n. false;
}

-- it hears of a newer association, in any phase: the restart state is entered
abbrev pub heard : Script → Agent → ℕ → Option Agent
heard script a association =
    if nat_lt a.association association then entered script (forgotten a association) script.restart else None

-- the agent that a call opens with: at rest in the start state, each line expected to report with RequestID 0
abbrev pub opened : Script → ℕ → (ℕ → ℕ) → Agent
opened script call lines = record {
  call = call;
  state = script.start;
  phase = resting;
  association = first_association;
  lines = lines;
  contexts = λ j. None;
  ephemerals = λ k. None;
  next = first_number;
  expected = λ i. if nat_lt i (length script.lines) then Some opening_request else None;
  accepted = λ n. false;
}

-- an agent that begins on the lines of a call that has ended: at rest in the start state and in the same association, with the next number
-- and the RequestIDs that are expected of the old one
abbrev pub begun : Script → ℕ → Agent → Agent
begun script call old = record (opened script call old.lines) { association = old.association; next = old.next; expected = old.expected }
