-- The run in which a user dials too little, world by world: line 1 goes off hook, the call enters `dial`, its request is executed and answered, a symbol and a
-- pause follow, and the note of that is taken.
use Rattle.std.proofs.Common.{◌≡◌, ◌∙◌, [], ◌∷◌, Option, Some, None, refl, sym, arith, inl}
use Rattle.std.specs.Prelude.{unwrap_or}
use Rattle.mg_names.specs.declared.identifiers.TermId.TheVariants.{Line}
use Rattle.mg_names.specs.declared.kinds.Kind.TheVariants.{Part}
use Rattle.mg_names.specs.declared.symbols.Symbol.TheVariants.{One}
use Rattle.mg_model.specs.declared.line_events.LineEvent.TheVariants as event
use Rattle.mg_model.specs.declared.line_events.Method.TheVariants.{Partial}
use Rattle.mg_model.specs.declared.references.TerminationRef.TheVariants as on
use Rattle.mg_model.specs.declared.transitions.EventItem.TheVariants.{Digits}
use Rattle.mg_model.specs.DigitMaps.{collecting, completed}
use Rattle.mg_model.specs.Items.{effect}
use Rattle.mg_model.specs.LineEvents.{Note, Outcome}
use Rattle.mg_model.specs.Messages.{modify}
use Rattle.mg_model.specs.World.{Runs}
use Rattle.mg_model.proofs.Cases.{by_test, false_not_true}
use Rattle.mg_model.proofs.Single.{first_in}
use Rattle.mg_examples.proofs.Words.{Agent, AgentSteps, AlreadyInContext, Board, Done, InsufficientResources, InternalFailure, IsExecuted, IsLegal, IsSettled}
use Rattle.mg_examples.proofs.Words.{LineRow, NotInContext, Number, Reply, Request, RequestCommand, Row, SentNote, TermId, UnknownContext, UnknownTermination}
use Rattle.mg_examples.proofs.Words.{World, agent_steps, item_at, line_places, noted, null, null_row, place_in, place_of, replied, same_term}
use Rattle.mg_examples.specs.Dials.{dials, eleven}
use Rattle.mg_examples.specs.DigitsAreNotEnough.{to_a_pause}
use Rattle.mg_examples.specs.Talk.{call, off_hook}
use Rattle.mg_examples.proofs.Creations.{none_listed, picks}
use Rattle.mg_examples.proofs.LineSteps.{occurs, world_after}
use Rattle.mg_examples.proofs.OneCommand as request
use Rattle.mg_examples.proofs.RunSteps.{◌after◌▹◌}
use Rattle.mg_examples.proofs.TwoLinesOpening.{agent, all_null, board, goes_off, off, off_hook_world, opened_world}

-- ---- the call enters `dial`

abbrev pub w0 : World
w0 = opened_world dials (call ∷ [])

abbrev pub w1 : World
w1 = off_hook_world w0 call

abbrev before : Agent
before = agent dials call

abbrev asking : Agent
asking = unwrap_or (noted dials before (line_places dials) (off_hook call)) before

abbrev w2 : World
w2 = agent_steps w1 7 asking

enters : AgentSteps w1 7 (λ a. noted dials a (line_places dials) (off_hook call)) w2
enters = record { before = before; agent = asking; open_call = refl; steps = refl; after_is = refl }

-- ---- its request is executed

-- line 1, in the null context, gets the list with the map
abbrev pub command : RequestCommand
command = modify (Number (record { 0 = null })) (on.Line (record { 0 = 1 })) record {
  mode = None;
  remote = None;
  events = Some (Digits eleven ∷ []);
  signals = None;
}

abbrev pub asked : Request
asked = request.asks 7 1 command

abbrev start : Board
start = board (call ∷ [])

abbrev modified : Board
modified = effect start (item_at [] command) (picks 1)

abbrev done : Done
done = record { context = None; ephemeral = None; lines = []; ephemerals = [] }

legal : IsLegal start (item_at [] command)
legal UnknownContext h = h.0 refl
legal UnknownTermination h = false_not_true h
legal AlreadyInContext h = false_not_true h
legal NotInContext h = false_not_true h
legal InternalFailure h = h
legal InsufficientResources h = h

is_modified : IsExecuted start (item_at [] command) modified done
is_modified = record {
  chosen = picks 1;
  fresh = record { context = λ h. absurd (false_not_true h); ephemeral = λ h. absurd (false_not_true h) };
  legal = legal;
  effect_is = refl;
  result = record { context = refl; ephemeral = refl; lines = none_listed; ephemerals = none_listed };
}

-- nothing is moved by it
all_in_null : (t : TermId) → place_of modified t ≡ null
all_in_null t =
    by_test (λ (row : Option Row). place_in row ≡ null) (Some null_row) (start.row t) (same_term t (Line (record { 0 = 1 })))
    (λ e. refl) (λ e. all_null (call ∷ []) t)

is_settled : IsSettled modified modified
is_settled = record {
  row = refl;
  cut = refl;
  class = refl;
  contexts = λ n. (λ h. absurd (false_not_true h), λ there. absurd (there.0 (sym there.1.1 ∙ all_in_null there.1.0)));
  ephemerals = λ k. refl;
}

abbrev pub w3 : World
w3 = request.world_after w2 7 1 command modified modified done

abbrev pub answer : Reply
answer = request.answer 7 1 done

-- ---- the reply is taken, and the call rests in `dial`

abbrev waiting : Agent
waiting = unwrap_or (replied dials asking answer) asking

abbrev w4 : World
w4 = agent_steps w3 7 waiting

takes_reply : AgentSteps w3 7 (λ a. replied dials a answer) w4
takes_reply = record { before = asking; agent = waiting; open_call = refl; steps = refl; after_is = refl }

-- ---- the user dials 1, and then nothing more

abbrev listening : LineRow
listening = record off { list = Digits eleven ∷ []; request = Some 1 }

abbrev pub collects : Outcome
collects = record { row = record listening { digits = collecting (One ∷ []) }; note = None }

abbrev pub w5 : World
w5 = world_after w4 7 1 collects

abbrev part : Note
part = record { kind = Part; request = 1; method = Some Partial; symbols = One ∷ [] }

abbrev pub pauses : Outcome
pauses = record { row = record listening { digits = completed }; note = Some part }

abbrev w6 : World
w6 = world_after w5 7 1 pauses

abbrev pub told_part : SentNote
told_part = record { call = 7; association = 1; number = 2; line = 1; note = part }

-- ---- the note of that is taken, and leads nowhere

abbrev pub still : Agent
still = unwrap_or (noted dials waiting (line_places dials) told_part) waiting

abbrev pub w7 : World
w7 = agent_steps w6 7 still

takes_note : AgentSteps w6 7 (λ a. noted dials a (line_places dials) told_part) w7
takes_note = record { before = waiting; agent = still; open_call = refl; steps = refl; after_is = refl }

-- ---- the run

pub run : Runs dials to_a_pause w0 w7
unfolding Runs
run =
    w1 after goes_off w0 call (record { association = refl; held = refl; is_armed = refl; none_sent = refl })
    ▹ w2 after (off_hook call, (first_in (off_hook call) [], refl, refl), enters)
    ▹ w3 after (
      asked,
      (first_in asked [], refl, refl),
      inl (request.executes w2 7 1 command modified modified done is_modified is_settled refl (omega (arith))),
    )
    ▹ w4 after (answer, (first_in answer [], refl, refl), takes_reply)
    ▹ w5 after occurs w4 7 1 collects (event.Digit One) refl refl (omega (arith))
    ▹ w6 after occurs w5 7 1 pauses event.Pause refl refl (omega (arith))
    ▹ w7 after (told_part, (first_in told_part (off_hook call ∷ []), refl, refl), takes_note)
    ▹ refl
