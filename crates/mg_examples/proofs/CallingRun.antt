-- A run of two lines where no state marks a pair: line 1 goes off hook, the note of it leads to the state `talk`, and its request is
-- executed. Then the lines 1 and 2 are joined.
use Rattle.std.proofs.Common.{List, [], ◌∷◌, None, refl, arith, inl}
use Rattle.std.specs.Prelude.{unwrap_or}
use Rattle.mg_model.specs.declared.line_events.Hook.TheVariants as hooks
use Rattle.mg_examples.proofs.Words.{Agent, noted, Script, line_places, Event, World, on_a_line, note, execute, AgentSteps, agent_steps}
use Rattle.mg_model.specs.declared.line_events.LineEvent.TheVariants as event
use Rattle.mg_model.specs.World.{Runs}
use Rattle.mg_examples.specs.Needed.{EndsBadly}
use Rattle.mg_examples.specs.Talk.{call, off_hook}
use Rattle.mg_model.proofs.Single.{first_in}
use Rattle.mg_examples.specs.TwoLines.{to_talk_off_hook, calling}
use Rattle.mg_examples.proofs.TwoLines.{none_marked}
use Rattle.mg_examples.proofs.TwoLinesOpening.{agent, opened_world, opens, one_call, off_hook_world, goes_off, opening_settled}
use Rattle.mg_examples.proofs.TalkExecuted.{executes}
use Rattle.mg_examples.proofs.TwoLinesJoined.{IsReady, is_ready, to_talk, talking_world, joined, not_good}

abbrev silent : Script
silent = calling []

abbrev w0 : World
w0 = opened_world silent (call ∷ [])

abbrev w1 : World
w1 = off_hook_world w0 call

abbrev before : Agent
before = agent silent call

abbrev talking : Agent
talking = unwrap_or (noted silent before (line_places silent) (off_hook call)) before

abbrev w2 : World
w2 = agent_steps w1 7 talking

enters : AgentSteps w1 7 (λ a. noted silent a (line_places silent) (off_hook call)) w2
enters = record { before = before; agent = talking; open_call = refl; steps = refl; after_is = refl }

ready : IsReady w2.gateway.board call 1
ready = is_ready w2.gateway.board call 1 (λ e. omega (arith, e)) (omega (arith), omega (arith)) (refl, refl, refl, refl, refl) (opening_settled (call ∷ []))

abbrev w3 : World
w3 = talking_world w2 call 1 ready

abbrev events : List Event
events = on_a_line 7 1 (event.Hook hooks.Off) ∷ note 7 1 ∷ execute 7 1 None ∷ []

run : Runs silent events w0 w3
unfolding Runs
run = (w1, (goes_off w0 call (record { association = refl; held = refl; is_armed = refl; none_sent = refl }), (w2, ((off_hook call, (first_in (off_hook call) [], refl, refl), enters), (w3, ((to_talk call 1, ((0, omega (arith), refl), refl, refl), inl (executes w2 call 1 ready refl refl (omega (arith)))), refl))))))

pub calling_ends_badly : EndsBadly (calling [])
calling_ends_badly = record {
  calls = call ∷ [];
  events = events;
  opening = w0;
  end = w3;
  opens = opens silent refl (call ∷ []) (one_call silent refl);
  runs = run;
  bad = not_good silent w3 1 2 (none_marked to_talk_off_hook 0) (joined w2.gateway.board call 1 ready);
}
