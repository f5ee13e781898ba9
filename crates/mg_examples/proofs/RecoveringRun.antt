-- A run of two lines where no state marks a pair and `talk` is the restart state: the gateway restarts, the call hears of it, and the
-- request of `talk` is executed. Then the lines 1 and 2 are joined.
use Rattle.std.proofs.Common.{List, [], ◌∷◌, None, refl, arith, inl}
use Rattle.std.specs.Prelude.{unwrap_or}
use Rattle.mg_examples.proofs.Words.{Agent, heard, restarted, Event, Restart, World, execute, hear, AgentSteps, agent_steps, with_gateway}
use Rattle.mg_model.specs.World.{Runs}
use Rattle.mg_examples.specs.Needed.{EndsBadly}
use Rattle.mg_examples.specs.Talk.{call}
use Rattle.mg_examples.specs.TwoLines.{recovering}
use Rattle.mg_examples.proofs.TwoLines.{none_marked}
use Rattle.mg_examples.proofs.TwoLinesOpening.{gateway, agent, opened_world, opens, one_call, restart_settled}
use Rattle.mg_examples.proofs.TalkExecuted.{executes}
use Rattle.mg_examples.proofs.TwoLinesJoined.{IsReady, is_ready, to_talk, talking_world, joined, not_good}

abbrev w0 : World
w0 = opened_world recovering (call ∷ [])

abbrev w1 : World
w1 = with_gateway w0 (restarted (gateway (call ∷ [])))

abbrev before : Agent
before = agent recovering call

abbrev talking : Agent
talking = unwrap_or (heard recovering before 2) before

abbrev w2 : World
w2 = agent_steps w1 7 talking

enters : AgentSteps w1 7 (λ a. heard recovering a 2) w2
enters = record { before = before; agent = talking; open_call = refl; steps = refl; after_is = refl }

ready : IsReady w2.gateway.board call 1
ready = is_ready w2.gateway.board call 1 (λ e. omega (arith, e)) (omega (arith), omega (arith)) (refl, refl, refl, refl, refl) (restart_settled (call ∷ []))

abbrev w3 : World
w3 = talking_world w2 call 1 ready

abbrev events : List Event
events = Restart ∷ hear 7 2 ∷ execute 7 1 None ∷ []

run : Runs recovering events w0 w3
unfolding Runs
run = (w1, ((omega (arith), refl), (w2, ((omega (arith), enters), (w3, ((to_talk call 2, ((0, omega (arith), refl), refl, refl), inl (executes w2 call 1 ready refl refl (omega (arith)))), refl))))))

pub recovering_ends_badly : EndsBadly recovering
recovering_ends_badly = record {
  calls = call ∷ [];
  events = events;
  opening = w0;
  end = w3;
  opens = opens recovering refl (call ∷ []) (one_call recovering refl);
  runs = run;
  bad = not_good recovering w3 1 2 (none_marked [] 1) (joined w2.gateway.board call 1 ready);
}
