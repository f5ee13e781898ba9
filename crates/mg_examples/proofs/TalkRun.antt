-- The run that leads to a talk, world by world: line 1 goes off hook, the call enters the state `talk`, its request is executed, and the
-- reply is taken.
use Rattle.std.proofs.Common.{◌≡◌, List, [], ◌∷◌, None, refl, arith, inl}
use Rattle.std.specs.Prelude.{unwrap_or}
use Rattle.mg_examples.proofs.Words.{Pair, Agent, noted, replied, Gateway, after_request, Running, line_places, World, AgentSteps, agent_steps, IsFirst}
use Rattle.mg_examples.proofs.Words.{with_gateway}
use Rattle.mg_model.specs.World.{Runs}
use Rattle.mg_examples.specs.Basic.{basic}
use Rattle.mg_examples.specs.Talk.{call, off_hook, to_talk, all_done, hang, to_a_talk, LeadsToATalk}
use Rattle.mg_model.proofs.Single.{first_in}
use Rattle.mg_examples.proofs.TwoLinesJoined.{IsReady, is_ready, r2, runs_through, joined, with_both, both_settled}
use Rattle.mg_examples.proofs.TwoLinesOpening.{agent, opened_world, opens, one_call, off_hook_world, goes_off, opening_settled}

abbrev w0 : World
w0 = opened_world (basic []) (call ∷ [])

abbrev w1 : World
w1 = off_hook_world w0 call

-- ---- the call enters the state talk

abbrev before : Agent
before = agent (basic []) call

abbrev talking : Agent
talking = unwrap_or (noted (basic []) before (line_places (basic [])) (off_hook call)) before

abbrev w2 : World
w2 = agent_steps w1 7 talking

enters : (marks : List Pair) → AgentSteps w1 7 (λ a. noted (basic marks) a (line_places (basic marks)) (off_hook call)) w2
enters marks = record { before = before; agent = talking; open_call = refl; steps = refl; after_is = refl }

sends : w2.requests ≡ to_talk call hang ∷ []
sends = refl

-- ---- the request is executed

ready : IsReady w2.gateway.board call 1
ready = is_ready w2.gateway.board call 1 (λ e. omega (arith, e)) (omega (arith), omega (arith)) (refl, refl, refl, refl, refl) (opening_settled (call ∷ []))

abbrev end : Running
end = r2 w2 call 1 ready hang

abbrev g3 : Gateway
g3 = after_request w2.gateway (to_talk call hang) end (with_both w2.gateway.board call 1) None

abbrev w3 : World
w3 = record (with_gateway w2 g3) { replies = all_done call 1 ∷ [] }

is_executed : IsFirst w2 (to_talk call hang) None w3
is_executed = record {
  gateway = g3;
  answer = all_done call 1;
  sent = [];
  executed = record {
    end = end;
    settled = with_both w2.gateway.board call 1;
    failure = None;
    is_fresh = refl;
    room = omega (arith);
    runs = runs_through w2 call 1 ready hang;
    is_settled = both_settled w2.gateway.board call 1 ready;
    after_is = refl;
    reply_is = refl;
    notes_are = refl;
  };
  after_is = refl;
}

-- ---- the reply is taken, and the call rests in the state talk

abbrev resting_there : Agent
resting_there = unwrap_or (replied (basic []) talking (all_done call 1)) talking

abbrev w4 : World
w4 = agent_steps w3 7 resting_there

takes : (marks : List Pair) → AgentSteps w3 7 (λ a. replied (basic marks) a (all_done call 1)) w4
takes marks = record { before = talking; agent = resting_there; open_call = refl; steps = refl; after_is = refl }

-- ---- the run

run : (marks : List Pair) → Runs (basic marks) to_a_talk w0 w4
unfolding Runs
run marks = (w1, (goes_off w0 call (record { association = refl; held = refl; is_armed = refl; none_sent = refl }), (w2, ((off_hook call, (first_in (off_hook call) [], refl, refl), enters marks), (w3, ((to_talk call hang, (first_in (to_talk call hang) [], refl, refl), inl is_executed), (w4, ((all_done call 1, (first_in (all_done call 1) [], refl, refl), takes marks), refl))))))))

pub leads : (marks : List Pair) → LeadsToATalk marks
leads marks = record { opening = w0; end = w4; opens = opens (basic marks) refl (call ∷ []) (one_call (basic marks) refl); runs = run marks; joined = joined w2.gateway.board call 1 ready }
