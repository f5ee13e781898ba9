-- The run in which a call that began on the lines of an ended one talks, world by world: line 1 goes off hook, the note of it leads call 7 to `done`, call 8
-- begins on its lines, the timer leads to `talk`, the request is executed, and the reply is taken.
use Rattle.std.proofs.Common.{◌≡◌, ◌==◌, [], ◌∷◌, Some, None, if◌then◌else◌, refl, ap, arith, inl}
use Rattle.std.specs.Prelude.{unwrap_or}
use Rattle.mg_model.specs.Agent as agents
use Rattle.mg_examples.proofs.Words.{Agent, noted, passed, timed, replied, LineRow, line_places, World, agent_steps, MayBegin, begun, silent, Begins}
use Rattle.mg_model.specs.World.{Runs}
use Rattle.mg_model.proofs.Cases.{by_test, none_is_some}
use Rattle.mg_model.proofs.Single.{first_in}
use Rattle.mg_examples.specs.BegunTalk.{renewing, next_call, to_a_begun_talk, BegunCallTalks}
use Rattle.mg_examples.specs.Talk.{call, off_hook, to_talk, all_done}
use Rattle.mg_examples.proofs.BegunUnbroken.{accepted, listed, none_broken}
use Rattle.mg_examples.proofs.TalkExecuted.{executes}
use Rattle.mg_examples.proofs.TwoLinesJoined.{IsReady, talking_world, joined, is_ready}
use Rattle.mg_examples.proofs.TwoLinesOpening.{agent, gateway, opened_world, opens, one_call, off, off_hook_world}
use Rattle.mg_examples.proofs.TwoLinesOpening.{goes_off, opening_settled, held_row, held_line}
use Rattle.mg_examples.proofs.RunSteps.{◌after◌▹◌}

-- ---- the agents of the two calls

abbrev opened : Agent
opened = agent renewing call

abbrev told : Agent
told = unwrap_or (noted renewing opened (line_places renewing) (off_hook call)) opened

abbrev ended : Agent
ended = unwrap_or (passed renewing told) told

abbrev begins_there : Agent
begins_there = agents.begun renewing 8 ended

abbrev asking : Agent
asking = unwrap_or (timed renewing begins_there) begins_there

abbrev at_rest : Agent
at_rest = unwrap_or (replied renewing asking (all_done next_call 1)) asking

-- ---- the worlds

abbrev w0 : World
w0 = opened_world renewing (call ∷ [])

abbrev w1 : World
w1 = off_hook_world w0 call

abbrev w2 : World
w2 = agent_steps w1 7 told

abbrev w3 : World
w3 = agent_steps w2 7 ended

abbrev w4 : World
w4 = record w3 {
  gateway = begun w3.gateway 7 8;
  agent = λ c. if c == 8 then Some begins_there else if c == 7 then None else w3.agent c;
}

abbrev w5 : World
w5 = agent_steps w4 8 asking

ready : IsReady w5.gateway.board next_call 1
ready = is_ready w5.gateway.board next_call 1 (λ e. omega (arith, e)) (omega (arith), omega (arith)) (refl, refl, refl, refl, refl)
    (opening_settled (call ∷ []))

abbrev w6 : World
w6 = talking_world w5 next_call 1 ready

abbrev w7 : World
w7 = agent_steps w6 8 at_rest

-- ---- the other call begins

may_begin : MayBegin w3.gateway 7
may_begin = record {
  rows = λ l held. held_row (call ∷ []) l 7 held;
  playing = λ l held. by_test (λ (row : LineRow). row.playing ≡ silent) off ((gateway (call ∷ [])).line l) (l == 1) (λ e. refl)
      (λ e. ap (λ (row : LineRow). row.playing) (held_line (call ∷ []) l 7 held));
  list = λ l held. by_test (λ (row : LineRow). row.list ≡ off.list) off ((gateway (call ∷ [])).line l) (l == 1) (λ e. refl)
      (λ e. ap (λ (row : LineRow). row.list) (held_line (call ∷ []) l 7 held));
  no_ephemeral = λ k created. none_is_some 7 created;
}

begins : Begins renewing w3 8 7 w4
begins = record {
  before = ended;
  open_call = refl;
  ended = record { is_end = refl; at_rest = refl; current = refl };
  may = may_begin;
  unused = refl;
  not_retired = refl;
  after_is = refl;
}

-- ---- the run

run : Runs renewing to_a_begun_talk w0 w7
unfolding Runs
run =
    w1 after goes_off w0 call (record { association = refl; held = refl; is_armed = refl; none_sent = refl })
    ▹ w2 after (
      off_hook call,
      (first_in (off_hook call) [], refl, refl),
      record { before = opened; agent = told; open_call = refl; steps = refl; after_is = refl },
    )
    ▹ w3 after record { before = told; agent = ended; open_call = refl; steps = refl; after_is = refl }
    ▹ w4 after begins
    ▹ w5 after record { before = begins_there; agent = asking; open_call = refl; steps = refl; after_is = refl }
    ▹ w6 after (to_talk next_call None, (first_in (to_talk next_call None) [], refl, refl), inl (executes w5 next_call 1 ready refl refl (omega (arith))))
    ▹ w7 after (
      all_done next_call 1,
      (first_in (all_done next_call 1) [], refl, refl),
      record { before = asking; agent = at_rest; open_call = refl; steps = refl; after_is = refl },
    )
    ▹ refl

pub begun_call_talks : BegunCallTalks
begun_call_talks = record {
  accepted = accepted;
  listed = listed;
  none_broken = none_broken;
  opening = w0;
  end = w7;
  opens = opens renewing refl (call ∷ []) (one_call renewing refl);
  runs = run;
  joined = joined w5.gateway.board next_call 1 ready;
  agent = at_rest;
  talks = refl;
  in_talk = refl;
  retired = refl;
}
