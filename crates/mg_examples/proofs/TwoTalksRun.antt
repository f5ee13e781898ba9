-- The run of two calls at once, world by world: line 1 and line 3 go off hook, each call enters `talk`, both requests are executed, and
-- both replies are taken.
use Rattle.std.proofs.Common.{◌≡◌, ◌+◌, ◌<◌, ℕ, List, [], ◌∷◌, length, None, refl, arith, inl}
use Rattle.std.specs.Prelude.{unwrap_or, Contains}
use Rattle.mg_examples.proofs.Words.{Agent, noted, replied, Script, line_places, World, execute, reply, agent_steps, Opened, AreDistinct}
use Rattle.mg_model.specs.World.{Runs}
use Rattle.mg_examples.specs.Talk.{call, off_hook, to_talk, all_done}
use Rattle.mg_examples.specs.TwoLines.{to_talk_off_hook, calling}
use Rattle.mg_examples.specs.TwoTalks.{both_lines, other_call, to_two_talks, TwoCallsTalk}
use Rattle.mg_examples.proofs.Finding.{of_both}
use Rattle.mg_examples.proofs.TalkEntries.{all_listed, two}
use Rattle.mg_examples.proofs.TalkUnbroken.{none_broken}
use Rattle.mg_examples.proofs.TwoLines.{is_script}
use Rattle.mg_examples.proofs.TalkExecuted.{executes}
use Rattle.mg_examples.proofs.TwoLinesJoined.{IsReady, talking_world, joined, both_settled, is_ready}
use Rattle.mg_examples.proofs.TwoLinesOpening.{agent, opened_world, opens, off_hook_world, goes_off, opening_settled}
use Rattle.mg_examples.proofs.RunSteps.{◌after◌▹◌}

abbrev script : Script
script = calling both_lines

abbrev pub calls : List Opened
calls = call ∷ other_call ∷ []

-- ---- the calls differ, and so do their lines

abbrev Differ : Opened → Opened → Type 0
Differ one other =
    (one.call ≡ other.call → one ≡ other) × ((i j : ℕ) → i < 2 → j < 2 → one.lines i ≡ other.lines j → (one ≡ other) × (i ≡ j))

itself : (number first : ℕ) → Differ (record { call = number; lines = λ i. i + first }) (record { call = number; lines = λ i. i + first })
itself number first = ((λ same. refl), (λ i j within inside same. (refl, omega (arith, same))))

all_differ : (one other : Opened) → Contains calls one → Contains calls other → Differ one other
all_differ one other there too =
    of_both (λ (x : Opened). Differ x other) call other_call one (of_both (Differ call) call other_call other (itself 7 1) apart too)
    (of_both (Differ other_call) call other_call other apart_back (itself 8 3) too) there
  where
    apart : Differ call other_call
    apart = ((λ same. absurd (omega (arith, same))), (λ i j within inside same. absurd (omega (arith, within, inside, same))))

    apart_back : Differ other_call call
    apart_back = ((λ same. absurd (omega (arith, same))), (λ i j within inside same. absurd (omega (arith, within, inside, same))))

pub distinct : (any : Script) → length any.lines ≡ 2 → AreDistinct any calls
distinct any two = record {
  calls_differ = λ one other there too. (all_differ one other there too).0;
  lines_differ = λ one other there too i j within inside same.
      (all_differ one other there too).1 i j (omega (arith, within, two)) (omega (arith, inside, two)) same;
}

-- ---- the agents of a call: in `talk` with its request sent, and at rest in `talk`

abbrev asking : Opened → Agent
asking one = unwrap_or (noted script (agent script one) (line_places script) (off_hook one)) (agent script one)

abbrev at_rest : Opened → ℕ → Agent
at_rest one context = unwrap_or (replied script (asking one) (all_done one context)) (asking one)

-- ---- the worlds

abbrev w0 : World
w0 = opened_world script calls

abbrev w1 : World
w1 = off_hook_world w0 call

abbrev w2 : World
w2 = off_hook_world w1 other_call

abbrev w3 : World
w3 = agent_steps w2 7 (asking call)

abbrev w4 : World
w4 = agent_steps w3 8 (asking other_call)

ready : IsReady w4.gateway.board call 1
ready = is_ready w4.gateway.board call 1 (λ e. omega (arith, e)) (omega (arith), omega (arith)) (refl, refl, refl, refl, refl) (opening_settled calls)

abbrev w5 : World
w5 = talking_world w4 call 1 ready

also_ready : IsReady w5.gateway.board other_call 2
also_ready = is_ready w5.gateway.board other_call 2 (λ e. omega (arith, e)) (omega (arith), omega (arith)) (refl, refl, refl, refl, refl)
    (both_settled w4.gateway.board call 1 ready)

abbrev w6 : World
w6 = talking_world w5 other_call 2 also_ready

abbrev w7 : World
w7 = agent_steps w6 8 (at_rest other_call 2)

abbrev w8 : World
w8 = agent_steps w7 7 (at_rest call 1)

-- ---- the run: lines 1 and 3 go off hook, both calls enter `talk`, and so on

executed_and_taken : Runs script (execute 7 1 None ∷ execute 8 1 None ∷ reply 8 1 ∷ reply 7 1 ∷ []) w4 w8
unfolding Runs
executed_and_taken =
    w5 after (to_talk call None, ((1, omega (arith), refl), refl, refl), inl (executes w4 call 1 ready refl refl (omega (arith))))
    ▹ w6 after (to_talk other_call None, ((0, omega (arith), refl), refl, refl), inl (executes w5 other_call 2 also_ready refl refl (omega (arith))))
    ▹ w7 after (
      all_done other_call 2,
      ((0, omega (arith), refl), refl, refl),
      record { before = asking other_call; agent = at_rest other_call 2; open_call = refl; steps = refl; after_is = refl },
    )
    ▹ w8 after (
      all_done call 1,
      ((1, omega (arith), refl), refl, refl),
      record { before = asking call; agent = at_rest call 1; open_call = refl; steps = refl; after_is = refl },
    )
    ▹ refl

run : Runs script to_two_talks w0 w8
unfolding Runs
run =
    w1 after goes_off w0 call (record { association = refl; held = refl; is_armed = refl; none_sent = refl })
    ▹ w2 after goes_off w1 other_call (record { association = refl; held = refl; is_armed = refl; none_sent = refl })
    ▹ w3 after (
      off_hook call,
      ((1, omega (arith), refl), refl, refl),
      record { before = agent script call; agent = asking call; open_call = refl; steps = refl; after_is = refl },
    )
    ▹ w4 after (
      off_hook other_call,
      ((0, omega (arith), refl), refl, refl),
      record { before = agent script other_call; agent = asking other_call; open_call = refl; steps = refl; after_is = refl },
    )
    ▹ executed_and_taken

pub two_calls_talk : TwoCallsTalk
two_calls_talk = record {
  accepted = is_script both_lines to_talk_off_hook 0;
  listed = all_listed both_lines;
  none_broken = none_broken;
  opening = w0;
  end = w8;
  opens = opens script refl calls (distinct script refl);
  runs = run;
  joined = inl (record { another = λ e. omega (arith, e); crossings = []; goes = refl });
  also_joined = joined w5.gateway.board other_call 2 also_ready;
}
