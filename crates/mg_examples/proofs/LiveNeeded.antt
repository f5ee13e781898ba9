-- The obligation that names stand for what exists is needed. Under the entries of `specs/NamesKept` a call adds its line to a context by a name whose
-- context is gone. The run, with two calls: the first call's line a is put into a new context, the number 1, and subtracted, and the request
-- to add it to the context 1 is sent. Before that arrives, line a of the other call is put into a new context, which is given the number 1 as
-- well. Then the request is executed, and joins lines of two calls.
use Rattle.mg_examples.proofs.EmptiedContext.{taken_out}
use Rattle.std.proofs.Common.{◌∷◌, List, [], None, refl, arith, inl}
use Rattle.std.specs.Prelude.{unwrap_or}
use Rattle.mg_names.specs.declared.obligations.Obligation.TheVariants as obligation
use Rattle.mg_model.specs.declared.line_events.Hook.TheVariants as hooks
use Rattle.mg_model.specs.declared.line_events.LineEvent.TheVariants as event
use Rattle.mg_examples.proofs.Words.{Agent, noted, replied, line_places, Event, World, on_a_line, execute, reply, note, agent_steps, Opened, IsFirst, IsGood}
use Rattle.mg_model.specs.World.{Runs}
use Rattle.mg_examples.specs.Needed.{IsNeeded, fault_at}
use Rattle.mg_examples.specs.Talk.{call, off_hook}
use Rattle.mg_examples.specs.TwoTalks.{other_call}
use Rattle.mg_examples.proofs.Creations.{made}
use Rattle.mg_examples.proofs.NamesKept.{accepted, listed, breaks, none_marked}
use Rattle.mg_examples.specs.NamesKept.{name_kept, name_kept_entries}
use Rattle.mg_examples.proofs.NumberReused.{puts, takes_out, puts_back, put_back, with_one, emptied_board, freed, with_other, with_both, one_put, one_settled, one_taken_out, one_freed, other_put, other_settled, one_put_back, both_settled}
use Rattle.mg_examples.proofs.OneCommand.{asks, answer, world_after, executes}
use Rattle.mg_examples.proofs.TwoLinesJoined.{not_good}
use Rattle.mg_examples.proofs.TwoLinesOpening.{agent, opened_world, opens, off_hook_world, goes_off}
use Rattle.mg_examples.proofs.TwoTalksRun.{calls, distinct}
use Rattle.mg_examples.proofs.RunSteps.{◌after◌▹◌}
use Rattle.mg_examples.proofs.PointFacts.{◌▹◌}

-- ---- the agents: of a call in `make`, and of the first call in `leave` and in `again`

abbrev making : Opened → Agent
making one = unwrap_or (noted name_kept (agent name_kept one) (line_places name_kept) (off_hook one)) (agent name_kept one)

abbrev leaving : Agent
leaving = unwrap_or (replied name_kept (making call) (answer 7 1 (made 1))) (making call)

abbrev returning : Agent
returning = unwrap_or (replied name_kept leaving (answer 7 2 taken_out)) leaving

-- ---- the worlds

abbrev w0 : World
w0 = opened_world name_kept calls

abbrev w1 : World
w1 = off_hook_world w0 call

abbrev w2 : World
w2 = agent_steps w1 7 (making call)

abbrev w3 : World
w3 = world_after w2 7 1 (puts 1) with_one with_one (made 1)

abbrev w4 : World
w4 = agent_steps w3 7 leaving

abbrev w5 : World
w5 = world_after w4 7 2 takes_out emptied_board freed taken_out

abbrev w6 : World
w6 = agent_steps w5 7 returning

abbrev w7 : World
w7 = off_hook_world w6 other_call

abbrev w8 : World
w8 = agent_steps w7 8 (making other_call)

abbrev w9 : World
w9 = world_after w8 8 1 (puts 3) with_other with_other (made 1)

abbrev w10 : World
w10 = world_after w9 7 3 puts_back with_both with_both put_back

-- ---- the first call: its line is put into a context and subtracted, and the request to add it again is sent

first_put : IsFirst w2 (asks 7 1 (puts 1)) None w3
first_put = executes w2 7 1 (puts 1) with_one with_one (made 1) one_put one_settled refl (omega (arith))

first_taken_out : IsFirst w4 (asks 7 2 takes_out) None w5
first_taken_out = executes w4 7 2 takes_out emptied_board freed taken_out one_taken_out one_freed refl (omega (arith))

-- ---- the other call: its line is put into a context

other_is_put : IsFirst w8 (asks 8 1 (puts 3)) None w9
other_is_put = executes w8 8 1 (puts 3) with_other with_other (made 1) other_put other_settled refl (omega (arith))

-- ---- the request of the first call is executed

put_beside : IsFirst w9 (asks 7 3 puts_back) None w10
put_beside = executes w9 7 3 puts_back with_both with_both put_back one_put_back both_settled refl (omega (arith))

-- ---- the run

abbrev events : List Event
events =
    on_a_line 7 1 (event.Hook hooks.Off) ∷ note 7 1 ∷ execute 7 1 None ∷ reply 7 1 ∷ execute 7 2 None ∷ reply 7 2
    ∷ on_a_line 8 3 (event.Hook hooks.Off) ∷ note 8 1 ∷ execute 8 1 None ∷ execute 7 3 None ∷ []

other_runs : Runs name_kept (on_a_line 8 3 (event.Hook hooks.Off) ∷ note 8 1 ∷ execute 8 1 None ∷ execute 7 3 None ∷ []) w6 w10
unfolding Runs
other_runs =
    w7 after goes_off w6 other_call (record { association = refl; held = refl; is_armed = refl; none_sent = refl })
    ▹ w8 after (
      off_hook other_call,
      ((0, omega (arith), refl), refl, refl),
      record { before = agent name_kept other_call; agent = making other_call; open_call = refl; steps = refl; after_is = refl },
    )
    ▹ w9 after (asks 8 1 (puts 3), ((0, omega (arith), refl), refl, refl), inl other_is_put)
    ▹ w10 after (asks 7 3 puts_back, ((1, omega (arith), refl), refl, refl), inl put_beside)
    ▹ refl

run : Runs name_kept events w0 w10
unfolding Runs
run =
    w1 after goes_off w0 call (record { association = refl; held = refl; is_armed = refl; none_sent = refl })
    ▹ w2 after (
      off_hook call,
      ((0, omega (arith), refl), refl, refl),
      record { before = agent name_kept call; agent = making call; open_call = refl; steps = refl; after_is = refl },
    )
    ▹ w3 after (asks 7 1 (puts 1), ((0, omega (arith), refl), refl, refl), inl first_put)
    ▹ w4 after (
      answer 7 1 (made 1),
      ((0, omega (arith), refl), refl, refl),
      record { before = making call; agent = leaving; open_call = refl; steps = refl; after_is = refl },
    )
    ▹ w5 after (asks 7 2 takes_out, ((0, omega (arith), refl), refl, refl), inl first_taken_out)
    ▹ w6 after (
      answer 7 2 taken_out,
      ((0, omega (arith), refl), refl, refl),
      record { before = leaving; agent = returning; open_call = refl; steps = refl; after_is = refl },
    )
    ▹ other_runs

-- ---- lines of two calls are joined

bad : IsGood name_kept w10 → ⊥
bad = not_good name_kept w10 1 3 none_marked (inl (record { another = λ e. omega (arith, e); crossings = []; goes = refl }))

pub live_needed : IsNeeded name_kept name_kept_entries (fault_at obligation.NamesLive 5 0 None)
live_needed = record {
  accepted = accepted;
  listed = listed;
  breaks = breaks;
  ends = record { calls = calls; events = events; opening = w0; end = w10; opens = opens name_kept refl calls (distinct name_kept refl); runs = run; bad = bad };
}
