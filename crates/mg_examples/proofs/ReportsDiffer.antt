-- A call of the script `name_stays` has two reports.
use Rattle.std.proofs.Common.{◌≡◌, ℕ, List, [], ◌∷◌, length, None, refl, ap, arith, inl}
use Rattle.std.proofs.lemmas.List.Elements.{All-from_recursion}
use Rattle.std.specs.Prelude.{◌≤◌, codes, unwrap_or}
use Rattle.std.specs.List.{All}
use Rattle.mg_examples.proofs.Words.{ContextRef, Number, MadeAt, IsScript, Agent, replied, timed, World, IsFirst}
use Rattle.mg_examples.proofs.Words.{agent_steps, execute, reply, timer, State}
use Rattle.mg_model.specs.declared.plans.PlanStep.{PlanStep}
use Rattle.mg_model.specs.declared.plans.PlanStep.TheVariants.{Executes, TakesReply, TimesOut}
use Rattle.mg_model.specs.Reports.{IsPlacing, IsReported, Progress, ReportLine, StepHappens, StepsRun, start_as}
use Rattle.mg_model.proofs.Single.{first_in}
use Rattle.mg_examples.specs.NameStays.{name_stays}
use Rattle.mg_examples.specs.ReportsCanDiffer.{ReportsCanDiffer}
use Rattle.mg_examples.specs.Talk.{call}
use Rattle.mg_examples.proofs.EmptiedContext.{IsEmpty, asks, both_done, emptied_null, emptied_world, empties, freed, freed_settled, is_refused, one_refused, one_taken_out, refused_world}
use Rattle.mg_examples.proofs.TwoLinesOpening.{agent, all_null, board, one_call, opened_world, opening_settled, opens}
use Rattle.mg_examples.proofs.QuietStates.{is_accepted}

-- ---- the script

accepted : IsScript name_stays
accepted = is_accepted name_stays (omega (arith)) (omega (arith)) (omega (arith)) refl

few_commands : All (λ (state : State). length state.commands ≤ 16) name_stays.states
few_commands =
    All-from_recursion (λ (state : State). length state.commands ≤ 16) name_stays.states (omega (arith), (omega (arith), (omega (arith), (omega (arith), tt))))

-- ---- the agents, and the worlds up to the second request

abbrev opened : Agent
opened = agent name_stays call

abbrev in_first : Agent
in_first = unwrap_or (timed name_stays opened) opened

abbrev in_second : Agent
in_second = unwrap_or (replied name_stays in_first (both_done 1)) in_first

abbrev at_rest : Agent
at_rest = unwrap_or (replied name_stays in_second (both_done 2)) in_second

abbrev in_refused : Agent
in_refused = unwrap_or (replied name_stays in_second (one_refused 2)) in_second

abbrev created_here : ContextRef
created_here = MadeAt 0

abbrev by_number : ContextRef
by_number = Number (record { 0 = 1 })

abbrev w0 : World
w0 = opened_world name_stays (call ∷ [])

abbrev w1 : World
w1 = agent_steps w0 7 in_first

abbrev w2 : World
w2 = emptied_world w1 1 created_here

abbrev w3 : World
w3 = agent_steps w2 7 in_second

-- ---- the number of c is given again

abbrev again : World
again = emptied_world w3 2 by_number

abbrev rests : World
rests = agent_steps again 7 at_rest

-- ---- another number is given

abbrev another : World
another = refused_world w3 2 by_number

abbrev goes_on : World
goes_on = agent_steps another 7 in_refused

-- ---- the requests

opens_empty : IsEmpty (board (call ∷ [])) 1
opens_empty = record {
  can = record { row = refl; is_number = (omega (arith), omega (arith)); not_given = refl; in_class = refl };
  all_null = all_null (call ∷ []);
  exact = opening_settled (call ∷ []);
}

first_executed : IsFirst w1 (asks 1 created_here) None w2
first_executed = empties w1 1 created_here opens_empty refl (omega (arith)) (one_taken_out (board (call ∷ [])) None opens_empty)

empty_again : IsEmpty (freed (board (call ∷ [])) None) 1
empty_again = record {
  can = record { row = refl; is_number = (omega (arith), omega (arith)); not_given = refl; in_class = refl };
  all_null = emptied_null (board (call ∷ [])) None opens_empty;
  exact = freed_settled (board (call ∷ [])) None opens_empty;
}

empty_for_another : IsEmpty (freed (board (call ∷ [])) None) 2
empty_for_another = record {
  can = record { row = refl; is_number = (omega (arith), omega (arith)); not_given = refl; in_class = refl };
  all_null = emptied_null (board (call ∷ [])) None opens_empty;
  exact = freed_settled (board (call ∷ [])) None opens_empty;
}

second_executed : IsFirst w3 (asks 2 by_number) None again
second_executed = empties w3 2 by_number empty_again refl (omega (arith)) (one_taken_out (freed (board (call ∷ [])) None) None empty_again)

second_refused : IsFirst w3 (asks 2 by_number) None another
second_refused = is_refused w3 2 empty_for_another refl (omega (arith))

-- ---- the steps

abbrev last_steps : List PlanStep
last_steps = Executes None None ∷ TakesReply None ∷ []

abbrev steps : List PlanStep
steps = TimesOut ∷ Executes None None ∷ TakesReply None ∷ last_steps

abbrev by : World → ℕ → Progress
by w count = record (start_as call w) { events = count }

times_out : StepHappens name_stays 7 (by w0 0) TimesOut (by w1 1)
times_out = record {
  agent = opened;
  event = timer 7;
  world = w1;
  stands = refl;
  means = refl;
  occurs = record { before = opened; agent = in_first; open_call = refl; steps = refl; after_is = refl };
  after_is = refl;
}

executes_first : StepHappens name_stays 7 (by w1 1) (Executes None None) (by w2 2)
executes_first = record {
  agent = in_first;
  event = execute 7 1 None;
  world = w2;
  stands = refl;
  means = (asks 1 created_here, refl, refl);
  occurs = (asks 1 created_here, (first_in (asks 1 created_here) [], refl, refl), inl first_executed);
  after_is = refl;
}

takes_first : StepHappens name_stays 7 (by w2 2) (TakesReply None) (by w3 3)
takes_first = record {
  agent = in_first;
  event = reply 7 1;
  world = w3;
  stands = refl;
  means = (both_done 1, refl, refl);
  occurs = (
    both_done 1,
    (first_in (both_done 1) [], refl, refl),
    record { before = in_first; agent = in_second; open_call = refl; steps = refl; after_is = refl },
  );
  after_is = refl;
}

executes_second : (after : World) → IsFirst w3 (asks 2 by_number) None after → StepHappens name_stays 7 (by w3 3) (Executes None None) (by after 4)
executes_second after executed = record {
  agent = in_second;
  event = execute 7 2 None;
  world = after;
  stands = refl;
  means = (asks 2 by_number, refl, refl);
  occurs = (asks 2 by_number, (first_in (asks 2 by_number) (asks 1 created_here ∷ []), refl, refl), inl executed);
  after_is = refl;
}

takes_done : StepHappens name_stays 7 (by again 4) (TakesReply None) (by rests 5)
takes_done = record {
  agent = in_second;
  event = reply 7 2;
  world = rests;
  stands = refl;
  means = (both_done 2, refl, refl);
  occurs = (
    both_done 2,
    (first_in (both_done 2) (both_done 1 ∷ []), refl, refl),
    record { before = in_second; agent = at_rest; open_call = refl; steps = refl; after_is = refl },
  );
  after_is = refl;
}

takes_refused : StepHappens name_stays 7 (by another 4) (TakesReply None) (by goes_on 5)
takes_refused = record {
  agent = in_second;
  event = reply 7 2;
  world = goes_on;
  stands = refl;
  means = (one_refused 2, refl, refl);
  occurs = (
    one_refused 2,
    (first_in (one_refused 2) (both_done 1 ∷ []), refl, refl),
    record { before = in_second; agent = in_refused; open_call = refl; steps = refl; after_is = refl },
  );
  after_is = refl;
}

-- ---- the two runs

all_happen : (after end : World) → IsFirst w3 (asks 2 by_number) None after → StepHappens name_stays 7 (by after 4) (TakesReply None) (by end 5)
    → StepsRun name_stays 7 steps (by w0 0) (by end 5)
unfolding StepsRun
all_happen after end executed taken = (
  by w1 1,
  inl times_out,
  (by w2 2, inl executes_first, (by w3 3, inl takes_first, (by after 4, inl (executes_second after executed), (by end 5, inl taken, refl)))),
)

as_they_are : IsPlacing steps 0 steps
unfolding IsPlacing
as_they_are = inl (
  Executes None None ∷ TakesReply None ∷ last_steps,
  refl,
  inl (TakesReply None ∷ last_steps, refl, inl (last_steps, refl, inl (TakesReply None ∷ [], refl, inl ([], refl, (refl, refl))))),
)

-- ---- the two reports

abbrev resting_line : ReportLine
resting_line = record { state = codes "second"; phase = codes "resting"; events = 5; idle = 0 }

abbrev refused_line : ReportLine
refused_line = record { state = codes "refused"; phase = codes "waiting"; events = 5; idle = 0 }

rests_there : IsReported name_stays call steps 0 (resting_line ∷ [])
rests_there = record {
  placed = steps;
  placing = as_they_are;
  start = w0;
  end = by rests 5;
  agent = at_rest;
  opens = opens name_stays refl (call ∷ []) (one_call name_stays refl);
  every_number = λ n. refl;
  runs = all_happen again rests second_executed takes_done;
  stands = refl;
  lines_are = refl;
}

is_refused_there : IsReported name_stays call steps 0 (refused_line ∷ [])
is_refused_there = record {
  placed = steps;
  placing = as_they_are;
  start = w0;
  end = by goes_on 5;
  agent = in_refused;
  opens = opens name_stays refl (call ∷ []) (one_call name_stays refl);
  every_number = λ n. refl;
  runs = all_happen another goes_on second_refused takes_refused;
  stands = refl;
  lines_are = refl;
}

-- the names of the two states have other lengths
abbrev length_of_name : List ReportLine → ℕ
length_of_name [] = 0
length_of_name (line ∷ more) = length line.state

pub reports_differ : ReportsCanDiffer name_stays
reports_differ = record {
  one = call;
  steps = steps;
  lines = resting_line ∷ [];
  others = refused_line ∷ [];
  accepted = accepted;
  few_commands = few_commands;
  reported = rests_there;
  also_reported = is_refused_there;
  differ = λ same. let lengths : 6 ≡ 7 = ap length_of_name same in omega (arith, lengths);
}
