-- The obligation that created names are unbound is needed. Under the entries of `specs/CreatedTwice` the script creates the context c twice. The
-- run: the timer ends, both requests are executed, and the call ends with line a in a context that has no name any more.
use Rattle.std.proofs.Common.{◌≡◌, ◌∙◌, ℕ, List, [], ◌∷◌, Some, None, refl, ap, arith, inl}
use Rattle.std.specs.Prelude.{unwrap_or}
use Rattle.mg_names.specs.declared.identifiers.TermId.TheVariants.{Line}
use Rattle.mg_examples.proofs.Words.{Inactive, Agent, timed, replied, passed, Board, place_in, IsSettled, RequestCommand, Event, World, execute, reply, pass}
use Rattle.mg_examples.proofs.Words.{timer, IsFirst, IsGood, agent_steps}
use Rattle.mg_names.specs.declared.obligations.Obligation.TheVariants as obligation
use Rattle.mg_model.specs.World.{Runs}
use Rattle.mg_examples.specs.Needed.{IsNeeded, fault_at}
use Rattle.mg_examples.proofs.CreatedTwice.{accepted, listed, breaks}
use Rattle.mg_examples.specs.CreatedTwice.{created_twice, created_twice_entries}
use Rattle.mg_examples.specs.Talk.{call}
use Rattle.mg_model.proofs.Single.{first_in}
use Rattle.mg_examples.proofs.Creations.{creates, made, created, creation_executed, created_settled, CanCreate}
use Rattle.mg_examples.proofs.TwoLinesOpening.{board, agent, opened_world, opens, one_call, opening_settled}
use Rattle.mg_examples.proofs.OneCommand.{executes}
use Rattle.mg_examples.proofs.OneCommand.{asks, answer, world_after}
use Rattle.mg_examples.proofs.RunSteps.{◌after◌▹◌}

-- ---- the agents: with the first request sent, with the second one, and in the end state

-- the line with a number is added to a new context
abbrev adds : ℕ → RequestCommand
adds line = creates line None None

abbrev opened : Agent
opened = agent created_twice call

abbrev asking : Agent
asking = unwrap_or (timed created_twice opened) opened

abbrev asking_again : Agent
asking_again = unwrap_or (replied created_twice asking (answer 7 1 (made 1))) asking

abbrev ending : Agent
ending = unwrap_or (replied created_twice asking_again (answer 7 2 (made 2))) asking_again

abbrev ended : Agent
ended = unwrap_or (passed created_twice ending) ending

-- ---- the boards: each request creates a context, and the number of the request, of its line and of the context are one

abbrev b0 : Board
b0 = board (call ∷ [])

abbrev b1 : Board
b1 = created b0 1 None None 1

abbrev b2 : Board
b2 = created b1 2 None None 2

can_first : CanCreate b0 1 1
can_first = record { row = refl; is_number = (omega (arith), omega (arith)); not_given = refl; in_class = refl }

can_second : CanCreate b1 2 2
can_second = record { row = refl; is_number = (omega (arith), omega (arith)); not_given = refl; in_class = refl }

first_settled : IsSettled b1 b1
first_settled = created_settled b0 1 None None 1 can_first (opening_settled (call ∷ []))

-- ---- the worlds

abbrev w0 : World
w0 = opened_world created_twice (call ∷ [])

abbrev w1 : World
w1 = agent_steps w0 7 asking

abbrev w2 : World
w2 = world_after w1 7 1 (adds 1) b1 b1 (made 1)

abbrev w3 : World
w3 = agent_steps w2 7 asking_again

abbrev w4 : World
w4 = world_after w3 7 2 (adds 2) b2 b2 (made 2)

abbrev w5 : World
w5 = agent_steps w4 7 ending

abbrev w6 : World
w6 = agent_steps w5 7 ended

first_executed : IsFirst w1 (asks 7 1 (adds 1)) None w2
first_executed = executes w1 7 1 (adds 1) b1 b1 (made 1) (creation_executed b0 1 None None 1 can_first) first_settled refl (omega (arith))

second_executed : IsFirst w3 (asks 7 2 (adds 2)) None w4
second_executed =
    executes w3 7 2 (adds 2) b2 b2 (made 2) (creation_executed b1 2 None None 2 can_second) (created_settled b1 2 None None 2 can_second first_settled) refl
    (omega (arith))

-- ---- the run

abbrev events : List Event
events = timer 7 ∷ execute 7 1 None ∷ reply 7 1 ∷ execute 7 2 None ∷ reply 7 2 ∷ pass 7 ∷ []

run : Runs created_twice events w0 w6
unfolding Runs
run =
    w1 after record { before = opened; agent = asking; open_call = refl; steps = refl; after_is = refl }
    ▹ w2 after (asks 7 1 (adds 1), (first_in (asks 7 1 (adds 1)) [], refl, refl), inl first_executed)
    ▹ w3 after (
      answer 7 1 (made 1),
      (first_in (answer 7 1 (made 1)) [], refl, refl),
      record { before = asking; agent = asking_again; open_call = refl; steps = refl; after_is = refl },
    )
    ▹ w4 after (asks 7 2 (adds 2), (first_in (asks 7 2 (adds 2)) (asks 7 1 (adds 1) ∷ []), refl, refl), inl second_executed)
    ▹ w5 after (
      answer 7 2 (made 2),
      (first_in (answer 7 2 (made 2)) (answer 7 1 (made 1) ∷ []), refl, refl),
      record { before = asking_again; agent = ending; open_call = refl; steps = refl; after_is = refl },
    )
    ▹ w6 after record { before = ending; agent = ended; open_call = refl; steps = refl; after_is = refl }
    ▹ refl

-- line 1 stands in context 1
its_row : w6.gateway.board.row (Line (record { 0 = 1 })) ≡ Some (record { place = record { 0 = 1 }; mode = Inactive; remote = None })
its_row = refl

bad : IsGood created_twice w6 → ⊥
bad good =
    let cleared = good.ended 7 ended refl (record { is_end = refl; at_rest = refl; current = refl }) in
    let null = cleared.in_null 0 (omega (arith)) in
    let place : 1 ≡ 0 = ap place_in its_row ∙ ap place_in null.1 ∙ null.2 in
    omega (arith, place)

pub unbound_needed : IsNeeded created_twice created_twice_entries (fault_at obligation.CreatedUnbound 3 0 None)
unbound_needed = record {
  accepted = accepted;
  listed = listed;
  breaks = breaks;
  ends = record { calls = call ∷ []; events = events; opening = w0; end = w6; opens = opens created_twice refl (call ∷ []) (one_call created_twice refl); runs = run; bad = bad };
}
