-- A call whose request was refused, in a state that says nowhere where a failure leads, can't go on: its request is known to the gateway, which sends the same reply
-- again, and the agent takes no reply with a failure.
use Rattle.std.proofs.Common.{◌≡◌, ◌∙◌, ◌<◌, [], ◌∷◌, Option, Some, None, refl, sym, ap, subst, arith, inl, inr}
use Rattle.std.specs.Prelude.{Contains, unwrap_or}
use Rattle.mg_names.specs.declared.codes.Code.{Code}
use Rattle.mg_model.specs.declared.events.CallEvent.TheVariants as to_call
use Rattle.mg_model.specs.declared.failures.Failure.{Failure}
use Rattle.mg_model.specs.Delivery.{Offer, discard, fresh, kept}
use Rattle.mg_model.specs.Items.{Applies}
use Rattle.mg_model.specs.RequestRun.{MayRefuse, RunsFrom, chosen_at}
use Rattle.mg_model.specs.Shards.{AreLeft, IsContextLeft, IsEphemeralLeft}
use Rattle.mg_model.specs.World.{Executes, OccursTo, Runs}
use Rattle.mg_model.proofs.Cases.{none_is_some, the_some}
use Rattle.mg_model.proofs.Single.{first_in, only_one}
use Rattle.mg_examples.proofs.Words.{Agent, AgentSteps, Answered, Armed, Empty, Gateway, InternalFailure, IsFirst, IsScript, execute}
use Rattle.mg_examples.proofs.Words.{NoneBroken, Reply, Request, Resting, SendReceive, World, after_request, agent_steps, item_at, line_places, noted, opening, rank}
use Rattle.mg_examples.proofs.Words.{replied, reply, reset, start_of, with_gateway}
use Rattle.mg_examples.specs.FaultsAreNeeded.{FaultsAreNeeded, refused_at_once, to_a_refusal, without_fault}
use Rattle.mg_examples.specs.Talk.{call, off_hook}
use Rattle.mg_examples.specs.TalkEntries.{reachable}
use Rattle.mg_examples.proofs.Creations.{creation_executed}
use Rattle.mg_examples.proofs.Duties.{Stepped, all_hold}
use Rattle.mg_examples.proofs.EntriesOfTwo.{HasTwoLines, unused_formed}
use Rattle.mg_examples.proofs.EntryRows.{all_entries, covered_by, lands}
use Rattle.mg_examples.proofs.Finding.{of_both}
use Rattle.mg_examples.proofs.NumbersLeft.{two_left}
use Rattle.mg_examples.proofs.PointFacts.{Below, EachCovered, EachPoint, one_point, two_points, ◌▹◌}
use Rattle.mg_examples.proofs.QuietStates.{is_accepted}
use Rattle.mg_examples.proofs.TalkEntries.{executed_both, reads, refused_second}
use Rattle.mg_examples.proofs.TwoLinesJoined.{first, to_talk}
use Rattle.mg_examples.proofs.TwoLinesOpening.{agent, goes_off, off_hook_world, one_call, opened_world, opening_settled, opens}

-- ---- the script and its entries

two : HasTwoLines without_fault
two = record { lines = refl; ephemerals = refl }

accepted : IsScript without_fault
accepted = is_accepted without_fault (omega (arith)) (omega (arith)) (omega (arith)) refl

-- as in `calling`, but that nothing follows a refusal
all_stepped : Stepped without_fault reachable
unfolding Below EachPoint EachCovered
all_stepped =
    two_points (lands reachable reads 0 1 refl, tt) tt
    ▹ one_point (lands reachable reads 2 0 refl, tt)
    ▹ two_points (lands reachable reads 2 1 refl, (refused_second, (executed_both, tt))) tt
    ▹ one_point tt
    ▹ two_points (lands reachable reads 4 1 refl, tt) tt
    ▹ two_points (lands reachable reads 5 1 refl, tt) tt
    ▹ two_points (lands reachable reads 6 1 refl, tt) tt
    ▹ tt

none_broken : NoneBroken without_fault reachable
none_broken = all_hold without_fault reachable (record {
  two = two;
  reads = reads;
  opening = covered_by reachable reads 1 0 refl (opening without_fault) refl (unused_formed 0 Resting Armed);
  reset = covered_by reachable reads 0 0 refl (reset without_fault) refl (unused_formed 0 Answered Empty);
  stepped = all_stepped;
}) refl refl refl refl

-- ---- the run

abbrev before : Agent
before = agent without_fault call

abbrev asking : Agent
asking = unwrap_or (noted without_fault before (line_places without_fault) (off_hook call)) before

abbrev asked : Request
asked = to_talk call 1

abbrev failure : Option Failure
failure = Some (record { place = 0; code = InternalFailure })

abbrev refused : Reply
refused = record { call = 7; association = 1; number = 1; results = []; failure = failure }

abbrev w0 : World
w0 = opened_world without_fault (call ∷ [])

abbrev w1 : World
w1 = off_hook_world w0 call

abbrev w2 : World
w2 = agent_steps w1 7 asking

abbrev refused_gateway : Gateway
refused_gateway = after_request w2.gateway asked (start_of w2.gateway) w2.gateway.board failure

abbrev w3 : World
w3 = record (with_gateway w2 refused_gateway) { replies = refused ∷ [] }

enters : AgentSteps w1 7 (λ a. noted without_fault a (line_places without_fault) (off_hook call)) w2
enters = record { before = before; agent = asking; open_call = refl; steps = refl; after_is = refl }

legal : (code : Code) → Applies w2.gateway.board (item_at [] (first call None)) code → ⊥
legal = (creation_executed w2.gateway.board 1 (Some SendReceive) None 1
    (record { row = refl; is_number = (omega (arith), omega (arith)); not_given = refl; in_class = refl })).legal

no_earlier : (earlier : Code) → rank earlier < rank InternalFailure → MayRefuse w2.gateway.board (item_at [] (first call None)) (chosen_at refused_at_once 0) earlier → ⊥
no_earlier earlier below (inl applies) = legal earlier applies
no_earlier earlier below (inr same) = let is = ap rank (the_some InternalFailure earlier same) in omega (arith, below, is)

stops : RunsFrom 1 refused_at_once (start_of w2.gateway) 0 asked.commands (start_of w2.gateway) failure
unfolding RunsFrom
stops = inr (InternalFailure, record { may = inr refl; first = no_earlier }, refl, refl)

is_refused : IsFirst w2 asked refused_at_once w3
is_refused = record {
  gateway = refused_gateway;
  answer = refused;
  sent = [];
  executed = record {
    end = start_of w2.gateway;
    settled = w2.gateway.board;
    failure = failure;
    is_fresh = refl;
    room = omega (arith);
    runs = stops;
    is_settled = opening_settled (call ∷ []);
    after_is = refl;
    reply_is = refl;
    notes_are = refl;
  };
  after_is = refl;
}

run : Runs without_fault to_a_refusal w0 w3
unfolding Runs
run = (
  w1,
  (
    goes_off w0 call (record { association = refl; held = refl; is_armed = refl; none_sent = refl }),
    (
      w2,
      (
        (off_hook call, (first_in (off_hook call) [], refl, refl), enters),
        (w3, ((asked, ((0, omega (arith), refl), refl, refl), inl is_refused), refl)),
      ),
    ),
  ),
)

-- ---- numbers are left

contexts_left : AreLeft (IsContextLeft w3.gateway.board) 2
contexts_left = two_left (IsContextLeft w3.gateway.board) ((omega (arith), omega (arith)), (refl, refl)) ((omega (arith), omega (arith)), (refl, refl))

ephemerals_left : AreLeft (IsEphemeralLeft w3.gateway.board) 2
ephemerals_left = two_left (IsEphemeralLeft w3.gateway.board) ((omega (arith), omega (arith)), (refl, refl)) ((omega (arith), omega (arith)), (refl, refl))

-- ---- it can't go on

-- the call waits as before, and each reply is the refusal
abbrev StandsStill : World → Type 0
StandsStill w = (w.agent 7 ≡ Some asking) × ((answer : Reply) → Contains w.replies answer → refused ≡ answer)

abbrev its_offer : Offer Reply
its_offer = kept refused

not_fresh : its_offer ≡ fresh → ⊥
not_fresh e = cc

abbrev reply_in : Offer Reply → Reply
reply_in fresh = refused
reply_in (kept answer) = answer
reply_in discard = refused

after_asked : (next : World) → Executes w3 asked None next → StandsStill next
after_asked next (inl executed) = absurd (not_fresh executed.executed.is_fresh)
after_asked next (inr (inl again)) = subst StandsStill (sym again.after_is)
    (refl, λ answer among. of_both (λ (y : Reply). refused ≡ y) again.answer refused answer (ap reply_in again.kept) refl among)
after_asked next (inr (inr dropped)) = subst StandsStill (sym dropped.1) (refl, λ answer among. only_one refused answer among)

after_execute : (next : World) → OccursTo without_fault w3 7 (to_call.Execute 1 None) next → StandsStill next
after_execute next happened =
    let same : asked ≡ happened.0 = only_one asked happened.0 happened.1.0 in
    after_asked next (subst (λ r. Executes w3 r None next) (sym same) happened.2)

-- no reply that there is leads the agent on
not_taken : (w : World) → StandsStill w → (answer : Reply) → Contains w.replies answer → (after : World) → AgentSteps w 7 (λ a. replied without_fault a answer) after → ⊥
not_taken w still answer among after steps =
    let is_agent : asking ≡ steps.before = the_some asking steps.before (sym still.0 ∙ steps.open_call) in
    none_is_some steps.agent
    (subst (λ r. replied without_fault asking r ≡ Some steps.agent) (sym (still.1 answer among))
    (subst (λ a. replied without_fault a answer ≡ Some steps.agent) (sym is_agent) steps.steps))

stands_still : (later : World) → Runs without_fault (execute 7 1 None ∷ reply 7 1 ∷ []) w3 later → ⊥
unfolding Runs
stands_still later runs =
    let still = after_execute runs.0 runs.1.0 in
    let taken = runs.1.1.1.0 in
    not_taken runs.0 still taken.0 taken.1.0 runs.1.1.0 taken.2

pub faults_needed : FaultsAreNeeded
faults_needed = record {
  accepted = accepted;
  listed = all_entries without_fault two reachable reads refl;
  none_broken = none_broken;
  opening = w0;
  end = w3;
  agent = asking;
  request = asked;
  opens = opens without_fault refl (call ∷ []) (one_call without_fault refl);
  runs = run;
  open_call = refl;
  current = refl;
  waits = refl;
  contexts = contexts_left;
  ephemerals = ephemerals_left;
  notes = omega (arith);
  next = omega (arith);
  stands_still = stands_still;
}
