-- A request is executed once, and its reply is sent again as often as it reaches the gateway once more.
use Rattle.std.proofs.Common.{◌≡◌, ℕ, zero, suc, List, [], ◌∷◌, length, None, refl, ap, subst, arith, inl, inr}
use Rattle.std.proofs.lemmas.List.Elements.{All-cons, All-nil}
use Rattle.std.specs.List.{All}
use Rattle.std.specs.Prelude.{Contains, unwrap_or}
use Rattle.mg_model.specs.declared.line_events.Hook.TheVariants as hooks
use Rattle.mg_model.specs.declared.line_events.LineEvent.TheVariants as event
use Rattle.mg_model.specs.Shards.{AreLeft, HasIdentifiersLeft, IsContextLeft, IsEphemeralLeft, RunsWithin}
use Rattle.mg_model.specs.World.{IsRepeat}
use Rattle.mg_model.proofs.Single.{first_in, none_in, only_one}
use Rattle.mg_examples.proofs.Words.{Agent, AgentSteps, Event, Reply, Request, Script, World, agent_steps, execute, line_places, note, noted, on_a_line}
use Rattle.mg_examples.specs.LastsToTheLimit.{LastsToTheLimit}
use Rattle.mg_examples.specs.Talk.{call, off_hook}
use Rattle.mg_examples.specs.TwoLines.{calling}
use Rattle.mg_examples.specs.TwoTalks.{both_lines}
use Rattle.mg_examples.proofs.NumbersLeft.{two_left}
use Rattle.mg_examples.proofs.TalkExecuted.{executes}
use Rattle.mg_examples.proofs.TwoLinesJoined.{IsReady, all_done, is_ready, talking_world, to_talk}
use Rattle.mg_examples.proofs.TwoLinesOpening.{agent, goes_off, off_hook_world, one_call, opened_world, opening_settled, opens}

abbrev script : Script
script = calling both_lines

abbrev before : Agent
before = agent script call

abbrev talking : Agent
talking = unwrap_or (noted script before (line_places script) (off_hook call)) before

abbrev asked : Request
asked = to_talk call 1

abbrev w0 : World
w0 = opened_world script (call ∷ [])

abbrev w1 : World
w1 = off_hook_world w0 call

abbrev w2 : World
w2 = agent_steps w1 7 talking

enters : AgentSteps w1 7 (λ a. noted script a (line_places script) (off_hook call)) w2
enters = record { before = before; agent = talking; open_call = refl; steps = refl; after_is = refl }

ready : IsReady w2.gateway.board call 1
ready = is_ready w2.gateway.board call 1 (λ e. omega (arith, e)) (omega (arith), omega (arith)) (refl, refl, refl, refl, refl) (opening_settled (call ∷ []))

abbrev w3 : World
w3 = talking_world w2 call 1 ready

abbrev done : Reply
done = all_done w2 call 1 ready

-- the world in which these replies were sent
abbrev again : List Reply → World
again replies = record w3 { replies = replies }

-- ---- identifiers are left

none_sent : (w : World) → w.requests ≡ [] → HasIdentifiersLeft w
none_sent w none = record {
  contexts = λ request among. absurd (none_in request (subst (λ (rs : List Request). Contains rs request) none among));
  ephemerals = λ request among. absurd (none_in request (subst (λ (rs : List Request). Contains rs request) none among));
}

one_sent : (w : World) → w.requests ≡ asked ∷ [] → AreLeft (IsContextLeft w.gateway.board) 2 → AreLeft (IsEphemeralLeft w.gateway.board) 2 → HasIdentifiersLeft w
one_sent w sent contexts ephemerals = record {
  contexts = λ request among. subst (λ (r : Request). AreLeft (IsContextLeft w.gateway.board) (length r.commands)) (is_asked request among) contexts;
  ephemerals = λ request among. subst (λ (r : Request). AreLeft (IsEphemeralLeft w.gateway.board) (length r.commands)) (is_asked request among) ephemerals;
}
  where
    is_asked : (request : Request) → Contains w.requests request → asked ≡ request
    is_asked request among = only_one asked request (subst (λ (rs : List Request). Contains rs request) sent among)

left_before : HasIdentifiersLeft w2
left_before = one_sent w2 refl
    (two_left (IsContextLeft w2.gateway.board) ((omega (arith), omega (arith)), (refl, refl)) ((omega (arith), omega (arith)), (refl, refl)))
    (two_left (IsEphemeralLeft w2.gateway.board) ((omega (arith), omega (arith)), (refl, refl)) ((omega (arith), omega (arith)), (refl, refl)))

left_after : (replies : List Reply) → HasIdentifiersLeft (again replies)
left_after replies = one_sent (again replies) refl
    (two_left (IsContextLeft w3.gateway.board) ((omega (arith), omega (arith)), (refl, refl)) ((omega (arith), omega (arith)), (refl, refl)))
    (two_left (IsEphemeralLeft w3.gateway.board) ((omega (arith), omega (arith)), (refl, refl)) ((omega (arith), omega (arith)), (refl, refl)))

-- ---- the request comes again and again

abbrev same_execute : Event
same_execute = execute 7 1 None

abbrev IsSame : Event → Type 0
IsSame happens = happens ≡ same_execute

repeated : (replies : List Reply) → IsRepeat (again replies) asked (again (done ∷ replies))
repeated replies = record { answer = done; kept = refl; after_is = refl }

-- so many executes, from the world in which these replies were sent
record Long (n : ℕ) (replies : List Reply) : Type 0 where
  events : List Event
  each : All IsSame events
  many : length events ≡ n
  end : World
  runs : RunsWithin script events (again replies) end

long : (n : ℕ) (replies : List Reply) → Long n replies
unfolding RunsWithin
long zero replies = record { events = []; each = All-nil IsSame; many = refl; end = again replies; runs = refl }
long (suc n) replies =
    let more = long n (done ∷ replies) in
    record {
      events = same_execute ∷ more.events;
      each = All-cons IsSame same_execute more.events refl more.each;
      many = ap suc more.many;
      end = more.end;
      runs = (left_after replies, (again (done ∷ replies), ((asked, (first_in asked [], refl, refl), inr (inl (repeated replies))), more.runs)));
    }

-- the first one executes it
abbrev all_but_one : ℕ
all_but_one = 9999999

rest : Long all_but_one (done ∷ [])
rest = long all_but_one (done ∷ [])

runs : RunsWithin script (on_a_line 7 1 (event.Hook hooks.Off) ∷ note 7 1 ∷ same_execute ∷ rest.events) w0 rest.end
unfolding RunsWithin
runs = (
  none_sent w0 refl,
  (
    w1,
    (
      goes_off w0 call (record { association = refl; held = refl; is_armed = refl; none_sent = refl }),
      (
        none_sent w1 refl,
        (
          w2,
          (
            (off_hook call, (first_in (off_hook call) [], refl, refl), enters),
            (left_before, (w3, ((asked, (first_in asked [], refl, refl), inl (executes w2 call 1 ready refl refl (omega (arith)))), rest.runs))),
          ),
        ),
      ),
    ),
  ),
)

pub lasts_to_the_limit : LastsToTheLimit
lasts_to_the_limit = record {
  executes = same_execute ∷ rest.events;
  each = All-cons IsSame same_execute rest.events refl rest.each;
  many = ap suc rest.many;
  opening = w0;
  end = rest.end;
  opens = opens script refl (call ∷ []) (one_call script refl);
  runs = runs;
}
