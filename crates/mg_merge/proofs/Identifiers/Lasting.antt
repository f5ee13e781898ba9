-- The law that identifiers last: with each execute at most sixteen contexts and ephemerals more are used, and with no other event any; so before each
-- event of a run that has few executes, and at its end, a class has as many left as a request may want.
use Rattle.std.proofs.Common.{◌≡◌, ◌∙◌, ◌+◌, ◌*◌, ◌%◌, ◌<◌, ◌≤◌, ℕ, Bool, true, List, [], ◌∷◌, length, Option, is_some, refl, sym, ap, subst, arith, inl, inr}
use Rattle.std.proofs.Common.{Contains}
use Rattle.std.proofs.Math.Nat.{add-mod_right, mod-eq_of_lt}
use Rattle.mg_merge.proofs.Words.{Agent, AgentSteps, AreLeft, Board, CallEvent, ChosenRefusal, Contains-append_cases, Event, Executes, Gateway}
use Rattle.mg_merge.proofs.Words.{HasIdentifiersLeft, IsContextLeft, IsEphemeralLeft, IsOpening, Occurs, OccursTo, OfCall, Opened, Request, Restart, Runs}
use Rattle.mg_merge.proofs.Words.{RunsWithin, Script, World, choose, false_from_ne_true, heard, line_places, noted, nothing_in, passed, replied, sent_in, timed}
use Rattle.mg_model.specs.declared.events.CallEvent.TheVariants as to_call
use Rattle.mg_model.specs.Accepted.{HasFewCommands, most_commands}
use Rattle.mg_merge.specs.Identifiers.{IdentifiersAreLeft, IdentifiersLast, executes_of, executes_in, most_shards, most_executes}
use Rattle.mg_merge.proofs.Identifiers.Candidates.{class_has_more}
use Rattle.mg_merge.proofs.Identifiers.FewCommands.{IsShort, GivesShort, replied_short, passed_short, noted_short, timed_short, heard_short}
use Rattle.mg_merge.proofs.Identifiers.UsedNumbers.{UsesFew, or_more, commands_use_few, settled_uses_few, nothing_used, restarted_uses_none}
use Rattle.mg_merge.proofs.Shards.Opening.{all_in_null}

-- a world that used few identifiers of a class, and whose requests are short
record IsSparing (class : ℕ → Bool) (w : World) (most : ℕ) : Type 0 where
  pub board : UsesFew w.gateway.board most
  pub class_is : (n : ℕ) → w.gateway.board.class n ≡ class n
  pub requests : (request : Request) → Contains w.requests request → IsShort request

module _ (script : Script) (few : HasFewCommands script) (class : ℕ → Bool) where
  -- ---- events that use nothing

  same_board : (w after : World) (most : ℕ) → IsSparing class w most → after.gateway.board ≡ w.gateway.board → after.requests ≡ w.requests
      → IsSparing class after most
  same_board w after most sparing board requests = record {
    board = subst (λ (b : Board). UsesFew b most) (sym board) sparing.board;
    class_is = λ n. ap (λ (b : Board). b.class n) board ∙ sparing.class_is n;
    requests = subst (λ (xs : List Request). (request : Request) → Contains xs request → IsShort request) (sym requests) sparing.requests;
  }

  agent_sparing : (w after : World) (most call : ℕ) (step : Agent → Option Agent) → ((a : Agent) → GivesShort (step a)) → IsSparing class w most
      → AgentSteps w call step after → IsSparing class after most
  agent_sparing w after most call step short sparing x = subst (λ (v : World). IsSparing class v most) (sym x.after_is) (record {
    board = sparing.board;
    class_is = sparing.class_is;
    requests = λ request there. elim (Contains-append_cases (sent_in x.agent.phase) w.requests request there) [
      | inl new ↦ short x.before x.agent x.steps request new
      | inr before ↦ sparing.requests request before
    ];
  })

  with_more : (w : World) (most more : ℕ) → most ≤ more → IsSparing class w most → IsSparing class w more
  with_more w most more less sparing = assumption (or_more w.gateway.board most more less sparing.board)

  -- ---- executes

  executed_sparing : (w after : World) (most : ℕ) (request : Request) (chosen : Option ChosenRefusal) → IsSparing class w most → IsShort request
      → Executes w request chosen after → IsSparing class after (most + most_commands)
  executed_sparing w after most request chosen sparing short (inl x) =
      let it = x.executed in
      let ran = commands_use_few request.number chosen _ 0 request.commands it.end it.failure most sparing.board it.runs in
      let settled = settled_uses_few it.end.board it.settled (most + length request.commands) ran.0 it.is_settled in
      let board : after.gateway.board ≡ it.settled = ap (λ (v : World). v.gateway.board) x.after_is ∙ ap (λ (g : Gateway). g.board) it.after_is in
      record {
        board = rw board (or_more it.settled (most + length request.commands) (most + most_commands) (omega (arith, short)) settled);
        class_is = λ n. ap (λ (b : Board). b.class n) board ∙ ap (λ (c : ℕ → Bool). c n) it.is_settled.class ∙ ran.1 n ∙ sparing.class_is n;
        requests = subst (λ (xs : List Request). (r : Request) → Contains xs r → IsShort r) (sym (ap (λ (v : World). v.requests) x.after_is)) sparing.requests;
      }
  executed_sparing w after most request chosen sparing short (inr (inl x)) =
      with_more after most (most + most_commands) (omega (arith))
      (same_board w after most sparing (ap (λ (v : World). v.gateway.board) x.after_is) (ap (λ (v : World). v.requests) x.after_is))
  executed_sparing w after most request chosen sparing short (inr (inr (discarded, is))) =
      with_more after most (most + most_commands) (omega (arith))
      (same_board w after most sparing (ap (λ (v : World). v.gateway.board) is) (ap (λ (v : World). v.requests) is))

  -- ---- each event

  call_sparing : (w after : World) (most call : ℕ) (event : CallEvent) → IsSparing class w most → OccursTo script w call event after
      → IsSparing class after (most + most_commands * executes_of (OfCall (record { 0 = call }) event))
  call_sparing w after most call (to_call.OnLine line event) sparing (held, x) = with_more after most _ (omega (arith))
      (same_board w after most sparing (ap (λ (v : World). v.gateway.board) x.after_is ∙ ap (λ (g : Gateway). g.board) x.happens.after_is)
      (ap (λ (v : World). v.requests) x.after_is))
  call_sparing w after most call (to_call.Execute number chosen) sparing (request, of_call, executes) =
      with_more after (most + most_commands) _ (omega (arith)) (executed_sparing w after most request chosen sparing (sparing.requests request of_call.0) executes)
  call_sparing w after most call (to_call.Reply number) sparing (answer, of_call, steps) = with_more after most _ (omega (arith))
      (agent_sparing w after most call (λ a. replied script a answer) (λ a. replied_short script few a answer) sparing steps)
  call_sparing w after most call to_call.Pass sparing steps = with_more after most _ (omega (arith))
      (agent_sparing w after most call (passed script) (passed_short script few) sparing steps)
  call_sparing w after most call (to_call.Note number) sparing (sent, of_call, steps) = with_more after most _ (omega (arith))
      (agent_sparing w after most call (λ a. noted script a (line_places script) sent) (λ a. noted_short script few a (line_places script) sent) sparing steps)
  call_sparing w after most call to_call.Timer sparing steps = with_more after most _ (omega (arith))
      (agent_sparing w after most call (timed script) (timed_short script few) sparing steps)
  call_sparing w after most call (to_call.Begin old) sparing x = with_more after most _ (omega (arith))
      (same_board w after most sparing (ap (λ (v : World). v.gateway.board) x.after_is) (ap (λ (v : World). v.requests) x.after_is))
  call_sparing w after most call (to_call.Hear association) sparing (reached, steps) = with_more after most _ (omega (arith))
      (agent_sparing w after most call (λ a. heard script a association.0) (λ a. heard_short script few a association.0) sparing steps)

  event_sparing : (w after : World) (most : ℕ) (event : Event) → IsSparing class w most → Occurs script w event after
      → IsSparing class after (most + most_commands * executes_of event)
  event_sparing w after most (OfCall call event) sparing occurs = call_sparing w after most call.0 event sparing occurs
  event_sparing w after most Restart sparing (may, is) = with_more after most _ (omega (arith))
      (subst (λ (v : World). IsSparing class v most) (sym is) (assumption (restarted_uses_none w.gateway.board most)))

  -- ---- what is left

  module _ (first stride bound : ℕ) (below : first < stride) (small : stride ≤ most_shards) (gives : (n : ℕ) → n % stride ≡ first → class n ≡ true)
      (reaches : first + stride + most_shards * (most_commands * bound + most_commands) ≤ choose) where
    in_class : (n : ℕ) → n % stride ≡ (first + stride) % stride → class n ≡ true
    in_class n same = gives n (same ∙ add-mod_right first stride ∙ mod-eq_of_lt below)

    left_in : (passes : ℕ → Type 0) (used : List ℕ) (most wanted : ℕ) → length used ≤ most → most ≤ most_commands * bound → wanted ≤ most_commands
        → ((n : ℕ) → 0 < n → n < choose → class n ≡ true → (Contains used n → ⊥) → passes n) → AreLeft passes wanted
    left_in passes used most wanted few_used within short each =
        class_has_more passes used stride (first + stride) (most_commands * bound) wanted (omega (arith, below)) small (omega (arith, few_used, within))
        (λ n from to same free. each n (omega (arith, from, below)) (omega (arith, to, reaches, short)) (in_class n same) free)

    left_before : (w : World) (most : ℕ) → IsSparing class w most → most ≤ most_commands * bound → HasIdentifiersLeft w
    left_before w most sparing within = record {
      contexts = λ request there.
          left_in (IsContextLeft w.gateway.board) sparing.board.contexts most (length request.commands) sparing.board.few_contexts within
          (sparing.requests request there) (λ n real less own free.
          let unused = false_from_ne_true (w.gateway.board.used_context n) (λ used. free (sparing.board.among.used_contexts n used)) in
          ((real, less), (sparing.class_is n ∙ own, unused)));
      ephemerals = λ request there.
          left_in (IsEphemeralLeft w.gateway.board) sparing.board.ephemerals most (length request.commands) sparing.board.few_ephemerals within
          (sparing.requests request there) (λ n real less own free.
          let unused = false_from_ne_true (w.gateway.board.used_ephemeral n) (λ used. free (sparing.board.among.used_ephemerals n used)) in
          ((real, omega (arith, less)), (sparing.class_is n ∙ own, unused)));
    }

    runs_within : (history : List Event) (w end : World) (most : ℕ) → IsSparing class w most → most + most_commands * executes_in history ≤ most_commands * bound
        → Runs script history w end → RunsWithin script history w end
    unfolding Runs RunsWithin executes_in
    runs_within [] w end most sparing within runs = runs
    runs_within (event ∷ more) w end most sparing within (next, (occurs, runs)) = (
      left_before w most sparing (omega (arith, within)),
      (next, (occurs, runs_within more next end (most + most_commands * executes_of event) (event_sparing w next most event sparing occurs) (omega (arith, within)) runs)),
    )

    left_behind : (history : List Event) (w end : World) (most : ℕ) → IsSparing class w most → most + most_commands * executes_in history ≤ most_commands * bound
        → Runs script history w end → HasIdentifiersLeft end
    unfolding Runs executes_in
    left_behind [] w end most sparing within runs = subst HasIdentifiersLeft (sym runs) (left_before w most sparing (omega (arith, within)))
    left_behind (event ∷ more) w end most sparing within (next, (occurs, runs)) =
        left_behind more next end (most + most_commands * executes_of event) (event_sparing w next most event sparing occurs) (omega (arith, within)) runs

-- ---- the laws

start_sparing : (script : Script) (calls : List Opened) (w : World) → IsOpening script calls w → IsSparing w.gateway.board.class w 0
start_sparing script calls w o = record {
  board = nothing_used w.gateway.board 0 (λ n. ap (λ (used : ℕ → Bool). used n) o.gateway.no_context_given)
      (λ n. ap (λ (used : ℕ → Bool). used n) o.gateway.no_ephemeral_given) (all_in_null script calls w o) (λ k. ap is_some (o.gateway.no_ephemeral k));
  class_is = λ n. refl;
  requests = λ request there. absurd (nothing_in request w.requests o.messages.no_request there);
}

pub they_last : IdentifiersLast
they_last script calls history start end first stride few below small gives opens runs count =
    runs_within script few start.gateway.board.class first stride most_executes below small gives (omega (arith, below, small)) history start end 0
    (start_sparing script calls start opens) (omega (arith, count)) runs

pub they_are_left : IdentifiersAreLeft
they_are_left script calls history start end first stride few below small gives opens runs count =
    left_behind script few start.gateway.board.class first stride most_executes below small gives (omega (arith, below, small)) history start end 0
    (start_sparing script calls start opens) (omega (arith, count)) runs
