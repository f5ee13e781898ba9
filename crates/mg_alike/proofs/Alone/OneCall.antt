-- On a gateway with one call exactly one is open at each moment: that one, or the last that began on its lines. Its requests are short, and the numbers that
-- the gateway gives stay the same.
use Rattle.std.proofs.Common.{◌≡◌, ◌∙◌, ◌+◌, ℕ, Bool, true, false, List, [], ◌∷◌, Option, Some, None, refl, sym, ap, subst, inl, inr, ◌==◌, Contains}
use Rattle.std.proofs.Common.{if◌then◌else◌}
use Rattle.mg_merge.proofs.Words.{Agent, AgentSteps, Begins, Board, CallEvent, ChosenRefusal, Contains-append_cases, Event, Executes, Failure, Gateway}
use Rattle.mg_merge.proofs.Words.{IsOpening, Occurs, OccursTo, OfCall, Opened, Request, RequestCommand, Restart, Running, Runs, RunsFrom, Script, World, at_one}
use Rattle.mg_merge.proofs.Words.{begun, eqb-false, eqb-true, heard, item_at, line_places, none_in, none_is_some, noted, only_here, only_one, opened, passed}
use Rattle.mg_merge.proofs.Words.{replied, sent_in, start_of, timed}
use Rattle.mg_model.specs.declared.events.CallEvent.TheVariants as to_call
use Rattle.mg_model.specs.Accepted.{HasFewCommands}
use Rattle.mg_merge.proofs.Commands.Changes.{class_stays}
use Rattle.mg_merge.proofs.Identifiers.FewCommands.{IsShort, GivesShort, replied_short, passed_short, noted_short, timed_short, heard_short}

pub record IsLone (class : ℕ → Bool) (w : World) : Type 0 where
  pub call : ℕ
  pub agent : Agent
  pub open_call : w.agent call ≡ Some agent
  pub only : (other : ℕ) (b : Agent) → w.agent other ≡ Some b → other ≡ call
  pub class_is : (n : ℕ) → w.gateway.board.class n ≡ class n
  pub short : (request : Request) → Contains w.requests request → IsShort request

module _ (class : ℕ → Bool) (w after : World) (lone : IsLone class w) where
  same_lone : after.agent ≡ w.agent → after.requests ≡ w.requests → ((n : ℕ) → after.gateway.board.class n ≡ w.gateway.board.class n) → IsLone class after
  same_lone agents requests classes = record {
    call = lone.call;
    agent = lone.agent;
    open_call = ap (λ (f : ℕ → Option Agent). f lone.call) agents ∙ lone.open_call;
    only = λ other b is. lone.only other b (sym (ap (λ (f : ℕ → Option Agent). f other) agents) ∙ is);
    class_is = λ n. classes n ∙ lone.class_is n;
    short = λ request there. lone.short request (subst (λ (list : List Request). Contains list request) requests there);
  }

  same_class : after.gateway.board ≡ w.gateway.board → (n : ℕ) → after.gateway.board.class n ≡ w.gateway.board.class n
  same_class same n = ap (λ (b : Board). b.class n) same

  steps_lone : (one : ℕ) (step : Agent → Option Agent) → ((a : Agent) → GivesShort (step a)) → AgentSteps w one step after → IsLone class after
  steps_lone one step short s = subst (IsLone class) (sym s.after_is) (record {
    call = one;
    agent = s.agent;
    open_call = at_one one (Some s.agent) (w.agent one);
    only = λ other b is. go other b (other == one) refl is;
    class_is = lone.class_is;
    short = λ request there. elim (Contains-append_cases (sent_in s.agent.phase) w.requests request there) [
      | inl new ↦ short s.before s.agent s.steps request new
      | inr before ↦ lone.short request before
    ];
  })
    where
      go : (other : ℕ) (b : Agent) (test : Bool) → (other == one) ≡ test → (if test then Some s.agent else w.agent other) ≡ Some b → other ≡ one
      go other b true e is = eqb-true other one e
      go other b false e is = lone.only other b is ∙ sym (lone.only one s.before s.open_call)

  begins_lone : (script : Script) (one old : ℕ) → Begins script w one old after → IsLone class after
  begins_lone script one old s = subst (IsLone class) (sym s.after_is) (record {
    call = one;
    agent = begun script one s.before;
    open_call = at_one one (Some (begun script one s.before)) (if one == old then None else w.agent one);
    only = λ other b is. go other b (other == one) (other == old) refl refl is;
    class_is = lone.class_is;
    short = lone.short;
  })
    where
      go : (other : ℕ) (b : Agent) (test gone : Bool) → (other == one) ≡ test → (other == old) ≡ gone
          → (if test then Some (begun script one s.before) else if gone then None else w.agent other) ≡ Some b → other ≡ one
      go other b true gone e f is = eqb-true other one e
      go other b false true e f is = absurd (none_is_some b is)
      go other b false false e f is = absurd (eqb-false other old f (lone.only other b is ∙ sym (lone.only old s.before s.open_call)))

-- a request leaves the numbers that are given
run_class : (number : ℕ) (chosen : Option ChosenRefusal) (r : Running) (place : ℕ) (commands : List RequestCommand) (end : Running) (failure : Option Failure)
    → RunsFrom number chosen r place commands end failure → (n : ℕ) → end.board.class n ≡ r.board.class n
unfolding RunsFrom
run_class number chosen r place [] end failure runs n = ap (λ (x : Running). x.board.class n) runs.0
run_class number chosen r place (command ∷ more) end failure (inl (next, s, runs)) n =
    run_class number chosen next (place + 1) more end failure runs n ∙ ap (λ (x : Running). x.board.class n) s.next_is
    ∙ ap (λ (b : Board). b.class n) s.executed.effect_is ∙ class_stays r.board (item_at r.results command) s.executed.chosen n
run_class number chosen r place (command ∷ more) end failure (inr (code, fails, is, tells)) n = ap (λ (x : Running). x.board.class n) is

executes_class : (w after : World) (request : Request) (chosen : Option ChosenRefusal) → Executes w request chosen after
    → (n : ℕ) → after.gateway.board.class n ≡ w.gateway.board.class n
executes_class w after request chosen (inl f) n =
    ap (λ (x : World). x.gateway.board.class n) f.after_is ∙ ap (λ (g : Gateway). g.board.class n) f.executed.after_is
    ∙ ap (λ (of : ℕ → Bool). of n) f.executed.is_settled.class
    ∙ run_class request.number chosen (start_of w.gateway) 0 request.commands f.executed.end f.executed.failure f.executed.runs n
executes_class w after request chosen (inr (inl f)) n = ap (λ (x : World). x.gateway.board.class n) f.after_is
executes_class w after request chosen (inr (inr f)) n = ap (λ (x : World). x.gateway.board.class n) f.1

pub execute_requests : (w after : World) (request : Request) (chosen : Option ChosenRefusal) → Executes w request chosen after → after.requests ≡ w.requests
execute_requests w after request chosen (inl f) = ap (λ (x : World). x.requests) f.after_is
execute_requests w after request chosen (inr (inl f)) = ap (λ (x : World). x.requests) f.after_is
execute_requests w after request chosen (inr (inr f)) = ap (λ (x : World). x.requests) f.1

executes_lone : (class : ℕ → Bool) (w after : World) (request : Request) (chosen : Option ChosenRefusal) → IsLone class w → Executes w request chosen after
    → IsLone class after
executes_lone class w after request chosen lone executes =
    same_lone class w after lone (agents executes) (execute_requests w after request chosen executes) (executes_class w after request chosen executes)
  where
    agents : Executes w request chosen after → after.agent ≡ w.agent
    agents (inl f) = ap (λ (x : World). x.agent) f.after_is
    agents (inr (inl f)) = ap (λ (x : World). x.agent) f.after_is
    agents (inr (inr f)) = ap (λ (x : World). x.agent) f.1

module _ (script : Script) (few : HasFewCommands script) (class : ℕ → Bool) where
  call_lone : (w after : World) (call : ℕ) (happens : CallEvent) → IsLone class w → OccursTo script w call happens after → IsLone class after
  call_lone w after call (to_call.OnLine line event) lone (held, o) =
      same_lone class w after lone (ap (λ (x : World). x.agent) o.after_is) (ap (λ (x : World). x.requests) o.after_is)
      (same_class class w after lone (ap (λ (x : World). x.gateway.board) o.after_is ∙ ap (λ (g : Gateway). g.board) o.happens.after_is))
  call_lone w after call (to_call.Execute number chosen) lone (request, of, executes) = executes_lone class w after request chosen lone executes
  call_lone w after call (to_call.Reply number) lone (answer, of, s) =
      steps_lone class w after lone call (λ a. replied script a answer) (λ a. replied_short script few a answer) s
  call_lone w after call to_call.Pass lone s = steps_lone class w after lone call (passed script) (passed_short script few) s
  call_lone w after call (to_call.Note number) lone (sent, of, s) =
      steps_lone class w after lone call (λ a. noted script a (line_places script) sent) (λ a. noted_short script few a (line_places script) sent) s
  call_lone w after call to_call.Timer lone s = steps_lone class w after lone call (timed script) (timed_short script few) s
  call_lone w after call (to_call.Begin old) lone s = begins_lone class w after lone script call old.0 s
  call_lone w after call (to_call.Hear association) lone (past, s) =
      steps_lone class w after lone call (λ a. heard script a association.0) (λ a. heard_short script few a association.0) s

  event_lone : (w after : World) (event : Event) → IsLone class w → Occurs script w event after → IsLone class after
  event_lone w after (OfCall call happens) lone occurs = call_lone w after call.0 happens lone occurs
  event_lone w after Restart lone occurs =
      same_lone class w after lone (ap (λ (x : World). x.agent) occurs.1) (ap (λ (x : World). x.requests) occurs.1) (λ n. ap (λ (x : World). x.gateway.board.class n) occurs.1)

  pub runs_lone : (events : List Event) (w end : World) → IsLone class w → Runs script events w end → IsLone class end
  unfolding Runs
  runs_lone [] w end lone runs = subst (IsLone class) (sym runs) lone
  runs_lone (event ∷ more) w end lone (next, (occurs, runs)) = runs_lone more next end (event_lone w next event lone occurs) runs

pub opening_lone : (script : Script) (one : Opened) (w : World) → IsOpening script (one ∷ []) w → IsLone w.gateway.board.class w
opening_lone script one w opens = record {
  call = one.call;
  agent = opened script one.call one.lines;
  open_call = opens.agents.opened one (only_here one);
  only = λ other b is. let its = opens.agents.no_other other b is in sym its.2 ∙ ap (λ (o : Opened). o.call) (sym (only_one one its.0 its.1));
  class_is = λ n. refl;
  short = λ request there. absurd (none_in request (subst (λ (list : List Request). Contains list request) opens.messages.no_request there));
}
