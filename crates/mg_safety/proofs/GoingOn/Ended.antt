-- A call can be brought to its end: each move of a way leads it to a world that shows the next configuration of the way, and the last one is at an end.
use Rattle.std.proofs.Common.{◌≡◌, ◌∙◌, ◌+◌, ◌*◌, ◌<◌, ◌≤◌, ◌++◌, ℕ, suc, true, List, [], ◌∷◌, length, length-append, Option, Some, None, refl, sym, subst}
use Rattle.std.proofs.Common.{arith, inl, inr}
use Rattle.std.specs.Prelude.{IsTrue, nat_lt}
use Rattle.std.proofs.lemmas.Bool.{lt-ltb}
use Rattle.std.proofs.lemmas.List.Elements.{All-append, All-cons, All-nil}
use Rattle.mg_names.specs.declared.phases.LinkPhase.{LinkPhase}
use Rattle.mg_names.specs.declared.phases.LinkPhase.TheVariants.{Sent, Answered, Failed, Resting}
use Rattle.mg_model.specs.declared.commands.Command.{Command}
use Rattle.mg_model.specs.declared.events.Event.{Event}
use Rattle.mg_model.specs.declared.failures.Failure.{Failure}
use Rattle.mg_model.specs.Accepted.{HasFewCommands, IsScript, most_commands}
use Rattle.mg_model.specs.Entries.{IsCovered}
use Rattle.mg_model.specs.Agent.{Agent, bound_by, built_by, entered, forgotten, heard}
use Rattle.mg_model.specs.Configuration.{Configuration}
use Rattle.mg_model.specs.Gateway.{Gateway}
use Rattle.mg_model.specs.Request.{Names, built, names_after, uses_known}
use Rattle.mg_model.specs.Script.{Script, State}
use Rattle.mg_model.specs.Steps.{reset}
use Rattle.mg_model.specs.Tables.{no_state, state_of}
use Rattle.mg_model.specs.World.{World, IsOpening, Opened, Runs, agent_steps, hear, is_of_call}
use Rattle.mg_model.proofs.Cases.{at_one, by_test, where_true}
use Rattle.mg_safety.specs.Ending.{Brings, CallsCanBeEnded, CanBeEnded, IsAtEnd, IsWorth, Leads, LeadsIn, NumbersLast}
use Rattle.mg_safety.specs.Followed.{IsShownBy}
use Rattle.mg_safety.proofs.Agents.HearSound.{hear_current}
use Rattle.mg_safety.proofs.Certificate.Closed.{closed}
use Rattle.mg_safety.proofs.GoingOn.Entered.{Enters, enters_state}
use Rattle.mg_safety.proofs.GoingOn.Moved.{is_own}
use Rattle.mg_safety.proofs.GoingOn.Moves.{IsMovedTo, IsOfRun, last_after, next_room, of_opening, one_more, run_on}
use Rattle.mg_safety.proofs.GoingOn.RestingMoves.{resting_to}
use Rattle.mg_safety.proofs.GoingOn.WaitingMoves.{kept_to, passing_to, sent_to}
use Rattle.mg_safety.proofs.GoodWorlds.Following.{current_part, shown_by}
use Rattle.mg_safety.proofs.Invariant.Sound.{IsAt, IsCurrent, IsLost, IsResting, Listed, Stands, link_of}
use Rattle.mg_safety.proofs.Invariant.Statements.{IsClosed}
use Rattle.mg_safety.proofs.Messages.AgentNumbers.{enters_next}
use Rattle.mg_safety.proofs.Requests.RunKnown.{all_at}

-- ---- requests

-- what is built of commands is no more than they are
built_few : (names : Names) (commands : List Command) → length (built names commands) ≤ length commands
built_few names [] = omega arith
built_few names (command ∷ more) = by_test (λ (kept : List Command). length kept ≤ length (command ∷ more)) (command ∷ built (names_after names command) more)
    (built names more) (uses_known names command)
    (λ uses. let few = built_few (names_after names command) more in omega (arith, few)) (λ uses. let few = built_few names more in omega (arith, few))

few_built : (script : Script) (a : Agent) → HasFewCommands script → length (built_by script a a.state) ≤ most_commands
few_built script a few =
    let most = all_at (λ (state : State). length state.commands ≤ most_commands) no_state script.states a.state few (omega arith) in
    let fewer = built_few (bound_by a) (state_of script a.state).commands in
    omega (arith, most, fewer)

-- ---- the end of a way

-- a call that shows a configuration at rest is at rest
resting_at : (script : Script) (g : Gateway) (a e : Agent) (link : LinkPhase) → IsAt script g a e link → link ≡ Resting → IsResting a e link
resting_at script g a e link (inl s) rests = let apart : Sent ≡ Resting = sym s.link_is ∙ rests in absurd (cc)
resting_at script g a e link (inr (inl s)) rests = by_failure s.answer.failure (sym s.link_is ∙ rests)
  where
    by_failure : (failure : Option Failure) → link_of failure ≡ Resting → IsResting a e link
    by_failure None is = let apart : Answered ≡ Resting = is in absurd (cc)
    by_failure (Some failure) is = let apart : Failed ≡ Resting = is in absurd (cc)
resting_at script g a e link (inr (inr (inl s))) rests = let apart : Answered ≡ Resting = sym s.link_is ∙ rests in absurd (cc)
resting_at script g a e link (inr (inr (inr s))) rests = s

ended_there : (script : Script) (Among : Listed) (w : World) (call most : ℕ) (a : Agent) → w.agent call ≡ Some a → (k : IsCurrent script Among w.gateway a)
    → IsAtEnd script k.c → CanBeEnded script w call most
unfolding Runs
ended_there script Among w call most a there k at_end = record {
  events = [];
  end = w;
  agent = a;
  few = omega arith;
  own = All-nil (λ (event : Event). is_of_call call event ≡ true);
  runs = refl;
  open_call = there;
  ended = record {
    is_end = subst (λ (state : ℕ). IsTrue (state_of script state).is_end) k.state at_end.1;
    at_rest = (resting_at script w.gateway a k.e k.c.link k.at at_end.0).phase;
    current = k.association;
  };
}

-- ---- a way

runs_then : (script : Script) (first more : List Event) (w between end : World) → Runs script first w between → Runs script more between end
    → Runs script (first ++ more) w end
unfolding Runs
runs_then script [] more w between end is runs = subst (λ (x : World). Runs script more x end) is runs
runs_then script (event ∷ rest) more w between end (next, (occurs, runs)) last = (next, (occurs, runs_then script rest more next between end runs last))

-- a call that was led on and can be brought to its end from there can be brought to it
ends_after : (script : Script) (Among : Listed) (w : World) (call moves few most : ℕ) (d : Configuration) (m : IsMovedTo script Among w call moves d)
    → length m.events ≤ few → CanBeEnded script m.end call most → CanBeEnded script w call (most + few)
ends_after script Among w call moves few most d m first rest = record {
  events = m.events ++ rest.events;
  end = rest.end;
  agent = rest.agent;
  few = (let all = length-append m.events rest.events in let more = rest.few in omega (arith, all, more, first));
  own = All-append (λ (event : Event). is_of_call call event ≡ true) m.events rest.events m.own rest.own;
  runs = runs_then script m.events rest.events w m.end rest.end m.runs rest.runs;
  open_call = rest.open_call;
  ended = rest.ended;
}

module _ (script : Script) (Among : Listed) (is_script : IsScript script) (closes : IsClosed script Among) (few : HasFewCommands script) (call : ℕ) where
  -- from a world that shows a configuration its next move leads to one that shows the next configuration
  moves_to : (w : World) → IsOfRun script Among w → (a : Agent) → w.agent call ≡ Some a → (k : IsCurrent script Among w.gateway a) (moves : ℕ)
      → NumbersLast w call a (suc moves) → (d : Configuration) → Leads script k.c d → IsMovedTo script Among w call moves d
  moves_to w of_run a there k moves last d leads = by_at k.at
    where
      leads_in : (link : LinkPhase) → k.c.link ≡ link → LeadsIn script k.c link d
      leads_in link is = subst (λ (l : LinkPhase). LeadsIn script k.c l d) is leads

      by_at : IsAt script w.gateway a k.e k.c.link → IsMovedTo script Among w call moves d
      by_at (inl s) = subst (IsMovedTo script Among w call moves) (sym (leads_in Sent s.link_is))
          (sent_to script Among is_script closes w of_run call a there k moves last s (few_built script a few))
      by_at (inr (inl s)) = kept_to script Among is_script closes w of_run call a there k moves last s d (leads_in (link_of s.answer.failure) s.link_is)
      by_at (inr (inr (inl s))) = passing_to script Among is_script closes w of_run call a there k moves last s d (leads_in Answered s.link_is)
      by_at (inr (inr (inr s))) =
          let step = (leads_in Resting s.link_is).1 in
          resting_to script Among is_script closes w of_run call a there k moves last s d
          (closes.steps k.c (step.0, d) k.stands step.1.1) leads s.link_is

  ends_by : (way : List Configuration) (w : World) → IsOfRun script Among w → (a : Agent) → w.agent call ≡ Some a → (k : IsCurrent script Among w.gateway a)
      → Brings script way k.c → NumbersLast w call a (length way) → CanBeEnded script w call (3 * length way)
  unfolding Brings
  ends_by [] w of_run a there k brings last = ended_there script Among w call _ a there k brings
  ends_by (d ∷ more) w of_run a there k brings last =
      let m = moves_to w of_run a there k (length more) last d brings.0 in
      let rest = ends_by more m.end (run_on script Among is_script closes m.events w m.end of_run m.runs) m.agent m.there m.current.current
      (subst (Brings script more) (sym m.current.is) brings.1) m.last in
      subst (CanBeEnded script w call) (omega arith) (ends_after script Among w call (length more) 3 (3 * length more) d m m.few rest)

  -- ---- a lost call

  -- it hears of the restart, and enters the restart state as the reset configuration has it
  module _ (w : World) (of_run : IsOfRun script Among w) (a : Agent) (there : w.agent call ≡ Some a) (older : a.association < w.gateway.association)
      (moves : ℕ) (last : NumbersLast w call a (suc moves)) where
    lost : IsLost script w.gateway a
    lost = elim (of_run.sound.calls call a there).part [
      | inl current ↦ (let now = current.association in absurd (omega (arith, older, now)))
      | inr is ↦ is
    ]

    into : Enters (entered script (forgotten a w.gateway.association) script.restart) script.restart
    into = enters_state script (forgotten a w.gateway.association) (next_room w call a moves last) script.restart

    hears : heard script a w.gateway.association ≡ Some into.agent
    hears = where_true (nat_lt a.association w.gateway.association) (entered script (forgotten a w.gateway.association) script.restart) None
        (lt-ltb a.association w.gateway.association older) ∙ into.is

    hears_to : (m : IsMovedTo script Among w call moves (reset script)) × (length m.events ≤ 1)
    unfolding Runs
    hears_to = (
      record {
        events = hear call w.gateway.association ∷ [];
        end = agent_steps w call into.agent;
        agent = into.agent;
        few = omega (arith);
        own = All-cons (λ (event : Event). is_of_call call event ≡ true) (hear call w.gateway.association) [] (is_own call)
            (All-nil (λ (event : Event). is_of_call call event ≡ true));
        runs = (
          agent_steps w call into.agent,
          ((omega (arith), record { before = a; agent = into.agent; open_call = there; steps = hears; after_is = refl }), refl),
        );
        there = at_one call (Some into.agent) (w.agent call);
        current = hear_current script Among closes w call w.gateway.association a into.agent (of_run.sound.calls call a there) lost refl into.is;
        last = last_after w call a moves last (agent_steps w call into.agent) into.agent refl (omega arith)
            (one_more a.call a.next a.lines into.agent (enters_next script (forgotten a w.gateway.association) script.restart into.agent into.is));
      },
      omega (arith),
    )

    lost_ends_by : (way : List Configuration) → length way ≡ moves → Brings script way (reset script) → CanBeEnded script w call (3 * length way + 1)
    lost_ends_by way same brings =
        let m = hears_to.0 in
        ends_after script Among w call moves 1 (3 * length way) (reset script) m hears_to.1
        (ends_by way m.end (run_on script Among is_script closes m.events w m.end of_run m.runs) m.agent m.there m.current.current
        (subst (Brings script way) (sym m.current.is) brings) (subst (NumbersLast m.end call m.agent) (sym same) m.last))

-- ---- runs

pub can_end : (script : Script) (Among : Listed) → IsScript script → IsClosed script Among → HasFewCommands script
    → (calls : List Opened) (events : List Event) (opening w : World) → IsOpening script calls opening → Runs script events opening w
    → (call : ℕ) (a : Agent) → w.agent call ≡ Some a → a.association ≡ w.gateway.association
    → (c : Configuration) × (Stands script Among c × (IsShownBy script w a c × IsWorth script w call a c))
can_end script Among is_script closes few calls events opening w opens runs call a there now =
    let of_run = run_on script Among is_script closes events opening w (of_opening script Among is_script closes calls opening opens) runs in
    let k = current_part script Among closes w of_run.sound call a there now in (
      k.c,
      (
        k.stands,
        (
          shown_by script Among closes w of_run.sound call a there k,
          λ way brings last. ends_by script Among is_script closes few call way w of_run a there k brings last,
        ),
      ),
    )

pub lost_can_end : (script : Script) (Among : Listed) → IsScript script → IsClosed script Among → HasFewCommands script
    → (calls : List Opened) (events : List Event) (opening w : World) → IsOpening script calls opening → Runs script events opening w
    → (call : ℕ) (a : Agent) → w.agent call ≡ Some a → a.association < w.gateway.association
    → (way : List Configuration) → Brings script way (reset script) → NumbersLast w call a (length way + 1) → CanBeEnded script w call (3 * length way + 1)
lost_can_end script Among is_script closes few calls events opening w opens runs call a there older way brings last =
    let of_run = run_on script Among is_script closes events opening w (of_opening script Among is_script closes calls opening opens) runs in
    lost_ends_by script Among is_script closes few call w of_run a there older (length way)
    (subst (NumbersLast w call a) (omega arith) last) way refl brings

pub calls_be_ended : CallsCanBeEnded
calls_be_ended script entries is_script listed none_broken few calls events opening end opens runs call a there now =
    let closes = closed script entries is_script listed none_broken in
    let found = can_end script (IsCovered entries) is_script closes few calls events opening end opens runs call a there now in
    (found.0, (found.1.0.covered, found.1.1))
