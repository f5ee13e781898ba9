-- A call that waits can be led on: its request is executed, or the reply that is kept is sent once more, and its agent takes that reply; or it passes.
use Rattle.std.proofs.Common.{◌≡◌, ◌∙◌, ◌+◌, ◌≤◌, ℕ, Bool, true, false, List, [], ◌∷◌, length, Option, Some, None, is_some, refl, sym, ap, subst, arith, inl}
use Rattle.std.proofs.Common.{inr}
use Rattle.std.specs.Prelude.{◌==◌, ◌&&◌, Contains, IsTrue, if◌then◌else◌}
use Rattle.std.proofs.lemmas.Bool.{and_from, eq-eqb}
use Rattle.mg_model.specs.declared.commands.Command.{Command}
use Rattle.mg_model.specs.declared.events.CallEvent.TheVariants as to_call
use Rattle.mg_model.specs.declared.failures.Failure.{Failure}
use Rattle.mg_model.specs.Accepted.{IsScript}
use Rattle.mg_model.specs.Agent.{Agent, Phase, answers, awaits_reply, awaits_pass, resting, after_results, built_by, entered, entered_if, entered_or_rests}
use Rattle.mg_model.specs.Agent.{leads_on, none_made, passed, passed_in, replied, replied_to}
use Rattle.mg_model.specs.Entries.{IsCovered}
use Rattle.mg_model.specs.Gateway.{reply_of}
use Rattle.mg_model.specs.Messages.{Request, RequestCommand, Reply}
use Rattle.mg_model.specs.Numbers.{last_number}
use Rattle.mg_model.specs.Request.{Names, built}
use Rattle.mg_model.specs.Script.{Script}
use Rattle.mg_model.specs.Shards.{IsContextLeft, IsEphemeralLeft, AreLeft}
use Rattle.mg_model.specs.Tables.{state_of, is_empty}
use Rattle.mg_model.specs.World.{World, OccursTo, Runs, agent_steps}
use Rattle.mg_model.proofs.Cases.{at_one, some_of}
use Rattle.mg_model.proofs.Single.{first_in}
use Rattle.mg_safety.specs.GoingOn.{CallsCanGoOn, CanGoOn, HasFaults, IsLedOn, NumbersAreLeft, events_due}
use Rattle.mg_safety.proofs.Agents.EffectiveAgent.{results_keep}
use Rattle.mg_safety.proofs.Certificate.Closed.{closed}
use Rattle.mg_safety.proofs.Events.ExecutedCalls.{world_after}
use Rattle.mg_safety.proofs.GoingOn.Entered.{enters_state}
use Rattle.mg_safety.proofs.GoingOn.Executed.{Execution, among, as_many, executes, its_call, present, sends_again}
use Rattle.mg_safety.proofs.GoingOn.InOrder.{IsInOrder, opening_in_order, runs_in_order}
use Rattle.mg_safety.proofs.GoingOn.SentCommands.{as_empty}
use Rattle.mg_safety.proofs.GoodWorlds.Beginning.{reached}
use Rattle.mg_safety.proofs.Invariant.Sound.{Listed, IsCurrent, IsOutstanding, IsSent, IsSound}
use Rattle.mg_safety.proofs.Invariant.Statements.{IsClosed}

-- ---- an agent with a number left

-- a step gives an agent
abbrev pub GivesAgent : Option Agent → Type 0
GivesAgent o = (b : Agent) × (o ≡ Some b)

module _ (script : Script) (a : Agent) (room : a.next ≤ last_number) where
  entered_leads : (state : ℕ) → GivesAgent (entered script a state)
  entered_leads state = let b = enters_state script a room state in (b.agent, b.is)

  rests_leads : (target : Option ℕ) → GivesAgent (entered_or_rests script a target)
  rests_leads None = (record a { phase = resting }, refl)
  rests_leads (Some state) = entered_leads state

  answer_leads : (was : Agent) (failure : Option Failure)
      → ((failed : Failure) → failure ≡ Some failed → IsTrue (is_some (state_of script was.state).fault)) → GivesAgent (leads_on script was a failure)
  answer_leads was None fault = rests_leads (state_of script was.state).ok
  answer_leads was (Some failure) fault =
      let state = some_of (state_of script was.state).fault (fault failure refl) in
      let b = entered_leads state.0 in (b.0, ap (entered_if script a) state.1 ∙ b.1)

module _ (script : Script) (a : Agent) (room : a.next ≤ last_number) where
  pub pass_leads : a.phase ≡ awaits_pass → GivesAgent (passed script a)
  pass_leads is = let b = rests_leads script a room (state_of script a.state).ok in (b.0, ap (passed_in script a) is ∙ b.1)

  pub reply_leads : (request : Request) (answer : Reply) → a.phase ≡ awaits_reply request → answers answer request ≡ true
      → ((failed : Failure) → answer.failure ≡ Some failed → IsTrue (is_some (state_of script a.state).fault)) → GivesAgent (replied script a answer)
  reply_leads request answer is fits fault =
      let bound = after_results a (built_by script a a.state) answer.results answer.number in
      let next : bound.next ≡ a.next = (results_keep a (built_by script a a.state) answer.results answer.number).next in
      let b = answer_leads script bound (omega (arith, next, room)) a answer.failure fault in (
        b.0,
        ap (λ (phase : Phase). replied_to script a phase answer) is
            ∙ ap (λ (test : Bool). if test then leads_on script a bound answer.failure else None) fits ∙ b.1,
      )

-- ---- a request with a command

some_command : (names : Names) (commands : List Command) → is_empty (built names commands) ≡ false → is_empty commands ≡ false
some_command names [] e = e
some_command names (command ∷ more) e = refl

pub it_answers : (answer : Reply) (request : Request) → answer.call ≡ request.call → answer.association ≡ request.association → answer.number ≡ request.number
    → answers answer request ≡ true
it_answers answer request call association number =
    and_from (answer.call == request.call) ((answer.association == request.association) && answer.number == request.number)
    (eq-eqb answer.call request.call call)
    (and_from (answer.association == request.association) (answer.number == request.number) (eq-eqb answer.association request.association association)
    (eq-eqb answer.number request.number number))

-- ---- a call

module _ (script : Script) (Among : Listed) (is_script : IsScript script) (closes : IsClosed script Among) (w : World)
    (sound : IsSound script Among w) (order : IsInOrder w)
    (call : ℕ) (a : Agent) (there : w.agent call ≡ Some a) (faults : HasFaults script) (left : NumbersAreLeft w call a) where
  module _ (k : IsCurrent script Among w.gateway a) (request : Request) (o : IsOutstanding script a request) where
    own_call : request.call ≡ call
    own_call = its_call script Among is_script closes w sound order call a there k request o

    now : request.association ≡ w.gateway.association
    now = present script Among is_script closes w sound order call a there k request o

    fault : IsTrue (is_some (state_of script a.state).fault)
    fault = faults a.state (some_command _ (state_of script a.state).commands (sym (as_empty script a (built_by script a a.state))
        ∙ ap (λ (commands : List RequestCommand). is_empty commands) (sym o.commands)
        ∙ order.commands request
        (among script Among is_script closes w sound order call a there k request o)))

    -- the agent takes a reply that was sent
    then_replies : (after : World) (answer : Reply) → OccursTo script w call (to_call.Execute request.number None) after → after.agent call ≡ Some a
        → Contains after.replies answer → answer.call ≡ request.call → answer.association ≡ request.association → answer.number ≡ request.number
        → CanGoOn script w call a
    unfolding Runs
    then_replies after answer occurs still sent its_own association number =
        let fits = it_answers answer request its_own association number in
        let b = reply_leads script a left.next request answer o.phase fits (λ failed is. fault) in
        record {
          end = agent_steps after call b.0;
          agent = b.0;
          runs = subst (λ (phase : Phase). Runs script (events_due call phase) w (agent_steps after call b.0)) (sym o.phase) (
            after,
            (
              occurs,
              (
                agent_steps after call b.0,
                (
                  (
                    answer,
                    (sent, its_own ∙ own_call, number),
                    record {
                      before = a;
                      agent = b.0;
                      open_call = still;
                      steps = b.1;
                      after_is = refl;
                    },
                  ),
                  refl,
                ),
              ),
            ),
          );
          open_call = at_one call (Some b.0) (after.agent call);
          led_on = subst (λ (phase : Phase). IsLedOn script a phase b.0) (sym o.phase) (answer, fits, b.1);
        }

    -- the kept reply is sent once more
    kept_leads : (answer : Reply) → (w.gateway.link a.call).last ≡ Some answer → answer.number ≡ request.number → CanGoOn script w call a
    kept_leads answer last number =
        let its = sound.gateway.kept a.call answer last in
        then_replies (record w { replies = answer ∷ w.replies }) answer
        (sends_again script Among is_script closes w sound order call a there k request o answer last number)
        there (first_in answer w.replies) (its.0 ∙ sym o.call) (its.1 ∙ sym now) number

  -- the request is executed
  executed_leads : (k : IsCurrent script Among w.gateway a) (s : IsSent script w.gateway a k.e k.c.link)
      → Execution script Among is_script closes w sound order call a there k s → CanGoOn script w call a
  executed_leads k s x =
      then_replies k s.request s.outstanding (world_after w s.request x.end x.settled x.failure) (reply_of s.request x.end x.failure) x.occurs there
      (first_in (reply_of s.request x.end x.failure) w.replies) refl refl refl

  sent_leads : (k : IsCurrent script Among w.gateway a) → IsSent script w.gateway a k.e k.c.link → CanGoOn script w call a
  sent_leads k s =
      let length_is : length s.request.commands ≡ length (built_by script a a.state) + 0 =
      (let many = as_many script a none_made 0 (built_by script a a.state) in
      let same = ap (λ (commands : List RequestCommand). length commands) s.outstanding.commands in omega (arith, many, same)) in
      executed_leads k s (executes script Among is_script closes w sound order call a there k s 0 (record {
        contexts = subst (AreLeft (IsContextLeft w.gateway.board)) length_is (left.contexts s.request s.outstanding.phase);
        ephemerals = subst (AreLeft (IsEphemeralLeft w.gateway.board)) length_is (left.ephemerals s.request s.outstanding.phase);
      }) (left.notes s.request s.outstanding.phase))

  passing_leads : a.phase ≡ awaits_pass → CanGoOn script w call a
  unfolding Runs
  passing_leads is =
      let b = pass_leads script a left.next is in
      record {
        end = agent_steps w call b.0;
        agent = b.0;
        runs = subst (λ (phase : Phase). Runs script (events_due call phase) w (agent_steps w call b.0)) (sym is)
            (agent_steps w call b.0, (record { before = a; agent = b.0; open_call = there; steps = b.1; after_is = refl }, refl));
        open_call = at_one call (Some b.0) (w.agent call);
        led_on = subst (λ (phase : Phase). IsLedOn script a phase b.0) (sym is) b.1;
      }

  resting_stays : a.phase ≡ resting → CanGoOn script w call a
  unfolding Runs
  resting_stays is = record {
    end = w;
    agent = a;
    runs = subst (λ (phase : Phase). Runs script (events_due call phase) w w) (sym is) refl;
    open_call = there;
    led_on = subst (λ (phase : Phase). IsLedOn script a phase a) (sym is) refl;
  }

  current_leads : IsCurrent script Among w.gateway a → CanGoOn script w call a
  current_leads k = elim k.at [
    | inl s ↦ sent_leads k s
    | inr more ↦ elim more [
      | inl s ↦ kept_leads k s.request s.outstanding s.answer s.kept s.number
      | inr rest ↦ elim rest [
        | inl s ↦ passing_leads s.phase
        | inr s ↦ resting_stays s.phase
      ]
    ]
  ]

pub calls_go_on : CallsCanGoOn
calls_go_on script entries is_script listed none_broken calls events opening end opens runs call a there faults now left =
    let closes = closed script entries is_script listed none_broken in
    let sound = reached script entries is_script listed none_broken calls events opening end opens runs in
    let order = runs_in_order script events opening end (opening_in_order script calls opening opens) runs in
    elim (sound.calls call a there).part [
      | inl current ↦ current_leads script (IsCovered entries) is_script closes end sound order call a there faults left current
      | inr lost ↦ (let older = lost.association in absurd (omega (arith, older, now)))
    ]
