-- A call that waits is led to the next configuration: its request is executed, or it takes the reply to it, or it passes.
use Rattle.std.proofs.Common.{◌≡◌, ◌∙◌, ◌+◌, ◌*◌, ◌<◌, ◌≤◌, ℕ, suc, true, List, [], ◌∷◌, length, Some, None, is_some, refl, sym, ap, subst, arith}
use Rattle.std.specs.Prelude.{IsTrue}
use Rattle.std.proofs.lemmas.List.Elements.{All-cons, All-nil}
use Rattle.mg_model.specs.declared.events.CallEvent.TheVariants as to_call
use Rattle.mg_model.specs.declared.events.Event.{Event}
use Rattle.mg_model.specs.Accepted.{IsScript, most_commands}
use Rattle.mg_model.specs.Agent.{Agent, built_by, none_made, passed, replied}
use Rattle.mg_model.specs.Configuration.{Configuration}
use Rattle.mg_model.specs.Gateway.{CallLink, last_executed}
use Rattle.mg_model.specs.Messages.{RequestCommand}
use Rattle.mg_model.specs.Script.{Script}
use Rattle.mg_model.specs.Steps.{request_in}
use Rattle.mg_model.specs.Tables.{state_of}
use Rattle.mg_model.specs.World.{World, OccursTo, Runs, agent_steps, execute, is_of_call, pass, reply}
use Rattle.mg_model.proofs.Cases.{at_one}
use Rattle.mg_model.proofs.Single.{first_in}
use Rattle.mg_safety.specs.Ending.{LeadsIn, NumbersLast, undisturbed}
use Rattle.mg_safety.proofs.Agents.AgentSound.{not_executed, between_of, passes}
use Rattle.mg_safety.proofs.Agents.AgentParts.{led_to}
use Rattle.mg_safety.proofs.Agents.EffectiveAgent.{results_keep}
use Rattle.mg_safety.proofs.Agents.Entering.{built_same}
use Rattle.mg_safety.proofs.Agents.ReplySound.{bound, led_current, takes, target_after}
use Rattle.mg_safety.proofs.Commands.Allowed.{legal_is_allowed}
use Rattle.mg_safety.proofs.Events.ExecutedCalls.{world_after}
use Rattle.mg_safety.proofs.Events.Executing.{link_made}
use Rattle.mg_safety.proofs.GoingOn.Executed.{Execution, as_many, executes, its_call, sends_again}
use Rattle.mg_safety.proofs.GoingOn.LedOn.{it_answers, pass_leads, reply_leads}
use Rattle.mg_safety.proofs.GoingOn.Moved.{is_own}
use Rattle.mg_safety.proofs.GoingOn.Moves.{IsMovedTo, IsOfRun, for_notes, for_request, last_after, next_room, one_more}
use Rattle.mg_safety.proofs.GoingOn.NextSteps.{after_reply}
use Rattle.mg_safety.proofs.GoingOn.Taking.{settled_remain}
use Rattle.mg_safety.proofs.Invariant.Sound.{CallIsSound, IsAnswered, IsCurrent, IsCurrentAt, IsPassing, IsSent, Listed, link_of}
use Rattle.mg_safety.proofs.Invariant.Statements.{IsClosed}
use Rattle.mg_safety.proofs.Messages.AgentNumbers.{passed_next, replied_next}

module _ (script : Script) (Among : Listed) (is_script : IsScript script) (closes : IsClosed script Among) (w : World) (of_run : IsOfRun script Among w)
    (call : ℕ) (a : Agent) (there : w.agent call ≡ Some a) (k : IsCurrent script Among w.gateway a)
    (moves : ℕ) (last : NumbersLast w call a (suc moves)) where
  its : CallIsSound script Among w call a
  its = of_run.sound.calls call a there

  above : last_executed w.gateway a.call < a.next
  above = not_executed script Among w call a its

  abbrev IsOwn : Event → Type 0
  IsOwn happens = is_of_call call happens ≡ true

  -- ---- its request is executed

  module _ (s : IsSent script w.gateway a k.e k.c.link) where
    -- where no refusal is chosen it does what it does of its own accord
    executed_to : (x : Execution script Among is_script closes w of_run.sound of_run.order call a there k s)
        → x.run.run.c ≡ undisturbed script k.c (request_in script k.c k.c.state) → NumbersLast (world_after w s.request x.end x.settled x.failure) call a moves
        → IsMovedTo script Among w call moves (undisturbed script k.c (request_in script k.c k.c.state))
    unfolding Runs
    executed_to x comes_to left = record {
      events = execute call s.request.number None ∷ [];
      end = world_after w s.request x.end x.settled x.failure;
      agent = a;
      few = omega (arith);
      own = All-cons IsOwn (execute call s.request.number None) [] (is_own call) (All-nil IsOwn);
      runs = (world_after w s.request x.end x.settled x.failure, (x.occurs, refl));
      there = there;
      current = record { current = x.current.current; is = x.current.is ∙ comes_to };
      last = left;
    }

    same_request : built_by script a a.state ≡ request_in script k.c k.c.state
    same_request = built_same script w.gateway a k.c a.state (between_of script Among w.gateway a a k s.effective refl refl refl above)
        ∙ ap (request_in script k.c) (sym k.state)

    notes_then : (x : Execution script Among is_script closes w of_run.sound of_run.order call a there k s)
        → ((world_after w s.request x.end x.settled x.failure).gateway.link call).notes ≡ (w.gateway.link call).notes + length x.end.notes
    notes_then x = subst (λ (n : ℕ). ((world_after w s.request x.end x.settled x.failure).gateway.link n).notes
        ≡ (w.gateway.link n).notes + length x.end.notes)
        (its_call script Among is_script closes w of_run.sound of_run.order call a there k s.request s.outstanding)
        (ap (λ (link : CallLink). link.notes) (at_one s.request.call (link_made w.gateway s.request x.end x.failure) (w.gateway.link s.request.call)))

    pub sent_to : length (built_by script a a.state) ≤ most_commands
        → IsMovedTo script Among w call moves (undisturbed script k.c (request_in script k.c k.c.state))
    sent_to few = executed_at (executes script Among is_script closes w of_run.sound of_run.order call a there k s (most_commands * moves)
        (for_request w call a moves last (length (built_by script a a.state)) few)
        (for_notes w call a moves last (length s.request.commands) (omega (arith, many, few))))
      where
        many : length s.request.commands ≡ length (built_by script a a.state)
        many = ap (λ (commands : List RequestCommand). length commands) s.outstanding.commands
            ∙ as_many script a none_made 0 (built_by script a a.state)

        executed_at : Execution script Among is_script closes w of_run.sound of_run.order call a there k s
            → IsMovedTo script Among w call moves (undisturbed script k.c (request_in script k.c k.c.state))
        executed_at x =
            let came = x.run.comes_to legal_is_allowed refl (most_commands * moves)
            (for_request w call a moves last (length (built_by script a a.state)) few) in
            let left = settled_remain x.end.board x.settled (most_commands * moves) x.is_settled x.run.run.accounted came.1 in
            executed_to x (came.0 ∙ ap (undisturbed script k.c) same_request) (record {
              contexts = left.contexts;
              ephemerals = left.ephemerals;
              notes = (let room = last.notes in let raised = x.few in let then_are = notes_then x in omega (arith, room, raised, then_are, many, few));
              transactions = (let room = last.transactions in omega (arith, room));
            })

  -- ---- it takes the reply that is kept

  module _ (s : IsAnswered script w.gateway a k.e k.c.link) where
    abbrev sent_again : World
    sent_again = record w { replies = s.answer ∷ w.replies }

    resent : OccursTo script w call (to_call.Execute s.request.number None) sent_again
    resent = sends_again script Among is_script closes w of_run.sound of_run.order call a there k s.request s.outstanding s.answer s.kept s.number

    replied_to : (b : Agent) → replied script a s.answer ≡ Some b
        → IsMovedTo script Among w call moves (led_to script k.c (target_after script k.c.state s.answer.failure))
    unfolding Runs
    replied_to b is =
        let kept = of_run.sound.gateway.kept a.call s.answer s.kept in
        let keep = results_keep a (built_by script a a.state) s.answer.results s.answer.number in
        let taken = takes script a b s.answer is in
        record {
          events = execute call s.request.number None ∷ reply call s.request.number ∷ [];
          end = agent_steps sent_again call b;
          agent = b;
          few = omega (arith);
          own = All-cons IsOwn (execute call s.request.number None) (reply call s.request.number ∷ []) (is_own call)
              (All-cons IsOwn (reply call s.request.number) [] (is_own call) (All-nil IsOwn));
          runs = (
            sent_again,
            (
              resent,
              (
                agent_steps sent_again call b,
                (
                  (
                    s.answer,
                    (first_in s.answer w.replies, kept.0 ∙ its.numbered, s.number),
                    record { before = a; agent = b; open_call = there; steps = is; after_is = refl },
                  ),
                  refl,
                ),
              ),
            ),
          );
          there = at_one call (Some b) (w.agent call);
          current = subst (λ (state : ℕ). IsCurrentAt script Among w.gateway b (led_to script k.c (target_after script state s.answer.failure))) (sym k.state)
              (led_current script Among closes w.gateway a (bound script a s.answer) k.c s.answer.failure b
              (between_of script Among w.gateway a (bound script a s.answer) k s.effective keep.call keep.association keep.next above)
              k.stands s.link_is k.state keep.state taken.leads);
          last = last_after w call a moves last (agent_steps sent_again call b) b refl (omega arith)
              (one_more a.call a.next a.lines b (replied_next script a s.answer b is));
        }

    pub kept_to : (d : Configuration) → LeadsIn script k.c (link_of s.answer.failure) d → IsMovedTo script Among w call moves d
    kept_to d leads =
        let where_to = after_reply script k.c s.answer.failure d s.link_is leads in
        let kept = of_run.sound.gateway.kept a.call s.answer s.kept in
        let b = reply_leads script a (next_room w call a moves last) s.request s.answer s.outstanding.phase
        (it_answers s.answer s.request (kept.0 ∙ sym s.outstanding.call) (kept.1 ∙ sym k.association ∙ sym s.outstanding.association) s.number)
        (λ failed is. subst (λ (state : ℕ). IsTrue (is_some (state_of script state).fault)) k.state (where_to.1 failed is)) in
        subst (IsMovedTo script Among w call moves) where_to.0 (replied_to b.0 b.1)

  -- ---- it passes

  module _ (s : IsPassing a k.e k.c.link) where
    passed_to : (b : Agent) → passed script a ≡ Some b → IsMovedTo script Among w call moves (led_to script k.c (target_after script k.c.state None))
    unfolding Runs
    passed_to b is = record {
      events = pass call ∷ [];
      end = agent_steps w call b;
      agent = b;
      few = omega (arith);
      own = All-cons IsOwn (pass call) [] (is_own call) (All-nil IsOwn);
      runs = (agent_steps w call b, (record { before = a; agent = b; open_call = there; steps = is; after_is = refl }, refl));
      there = at_one call (Some b) (w.agent call);
      current = subst (λ (state : ℕ). IsCurrentAt script Among w.gateway b (led_to script k.c (target_after script state None))) (sym k.state)
          (led_current script Among closes w.gateway a a k.c None b
          (between_of script Among w.gateway a a k s.effective refl refl refl above)
          k.stands s.link_is k.state refl (passes script a b a.phase is).1);
      last = last_after w call a moves last (agent_steps w call b) b refl (omega arith) (one_more a.call a.next a.lines b (passed_next script a b is));
    }

    pub passing_to : (d : Configuration) → LeadsIn script k.c (link_of None) d → IsMovedTo script Among w call moves d
    passing_to d leads =
        let b = pass_leads script a (next_room w call a moves last) s.phase in
        subst (IsMovedTo script Among w call moves) (after_reply script k.c None d s.link_is leads).0 (passed_to b.0 b.1)
