-- A call at rest is led to the configuration that its timer or one of its receivers enters.
use Rattle.std.proofs.Common.{◌≡◌, ◌∙◌, ◌<◌, ℕ, suc, true, false, List, [], ◌∷◌, Some, refl, sym, ap, subst, arith, inl, inr}
use Rattle.std.specs.List.{list_any}
use Rattle.std.proofs.lemmas.List.Elements.{All-cons, All-nil}
use Rattle.mg_names.specs.declared.phases.LinkPhase.{LinkPhase}
use Rattle.mg_names.specs.declared.phases.LinkPhase.TheVariants.{Resting}
use Rattle.mg_model.specs.declared.events.Event.{Event}
use Rattle.mg_model.specs.Accepted.{IsScript}
use Rattle.mg_model.specs.Agent.{Agent, entered, entered_if, timed}
use Rattle.mg_model.specs.Configuration.{Configuration}
use Rattle.mg_model.specs.Gateway.{last_executed}
use Rattle.mg_model.specs.LineEvents.{ListItem, is_hook, kind_of}
use Rattle.mg_model.specs.ListContents.{list_of}
use Rattle.mg_model.specs.Script.{Script}
use Rattle.mg_model.specs.Steps.{with_state}
use Rattle.mg_model.specs.Tables.{items_of, state_of, target_in}
use Rattle.mg_model.specs.World.{World, Runs, agent_steps, is_of_call, timer}
use Rattle.mg_model.proofs.Cases.{at_one}
use Rattle.mg_safety.specs.Ending.{LeadsIn, NumbersLast}
use Rattle.mg_safety.proofs.Agents.AgentSound.{not_executed, at_rest, between_of, times}
use Rattle.mg_safety.proofs.Agents.Entering.{enters_current}
use Rattle.mg_safety.proofs.Agents.NoteSound.{accepting, accepting_between}
use Rattle.mg_safety.proofs.Agents.Observing.{raises_same}
use Rattle.mg_safety.proofs.GoingOn.Entered.{Enters, timer_enters}
use Rattle.mg_safety.proofs.GoingOn.Moved.{IsNoted, by_receiver, is_own}
use Rattle.mg_safety.proofs.GoingOn.Moves.{IsMovedTo, IsOfRun, for_notes, last_after, next_room, one_more}
use Rattle.mg_safety.proofs.GoingOn.NextSteps.{ByReceiver, ByTimer, at_rest_by, hook_named}
use Rattle.mg_safety.proofs.Invariant.Shown.{list_raises}
use Rattle.mg_safety.proofs.Invariant.Sound.{CallIsSound, IsCurrent, IsCurrentAt, IsResting, Listed, Stands}
use Rattle.mg_safety.proofs.Invariant.Statements.{IsClosed}
use Rattle.mg_safety.proofs.Messages.AgentNumbers.{enters_next, timed_next}

module _ (script : Script) (Among : Listed) (is_script : IsScript script) (closes : IsClosed script Among) (w : World) (of_run : IsOfRun script Among w)
    (call : ℕ) (a : Agent) (there : w.agent call ≡ Some a) (k : IsCurrent script Among w.gateway a)
    (moves : ℕ) (last : NumbersLast w call a (suc moves)) (s : IsResting a k.e k.c.link) (d : Configuration) (stands : Stands script Among d) where
  abbrev IsOwn : Event → Type 0
  IsOwn happens = is_of_call call happens ≡ true

  its : CallIsSound script Among w call a
  its = of_run.sound.calls call a there

  above : last_executed w.gateway a.call < a.next
  above = not_executed script Among w call a its

  -- ---- its timer

  module _ (t : ByTimer script k.c d) where
    timer_is : (state_of script a.state).timer ≡ Some t.target
    timer_is = ap (λ (n : ℕ). (state_of script n).timer) (sym k.state) ∙ t.leads

    into : Enters (timed script a) t.target
    into = timer_enters script a (next_room w call a moves last) t.target s.phase timer_is

    entered_is : entered script a t.target ≡ Some into.agent
    entered_is = sym (ap (entered_if script a) timer_is) ∙ (times script a into.agent into.is).1

    timer_to : IsMovedTo script Among w call moves d
    unfolding Runs
    timer_to = record {
      events = timer call ∷ [];
      end = agent_steps w call into.agent;
      agent = into.agent;
      few = omega (arith);
      own = All-cons IsOwn (timer call) [] (is_own call) (All-nil IsOwn);
      runs = (agent_steps w call into.agent, (record { before = a; agent = into.agent; open_call = there; steps = into.is; after_is = refl }, refl));
      there = at_one call (Some into.agent) (w.agent call);
      current = subst (IsCurrentAt script Among w.gateway into.agent) t.is
          (enters_current script Among w.gateway a k.c t.target into.agent
          (between_of script Among w.gateway a a k s.effective refl refl refl above) (subst (Stands script Among) (sym t.is) stands) entered_is);
      last = last_after w call a moves last (agent_steps w call into.agent) into.agent refl (omega arith)
          (one_more a.call a.next a.lines into.agent (timed_next script a into.agent into.is));
    }

  -- ---- a receiver

  module _ (goes_on : (state_of script k.c.state).is_end ≡ false) (t : ByReceiver script k.c d) where
    listed : (w.gateway.line (a.lines t.i)).list ≡ list_of script (k.c.events t.i)
    listed = subst (λ (e : Agent). (w.gateway.line (e.lines t.i)).list ≡ list_of script (k.c.events t.i)) s.effective (k.lines_shown.events t.i t.within)

    named : list_any (is_hook t.hook) (w.gateway.line (a.lines t.i)).list ≡ true
    named = hook_named t.hook (w.gateway.line (a.lines t.i)).list
        (ap (λ (list : List ListItem). list_raises list (kind_of t.hook)) listed
        ∙ raises_same script (kind_of t.hook) (items_of script (k.c.events t.i)) ∙ t.raised)

    leads : target_in (state_of script a.state).on t.i (kind_of t.hook) ≡ Some t.target
    leads = ap (λ (n : ℕ). target_in (state_of script n).on t.i (kind_of t.hook)) (sym k.state) ∙ t.leads

    noted_to : IsNoted script Among w call t.target a 2 → IsMovedTo script Among w call moves d
    noted_to noted = record {
      events = noted.events;
      end = agent_steps noted.raised call noted.into.agent;
      agent = noted.into.agent;
      few = noted.few;
      own = noted.own;
      runs = noted.runs;
      there = at_one call (Some noted.into.agent) (noted.raised.agent call);
      current = subst (IsCurrentAt script Among noted.raised.gateway noted.into.agent) same
          (enters_current script Among noted.raised.gateway (accepting a noted.count) v.current.c t.target noted.into.agent
          (accepting_between script noted.raised.gateway a noted.count v.current.c
          (between_of script Among noted.raised.gateway a a v.current rests.effective refl refl refl above_still))
          (subst (Stands script Among) (sym same) stands) noted.into.is);
      last = last_after w call a moves last (agent_steps noted.raised call noted.into.agent) noted.into.agent noted.board noted.notes
          (one_more a.call a.next a.lines noted.into.agent (enters_next script (accepting a noted.count) t.target noted.into.agent noted.into.is));
    }
      where
        v : IsCurrentAt script Among noted.raised.gateway a k.c
        v = noted.still k

        rests : IsResting a v.current.e v.current.c.link
        rests = at_rest script noted.raised.gateway a v.current.e v.current.c.link s.phase v.current.at

        above_still : last_executed noted.raised.gateway a.call < a.next
        above_still = not_executed script Among noted.raised call a (noted.sound.calls call a noted.there)

        same : with_state script v.current.c t.target ≡ d
        same = ap (λ (c : Configuration). with_state script c t.target) v.is ∙ t.is

    receiver_to : IsMovedTo script Among w call moves d
    receiver_to = noted_to (by_receiver script Among is_script closes w of_run.sound of_run.counted call a there s.phase
        (ap (λ (n : ℕ). (state_of script n).is_end) (sym k.state) ∙ goes_on) k (next_room w call a moves last)
        (for_notes w call a moves last 2 (omega arith)) t.target t.i t.hook t.within named leads)

  pub resting_to : LeadsIn script k.c k.c.link d → k.c.link ≡ Resting → IsMovedTo script Among w call moves d
  resting_to leads link =
      let at = subst (λ (l : LinkPhase). LeadsIn script k.c l d) link leads in
      elim (at_rest_by script k.c d link at.1) [ inl t ↦ timer_to t | inr t ↦ receiver_to at.0 t ]
