-- A call that goes among others by some turns goes alone by its own steps with the restarts beside them: what is an event there is the same event alone, what is
-- idle there is idle alone, and what else happens there leaves it beside itself.
use Rattle.mg_model.specs.Accepted.{HasFewCommands}
use Rattle.std.proofs.Common.{◌≡◌, ◌∙◌, ◌<◌, ◌+◌, ℕ, Bool, true, false, List, [], ◌∷◌, Some, refl, sym, ap, subst, inl, inr, ◌%◌, IsTrue}
use Rattle.mg_merge.proofs.Words.{Agent, All, Begins, CallEvent, Entry, HasIdentifiersLeft, IsEntryOf, IsOpening, IsScript, NoneBroken, Occurs, OccursTo}
use Rattle.mg_merge.proofs.Words.{OfCall, Opened, PlanStep, Progress, Restart, Script, StepHappens, StepIsIdle, StepsRun, World, after_event, at_one, eqb-true}
use Rattle.mg_merge.proofs.Words.{last_association, not_both, number_begun, plan_calls, restarted, with_gateway}
use Rattle.mg_alike.proofs.Words.{begins_on}
use Rattle.mg_safety.proofs.Messages.NamedMessages.{event_numbered, opening_numbered, runs_numbered}
use Rattle.mg_safety.proofs.Messages.NumberedWorlds.{IsNumbered}
use Rattle.mg_alike.proofs.Alone.Heirs.{begun_on, stays_open}
use Rattle.mg_reports.specs.Among.{Turn, own, beside, GoesAmong}
use Rattle.mg_reports.proofs.Along.{AreAlong, Goes, along, next_step}
use Rattle.mg_reports.proofs.Among.Placed.{placed_in}
use Rattle.mg_reports.proofs.Among.Unmoved.{other_beside}
use Rattle.mg_reports.proofs.Among.Within.{is_within, within_begun}
use Rattle.mg_reports.proofs.Beside.{AreBeside, beside_turned}
use Rattle.mg_reports.proofs.Runs.{left_in}
use Rattle.mg_reports.proofs.Steps.{not_idle, restarted_beside, step_too}
use Rattle.mg_alike.proofs.Events.Alone.{event_retired}

-- a call that stands at the end of its turns was never ended by an event beside them
never_ended : (script : Script) (first : ℕ) (turns : List Turn) (p end : Progress) → IsNumbered p.world → p.world.gateway.retired p.standing ≡ true
    → GoesAmong script first turns p end → (a : Agent) → end.world.agent end.standing ≡ Some a → ⊥
unfolding GoesAmong
never_ended script first [] p end numbered gone goes a there =
    not_both gone (numbered.open_calls p.standing a (subst (λ (q : Progress). q.world.agent q.standing ≡ Some a) goes there))
never_ended script first (own step ∷ more) p end numbered gone (left, (next, (inl x, rest))) a there = not_both gone (numbered.open_calls p.standing x.agent x.stands)
never_ended script first (own step ∷ more) p end numbered gone (left, (next, (inr x, rest))) a there = not_both gone (numbered.open_calls p.standing x.agent x.stands)
never_ended script first (beside event ∷ more) p end numbered gone (apart, (next, (occurs, rest))) a there =
    never_ended script first more (record p { world = next }) end (event_numbered script p.world next event numbered occurs)
    (event_retired script p.world next p.standing event occurs gone) rest a there

module _ (script : Script) (entries : List Entry) (is_script : IsScript script) (listed : All (IsEntryOf script) entries) (none_broken : NoneBroken script entries)
    (few : HasFewCommands script) (calls : List Opened) (one : Opened) (small : one.call < plan_calls) (start lone : World) (opens : IsOpening script calls start)
    (also_opens : IsOpening script (one ∷ []) lone) (every : (n : ℕ) → IsTrue (lone.gateway.board.class n)) where
  -- ---- its own steps

  module _ (p : Progress) (u : World) (both : AreBeside script (is_within one.call) start lone p.standing p.world u) (left : HasIdentifiersLeft p.world) (step : PlanStep)
      (after : Progress) where
    left_alone : HasIdentifiersLeft u
    left_alone = left_in script entries is_script listed none_broken few one lone also_opens every both.history u both.also_runs

    happens_alone : StepHappens script one.call p step after → (next : Progress) × StepHappens script one.call (record p { world = u }) step next
    happens_alone x =
        let too = step_too script entries is_script listed none_broken calls (one ∷ []) (is_within one.call) start lone opens also_opens p.standing p.world u both left
        left_alone x.agent x.stands (number_begun one.call (p.begun + 1)) (within_begun one.call (p.begun + 1) small) step x.event x.world x.means x.occurs in (
          after_event script one.call both.treat.other (record p { world = u }) step too.1.0,
          record {
            agent = both.treat.other;
            event = x.event;
            world = too.1.0;
            stands = both.treat.alike.open_other;
            means = too.0;
            occurs = too.1.1;
            after_is = refl;
          },
        )

    idle_alone : StepIsIdle script one.call p step after → StepIsIdle script one.call (record p { world = u }) step (record p { world = u; idle = p.idle + 1 })
    idle_alone x = record {
      agent = both.treat.other;
      stands = both.treat.alike.open_other;
      no_restart = x.no_restart;
      cannot = λ event world means occurs.
          not_idle script entries is_script listed none_broken (one ∷ []) calls (is_within one.call) lone start also_opens opens p.standing u p.world
          (beside_turned script (is_within one.call) start lone p.standing p.world u both) left_alone left both.treat.other x.agent both.treat.alike.open_other x.stands
          (number_begun one.call (p.begun + 1)) (within_begun one.call (p.begun + 1) small) step event world means occurs x.cannot;
      after_is = refl;
    }

    goes_alone : Goes script one.call p step after → (next : Progress) × Goes script one.call (record p { world = u }) step next
    goes_alone (inl x) = let too = happens_alone x in (too.0, inl too.1)
    goes_alone (inr x) = (record p { world = u; idle = p.idle + 1 }, inr (idle_alone x))

    own_along : (goes : Goes script one.call p step after) → AreAlong script (is_within one.call) start lone after (goes_alone goes).0
    own_along goes =
        next_step script entries is_script listed none_broken calls (one ∷ []) one (is_within one.call) (λ begun. within_begun one.call begun small) start lone opens
        also_opens p u both left left_alone step after (goes_alone goes).0 goes (goes_alone goes).1

  -- ---- all turns

  abbrev GoesAlone : List Turn → Progress → World → Progress → Type 0
  GoesAlone turns p u end =
      (other : Progress) × StepsRun script one.call (placed_in turns) (record p { world = u }) other × AreAlong script (is_within one.call) start lone end other

  pub all_turns : (turns : List Turn) (p : Progress) (u : World) (end : Progress) → AreBeside script (is_within one.call) start lone p.standing p.world u
      → GoesAmong script one.call turns p end → (a : Agent) → end.world.agent end.standing ≡ Some a → GoesAlone turns p u end
  unfolding GoesAmong StepsRun
  all_turns [] p u end both goes a there =
      (record p { world = u }, refl, along script (is_within one.call) start lone end (record p { world = u }) p u goes refl both)
  all_turns (own step ∷ more) p u end both (left, (after, (goes, rest))) a there =
      let too = goes_alone p u both left step after goes in
      let it = own_along p u both left step after goes in
      let later = all_turns more after it.0 end it.2 rest a there in
      (later.0, (too.0, too.1, subst (λ (q : Progress). StepsRun script one.call (placed_in more) q later.0) (sym it.1) later.1), later.2)
  all_turns (beside Restart ∷ more) p u end both (apart, (next, (occurs, rest))) a there =
      let restarts : Occurs script u Restart (with_gateway u (restarted u.gateway)) =
      (subst (λ (n : ℕ). n < last_association) (sym both.treat.alike.association) occurs.0, refl) in
      let later = all_turns more (record p { world = next }) (with_gateway u (restarted u.gateway)) end
      (restarted_beside script entries is_script listed none_broken calls (one ∷ []) (is_within one.call) start lone opens also_opens p.standing p.world u both next
      (with_gateway u (restarted u.gateway)) occurs restarts) rest a there in (
        later.0,
        (
          record p { world = with_gateway u (restarted u.gateway) },
          inl (record {
            agent = both.treat.other;
            event = Restart;
            world = with_gateway u (restarted u.gateway);
            stands = both.treat.alike.open_other;
            means = refl;
            occurs = restarts;
            after_is = refl;
          }),
          later.1,
        ),
        later.2,
      )
  all_turns (beside (OfCall who happens) ∷ more) p u end both (apart, (next, (occurs, rest))) a there =
      by_begins (begins_on p.standing happens) refl (all_turns more (record p { world = next }) u end)
    where
      numbered : IsNumbered p.world
      numbered = runs_numbered script both.past start p.world (opening_numbered script calls start opens) both.runs

      -- what begins on its lines ends it
      ended : begins_on p.standing happens ≡ true → next.gateway.retired p.standing ≡ true
      ended e =
          let it = begun_on p.standing happens e in
          let b : Begins script p.world who.0 it.0.0 next = subst (λ (h : CallEvent). OccursTo script p.world who.0 h next) it.1 occurs in
          let c : Begins script p.world who.0 p.standing next = subst (λ (n : ℕ). Begins script p.world who.0 n next) it.2 b in
          ap (λ (x : World). x.gateway.retired p.standing) c.after_is ∙ at_one p.standing true (p.world.gateway.retired p.standing)

      by_begins : (test : Bool) → begins_on p.standing happens ≡ test
          → (AreBeside script (is_within one.call) start lone p.standing next u → GoesAmong script one.call more (record p { world = next }) end → (a : Agent)
          → end.world.agent end.standing ≡ Some a → GoesAlone more (record p { world = next }) u end)
          → GoesAlone more p u end
      by_begins true e later =
          absurd (never_ended script one.call more (record p { world = next }) end (event_numbered script p.world next (OfCall who happens) numbered occurs) (ended e)
          rest a there)
      by_begins false e later =
          later (other_beside script entries is_script listed none_broken calls (one ∷ []) (is_within one.call) start lone opens also_opens p.standing p.world u both who
          happens (λ its. apart (eqb-true (who.0 % plan_calls) one.call its)) (stays_open p.standing happens e) next occurs) rest a there
