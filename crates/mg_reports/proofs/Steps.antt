-- Worlds of two runs from two openings, in which a call is beside itself: an event that happens in both leaves it so, and what a step means happens in both or in
-- neither.
use Rattle.std.proofs.Common.{◌≡◌, ◌∙◌, ◌<◌, ◌++◌, ℕ, Bool, List, [], ◌∷◌, Option, Some, None, refl, sym, ap, subst, inl, inr, IsTrue}
use Rattle.mg_merge.proofs.Words.{Agent, All, CallEvent, Entry, Event, HasIdentifiersLeft, IsEntryOf, IsOpening, IsScript, Means, NoneBroken, Occurs, OccursTo}
use Rattle.mg_merge.proofs.Words.{OfCall, Opened, PlanStep, Restart, Script, World, begin, last_association, none_is_some, restarted, the_call, the_some}
use Rattle.mg_merge.proofs.Words.{with_gateway}
use Rattle.mg_alike.proofs.Words.{AreReached, IsBeginning}
use Rattle.mg_model.specs.World.{Begins as IsBegun}
use Rattle.mg_safety.proofs.Messages.NamedMessages.{opening_numbered, runs_numbered}
use Rattle.mg_safety.proofs.Messages.NumberedWorlds.{IsNumbered}
use Rattle.mg_alike.proofs.Events.Alone.{runs_on, reached_both}
use Rattle.mg_alike.proofs.Events.Begun.{beginnings_alike, beginnings_happen}
use Rattle.mg_alike.proofs.Events.Every.{events_alike, restarts_alike}
use Rattle.mg_alike.proofs.Events.Happening.{events_happen}
use Rattle.mg_reports.proofs.Beside.{AreBeside, in_step, in_step_begun, in_step_restarted}
use Rattle.mg_reports.proofs.Meanings.{IsKind, kind_of, means_too}
use Rattle.mg_reports.proofs.Only.{only_begun, only_own, only_same}

-- ---- two runs from two openings

module _ (script : Script) (entries : List Entry) (is_script : IsScript script) (listed : All (IsEntryOf script) entries) (none_broken : NoneBroken script entries)
    (calls others : List Opened) (keep : ℕ → Bool) (start first : World) (opens : IsOpening script calls start) (also_opens : IsOpening script others first) where
  pub both_reached : (call : ℕ) (w v : World) → AreBeside script keep start first call w v → AreReached script w v
  both_reached call w v both =
      reached_both script entries is_script listed none_broken calls others start first opens also_opens both.past both.history w v both.runs both.also_runs

  numbered_one : (call : ℕ) (w v : World) → AreBeside script keep start first call w v → IsNumbered w
  numbered_one call w v both = runs_numbered script both.past start w (opening_numbered script calls start opens) both.runs

  numbered_other : (call : ℕ) (w v : World) → AreBeside script keep start first call w v → IsNumbered v
  numbered_other call w v both = runs_numbered script both.history first v (opening_numbered script others first also_opens) both.also_runs

  pub of_call : (call : ℕ) (w v : World) (both : AreBeside script keep start first call w v) → both.treat.one.call ≡ call
  of_call call w v both = (numbered_one call w v both).agents call both.treat.one both.treat.alike.open_one

  -- ---- an event that happens in both

  pub own_beside : (call : ℕ) (w v : World) → AreBeside script keep start first call w v → HasIdentifiersLeft w → HasIdentifiersLeft v → (happens : CallEvent)
      → (IsBeginning happens → ⊥) → (after next : World) → OccursTo script w call happens after → OccursTo script v call happens next
      → AreBeside script keep start first call after next
  own_beside call w v both left also_left happens goes_on after next o p =
      let treat = events_alike script w v (both_reached call w v both) left also_left call happens goes_on both.treat after next o p in
      record {
        past = both.past ++ OfCall (the_call call) happens ∷ [];
        history = both.history ++ OfCall (the_call call) happens ∷ [];
        runs = runs_on script both.past start w after (OfCall (the_call call) happens) both.runs o;
        also_runs = runs_on script both.history first v next (OfCall (the_call call) happens) both.also_runs p;
        treat = treat;
        kept = both.kept;
        only = only_own script keep w after call both.only happens o;
        also_only = only_own script keep v next call both.also_only happens p;
        in_step = in_step keep w v after next both.in_step script call both.kept happens goes_on both.treat treat (numbered_other call w v both).requests.once o p;
      }

  pub begun_beside : (call new : ℕ) (w v : World) → AreBeside script keep start first call w v → IsTrue (keep new) → (after next : World)
      → IsBegun script w new call after → IsBegun script v new call next → AreBeside script keep start first new after next
  begun_beside call new w v both kept after next b d = record {
    past = both.past ++ begin new call ∷ [];
    history = both.history ++ begin new call ∷ [];
    runs = runs_on script both.past start w after (begin new call) both.runs b;
    also_runs = runs_on script both.history first v next (begin new call) both.also_runs d;
    treat = beginnings_alike script w v (both_reached call w v both) new call both.treat after next b d;
    kept = kept;
    only = only_begun script keep w after call both.only new b;
    also_only = only_begun script keep v next call both.also_only new d;
    in_step = in_step_begun keep w v after next both.in_step script new call b d;
  }

  pub restarted_beside : (call : ℕ) (w v : World) → AreBeside script keep start first call w v → (after next : World) → Occurs script w Restart after
      → Occurs script v Restart next → AreBeside script keep start first call after next
  restarted_beside call w v both after next o p = record {
    past = both.past ++ Restart ∷ [];
    history = both.history ++ Restart ∷ [];
    runs = runs_on script both.past start w after Restart both.runs o;
    also_runs = runs_on script both.history first v next Restart both.also_runs p;
    treat = restarts_alike script w v call both.treat after next o p;
    kept = both.kept;
    only = only_same script keep w after call both.only (ap (λ (x : World). x.agent) o.1);
    also_only = only_same script keep v next call both.also_only (ap (λ (x : World). x.agent) p.1);
    in_step = in_step_restarted keep w v after next both.in_step script o p;
  }

  -- ---- an event that happens in the one happens in the other

  -- a number of these that isn't used in the one world isn't used in the other
  unused_too : (call new : ℕ) (w v : World) → AreBeside script keep start first call w v → IsTrue (keep new) → w.agent new ≡ None → v.agent new ≡ None
  unused_too call new w v both kept unused = go (v.agent new) refl
    where
      go : (o : Option Agent) → v.agent new ≡ o → v.agent new ≡ None
      go None is = is
      go (Some b) is =
          absurd (none_is_some both.treat.one (sym unused ∙ ap w.agent (both.also_only new b kept is) ∙ both.treat.alike.open_one))

  -- so what a step means can't happen in the one and not in the other
  happens_too : (call : ℕ) (w v : World) → AreBeside script keep start first call w v → HasIdentifiersLeft w → HasIdentifiersLeft v → (a : Agent)
      → a.call ≡ call → (next : ℕ) → IsTrue (keep next) → (step : PlanStep) (event : Event) (after : World) → IsKind a next step event
      → Occurs script w event after → (u : World) × Occurs script v event u
  happens_too call w v both left also_left a of next kept step event after (inl own) occurs =
      let is : event ≡ OfCall (the_call call) own.happens = own.is ∙ ap (λ (n : ℕ). OfCall (the_call n) own.happens) of in
      let too = events_happen script w v (both_reached call w v both) left also_left call own.happens own.goes_on both.treat after
      (subst (λ (e : Event). Occurs script w e after) is occurs) in
      (too.0, subst (λ (e : Event). Occurs script v e too.0) (sym is) too.1)
  happens_too call w v both left also_left a of next kept step event after (inr (inl begins)) occurs =
      let is : event ≡ begin next call = begins.1 ∙ ap (λ (n : ℕ). begin next n) of in
      let b : IsBegun script w next call after = subst (λ (e : Event). Occurs script w e after) is occurs in
      let too = beginnings_happen script w v (both_reached call w v both) next call both.treat after b (unused_too call next w v both kept b.unused)
      (both.in_step.retired next kept ∙ b.not_retired) in
      (too.0, subst (λ (e : Event). Occurs script v e too.0) (sym is) too.1)
  happens_too call w v both left also_left a of next kept step event after (inr (inr restarts)) occurs =
      let o : Occurs script w Restart after = subst (λ (e : Event). Occurs script w e after) restarts.1 occurs in (
        with_gateway v (restarted v.gateway),
        rw restarts.1 (subst (λ (n : ℕ). n < last_association) (sym both.treat.alike.association) o.0, refl),
      )

  pub means_both : (call : ℕ) (w v : World) (both : AreBeside script keep start first call w v) (next : ℕ) (step : PlanStep) (event : Event)
      → Means w both.treat.one next step event → Means v both.treat.other next step event
  means_both call w v both next step event means =
      means_too w v call both.treat.renaming both.treat.one both.treat.other both.treat.alike (of_call call w v both) keep both.kept both.in_step.requests
      both.in_step.replies next step event means

  -- a step that happens in the one world happens in the other, by the same event
  pub step_too : (call : ℕ) (w v : World) (both : AreBeside script keep start first call w v) → HasIdentifiersLeft w → HasIdentifiersLeft v → (a : Agent)
      → w.agent call ≡ Some a → (next : ℕ) → IsTrue (keep next) → (step : PlanStep) (event : Event) (after : World) → Means w a next step event
      → Occurs script w event after → Means v both.treat.other next step event × ((u : World) × Occurs script v event u)
  step_too call w v both left also_left a there next kept step event after means occurs =
      let its : Means w both.treat.one next step event =
      subst (λ (x : Agent). Means w x next step event) (the_some a both.treat.one (sym there ∙ both.treat.alike.open_one)) means in (
        means_both call w v both next step event its,
        happens_too call w v both left also_left both.treat.one (of_call call w v both) next kept step event after
            (kind_of w both.treat.one next step event its) occurs,
      )

  -- so it isn't idle there
  pub not_idle : (call : ℕ) (w v : World) (both : AreBeside script keep start first call w v) → HasIdentifiersLeft w → HasIdentifiersLeft v → (a b : Agent)
      → w.agent call ≡ Some a → v.agent call ≡ Some b → (next : ℕ) → IsTrue (keep next) → (step : PlanStep) (event : Event) (after : World)
      → Means w a next step event → Occurs script w event after → ((event : Event) (u : World) → Means v b next step event → Occurs script v event u → ⊥) → ⊥
  not_idle call w v both left also_left a b there also next kept step event after means occurs cannot =
      let too = step_too call w v both left also_left a there next kept step event after means occurs in
      cannot event too.1.0
      (subst (λ (x : Agent). Means v x next step event) (the_some both.treat.other b (sym both.treat.alike.open_other ∙ also)) too.0) too.1.1
