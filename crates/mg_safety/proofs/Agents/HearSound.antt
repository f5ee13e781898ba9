-- An agent that hears of a newer association keeps the world sound: it was lost, so it owns nothing, and of the gateway's own association the
-- gateway shows the configuration in which nothing is used.
use Rattle.mg_safety.proofs.Invariant.Sound.{Listed}
use Rattle.mg_safety.proofs.Words.{◌≡◌, ◌∙◌, ◌<◌, ◌≤◌, ℕ, [], length, Option, Some, None, refl, sym, ap, subst, arith, inl, inr, eq-or-lt_of_le, nat_lt}
use Rattle.mg_safety.proofs.Words.{◌⊎◌, Answered, Empty, Agent, entered, forgotten, heard, list_of, Configuration, Gateway, last_executed, Script, World}
use Rattle.mg_safety.proofs.Words.{AgentSteps, none_is_some, by_test, EventsName, same_itself, ltb-true}
use Rattle.mg_model.specs.Steps as steps
use Rattle.mg_safety.proofs.InvariantWords.{Seen, LinesShown, IsOfScript, is_call, owned_in, IsCurrent, IsCurrentAt, IsLost, CallIsSound, IsClosed, KeepsSound}
use Rattle.mg_safety.proofs.Agents.Entering.{enters_follows, enters_current}
use Rattle.mg_safety.proofs.Agents.AgentSteps.{Goes, agent_goes}
use Rattle.mg_safety.proofs.Agents.AgentParts.{none_settles, goes_on, lost_still}
use Rattle.mg_safety.proofs.Invariant.OpeningShown.{AreCleared, lines_alone, unused_shown}
use Rattle.mg_safety.proofs.Events.Others.{is_call_of, created_only}

-- the configuration in which nothing is used, from which the restart state is entered
abbrev fresh : Script → Configuration
fresh script = steps.unused (length script.lines) script.restart Answered Empty

fresh_of_script : (script : Script) (Among : Listed) → IsClosed script Among → IsOfScript script (fresh script)
fresh_of_script script Among closed = let o = closed.reset.of_script in
    record { spot = o.spot; mode = o.mode; events = o.events; plays = o.plays; context = o.context; remote = o.remote; cut = o.cut }

module _ (script : Script) (g : Gateway) (a : Agent) (lost : IsLost script g a)
    (held : (i : ℕ) → i < length script.lines → g.holder (a.lines i) ≡ Some a.call)
    (once : (i j : ℕ) → i < length script.lines → j < length script.lines → a.lines i ≡ a.lines j → i ≡ j) where
  cleared : AreCleared script (owned_in g a.call) g.board a.lines
  cleared = record {
    rows = lost.rows;
    no_cut = lost.no_cut;
    own = λ i within. ap (λ (o : Option ℕ). is_call o a.call) (held i within) ∙ same_itself a.call;
    once = once;
    no_ephemeral = λ x own there. lost.no_ephemeral x
        (is_call_of (g.creator x) a.call (sym (created_only (is_call (g.creator x) a.call) (g.board.used_ephemeral x)) ∙ own));
  }

  fresh_shown : Seen script (owned_in g a.call) (lines_alone a.lines) g.board (fresh script)
  fresh_shown = unused_shown script (owned_in g a.call) g.board a.lines cleared script.restart Answered Empty

  -- an empty list, in or past the lines of the script
  fresh_list : (i : ℕ) → list_of script ((fresh script).events i) ≡ []
  fresh_list i = by_test (λ (name : EventsName). list_of script name ≡ []) Empty Empty (nat_lt i (length script.lines)) (λ e. refl) (λ e. refl)

  fresh_lines : (association : ℕ) → LinesShown script (forgotten a association) g.line (fresh script)
  fresh_lines association = record {
    events = λ i within. lost.list i within ∙ sym (fresh_list i);
    silent = λ i within e. lost.playing i within;
    expected = λ i within. lost.request i within;
    unnamed = λ i within none. lost.list i within;
  }

-- ---- it hears

hears : (script : Script) (a b : Agent) (association : ℕ) → heard script a association ≡ Some b
    → (a.association < association) × (entered script (forgotten a association) script.restart ≡ Some b)
hears script a b association =
    let led = entered script (forgotten a association) script.restart in
    by_test (λ (o : Option Agent). o ≡ Some b → (a.association < association) × (led ≡ Some b)) led None (nat_lt a.association association)
    (λ newer is. (ltb-true a.association association newer, is)) (λ older is. absurd (none_is_some b is))

pub hear_current : (script : Script) (Among : Listed) → IsClosed script Among → (w : World) (call association : ℕ) (a b : Agent)
    → CallIsSound script Among w call a → IsLost script w.gateway a → association ≡ w.gateway.association
    → entered script (forgotten a association) script.restart ≡ Some b → IsCurrentAt script Among w.gateway b (steps.reset script)
hear_current script Among closed w call association a b sound lost present is =
    let held : (i : ℕ) → i < length script.lines → w.gateway.holder (a.lines i) ≡ Some a.call =
    λ i within. sound.held i within ∙ ap Some (sym sound.numbered) in
    enters_current script Among w.gateway (forgotten a association) (fresh script) script.restart b (record {
      association = present;
      next = subst (λ n. last_executed w.gateway n < a.next) (sym sound.numbered) sound.next;
      of_script = fresh_of_script script Among closed;
      shown = fresh_shown script w.gateway a lost held sound.once;
      lines_shown = fresh_lines script w.gateway a lost held sound.once association;
    }) closed.reset is

hear_goes : (script : Script) (Among : Listed) → IsClosed script Among → (w : World) (call association : ℕ) (a b : Agent)
    → CallIsSound script Among w call a → association ≤ w.gateway.association → heard script a association ≡ Some b → Goes script Among w.gateway a b
hear_goes script Among closed w call association a b sound known is = by_part sound.part
  where
    by_age : IsLost script w.gateway a → (association ≡ w.gateway.association) ⊎ (association < w.gateway.association)
        → IsCurrent script Among w.gateway b ⊎ IsLost script w.gateway b
    by_age lost (inr older) = let f = enters_follows script (forgotten a association) script.restart b (hears script a b association is).1 in
        let same : b.association ≡ association = f.association in
        inr (lost_still script w.gateway a b lost f.call (omega (arith, older, same)) f.lines)
    by_age lost (inl present) = inl (hear_current script Among closed w call association a b sound lost present (hears script a b association is).1).current

    by_part : IsCurrent script Among w.gateway a ⊎ IsLost script w.gateway a → Goes script Among w.gateway a b
    by_part (inl k) =
        let newer = (hears script a b association is).0 in
        let present = k.association in absurd (omega (arith, newer, present, known))
    by_part (inr lost) =
        let taken = hears script a b association is in
        let newer = taken.0 in
        goes_on script Among w.gateway a (forgotten a association) b refl refl (omega (arith, newer)) refl
        (enters_follows script (forgotten a association) script.restart b taken.1) (none_settles script w.gateway a lost) (by_age lost (eq-or-lt_of_le known))

pub hear_sound : (call association : ℕ) → KeepsSound (λ script w after.
    (association ≤ w.gateway.association) × AgentSteps w call (λ a. heard script a association) after)
hear_sound call association script Among is_script closed w after sound occurs =
    let s = occurs.1 in
    agent_goes script Among w after call (λ a. heard script a association) sound s
    (hear_goes script Among closed w call association s.before s.agent (sound.calls call s.before s.open_call) occurs.0 s.steps)
