-- Calls that begin on the lines of one that has ended: their events, and why one that begins among others can begin alone too.
use Rattle.std.proofs.Common.{◌≡◌, ◌∙◌, ℕ, Bool, true, false, List, [], ◌∷◌, Option, Some, None, refl, sym, ap, ◌==◌, if◌then◌else◌}
use Rattle.mg_merge.proofs.Words.{Agent, All, Begins, CallEvent, CallNo, Entry, Event, Gateway, HasIdentifiersLeft, IsEntryOf, IsOpening, IsScript, NoneBroken}
use Rattle.mg_merge.proofs.Words.{OccursTo, Opened, Runs, Script, World, eq-eqb, eqb-true, false_from_ne_true, false_not_true, none_is_some, not_both}
use Rattle.mg_alike.proofs.Words.{HasEnoughNumbers, IsBeginning, IsRetiredBy, TreatAlike, begins_on}
use Rattle.mg_model.specs.declared.events.CallEvent.TheVariants as to_call
use Rattle.mg_model.specs.Accepted.{HasFewCommands}
use Rattle.mg_alike.proofs.Alone.Enough.{never_run_out}
use Rattle.mg_alike.proofs.Alone.OneCall.{IsLone, opening_lone, runs_lone}
use Rattle.mg_alike.proofs.Events.Alone.{execute_retired, steps_retired}
use Rattle.mg_alike.proofs.Events.Kept.{step_of}

-- ---- events

pub begun_on : (call : ℕ) (happens : CallEvent) → begins_on call happens ≡ true → (old : CallNo) × (happens ≡ to_call.Begin old) × (old.0 ≡ call)
begun_on call (to_call.Begin old) e = (old, refl, eqb-true old.0 call e)
begun_on call _ e = absurd (false_not_true e)

pub stays_open : (call : ℕ) (happens : CallEvent) → begins_on call happens ≡ false → IsRetiredBy happens call → ⊥
stays_open call (to_call.Begin old) e is = not_both (eq-eqb old.0 call is) e
stays_open call _ e is = is

-- an event of a call that is open retires none
pub none_retired : (script : Script) (w after : World) (call : ℕ) (happens : CallEvent) → (IsBeginning happens → ⊥) → OccursTo script w call happens after
    → after.gateway.retired ≡ w.gateway.retired
none_retired script w after call (to_call.OnLine line event) goes_on (held, o) =
    ap (λ (x : World). x.gateway.retired) o.after_is ∙ ap (λ (g : Gateway). g.retired) o.happens.after_is
none_retired script w after call (to_call.Execute number chosen) goes_on (request, of, executes) = execute_retired w after request chosen executes
none_retired script w after call (to_call.Begin old) goes_on b = absurd (goes_on tt)
none_retired script w after call happens goes_on occurs = steps_retired w after call _ (step_of script w after call happens tt occurs).1

-- ---- where a call and its heirs are alone

module _ (script : Script) (entries : List Entry) (is_script : IsScript script) (listed : All (IsEntryOf script) entries) (none_broken : NoneBroken script entries)
    (few : HasFewCommands script) (calls : List Opened) (one : Opened) (start lone : World) (opens : IsOpening script calls start)
    (also_opens : IsOpening script (one ∷ []) lone) (enough : HasEnoughNumbers lone.gateway.board.class) where
  pub has_left : (history : List Event) (v : World) → Runs script history lone v → HasIdentifiersLeft v
  has_left history v runs = never_run_out script entries is_script listed none_broken few one lone also_opens enough history v runs

  -- a number that isn't used among others isn't used alone
  pub unused_alone : (history : List Event) (w v : World) → Runs script history lone v → (call new : ℕ) → TreatAlike w v call → w.agent new ≡ None → v.agent new ≡ None
  unused_alone history w v runs call new treat unused = go (v.agent new) refl
    where
      its : IsLone lone.gateway.board.class v
      its = runs_lone script few lone.gateway.board.class history lone v (opening_lone script one lone also_opens) runs

      go : (o : Option Agent) → v.agent new ≡ o → v.agent new ≡ None
      go None is = is
      go (Some b) is =
          let same : new ≡ call = its.only new b is ∙ sym (its.only call treat.other treat.alike.open_other) in
          absurd (none_is_some treat.one (sym unused ∙ ap w.agent same ∙ treat.alike.open_one))

  pub not_retired_alone : (w v : World) (new : ℕ) → ((c : ℕ) → v.gateway.retired c ≡ true → w.gateway.retired c ≡ true) → w.gateway.retired new ≡ false
      → v.gateway.retired new ≡ false
  not_retired_alone w v new kept not_retired = false_from_ne_true (v.gateway.retired new) (λ is. not_both (kept new is) not_retired)

  pub kept_begun : (w v next too : World) (new call : ℕ) → ((c : ℕ) → v.gateway.retired c ≡ true → w.gateway.retired c ≡ true) → Begins script w new call next
      → Begins script v new call too → (c : ℕ) → too.gateway.retired c ≡ true → next.gateway.retired c ≡ true
  kept_begun w v next too new call kept b d c is =
      ap (λ (x : World). x.gateway.retired c) b.after_is
      ∙ go (c == call) (v.gateway.retired c) (w.gateway.retired c) (kept c) (sym (ap (λ (x : World). x.gateway.retired c) d.after_is) ∙ is)
    where
      go : (test was of : Bool) → (was ≡ true → of ≡ true) → (if test then true else was) ≡ true → (if test then true else of) ≡ true
      go true was of on is = refl
      go false was of on is = on is
