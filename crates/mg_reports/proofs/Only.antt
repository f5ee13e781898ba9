-- Of some calls only one is open: an event of that one leaves it the only one, or makes one that begins on its lines so, and an event of a call that is none of
-- these leaves it too.
use Rattle.std.proofs.Common.{◌≡◌, ◌∙◌, ◌⊎◌, ℕ, Bool, true, false, Option, Some, None, refl, sym, ap, inl, inr, ◌==◌, IsTrue, if◌then◌else◌}
use Rattle.mg_merge.proofs.Words.{Agent, AgentSteps, Begins, CallEvent, ChosenRefusal, Executes, OccursTo, Request, Script, World, begun, eqb-false, eqb-true}
use Rattle.mg_merge.proofs.Words.{none_is_some}
use Rattle.mg_model.specs.declared.events.CallEvent.TheVariants as to_call
use Rattle.mg_alike.proofs.Events.Kept.{step_of}

abbrev pub IsOnly : (keep : ℕ → Bool) → World → (call : ℕ) → Type 0
IsOnly keep w call = (other : ℕ) (b : Agent) → IsTrue (keep other) → w.agent other ≡ Some b → other ≡ call

-- a call that is open after an event of one was open before it, or is that one
abbrev WasOpen : World → (one other : ℕ) → Type 0
WasOpen w one other = (other ≡ one) ⊎ ((a : Agent) × (w.agent other ≡ Some a))

module _ (w after : World) (one other : ℕ) (b : Agent) (there : after.agent other ≡ Some b) where
  same_open : after.agent ≡ w.agent → WasOpen w one other
  same_open same = inr (b, sym (ap (λ (f : ℕ → Option Agent). f other) same) ∙ there)

  step_open : (step : Agent → Option Agent) → AgentSteps w one step after → WasOpen w one other
  step_open step s = go (other == one) refl (sym (ap (λ (x : World). x.agent other) s.after_is) ∙ there)
    where
      go : (test : Bool) → (other == one) ≡ test → (if test then Some s.agent else w.agent other) ≡ Some b → WasOpen w one other
      go true e is = inl (eqb-true other one e)
      go false e is = inr (b, is)

  execute_open : (request : Request) (chosen : Option ChosenRefusal) → Executes w request chosen after → WasOpen w one other
  execute_open request chosen (inl f) = same_open (ap (λ (x : World). x.agent) f.after_is)
  execute_open request chosen (inr (inl f)) = same_open (ap (λ (x : World). x.agent) f.after_is)
  execute_open request chosen (inr (inr f)) = same_open (ap (λ (x : World). x.agent) f.1)

  begun_open : (script : Script) (old : ℕ) → Begins script w one old after → WasOpen w one other
  begun_open script old s = go (other == one) (other == old) refl (sym (ap (λ (x : World). x.agent other) s.after_is) ∙ there)
    where
      go : (test gone : Bool) → (other == one) ≡ test → (if test then Some (begun script one s.before) else if gone then None else w.agent other) ≡ Some b
          → WasOpen w one other
      go true gone e is = inl (eqb-true other one e)
      go false true e is = absurd (none_is_some b is)
      go false false e is = inr (b, is)

  was_open : (script : Script) (happens : CallEvent) → OccursTo script w one happens after → WasOpen w one other
  was_open script (to_call.OnLine line event) (held, o) = same_open (ap (λ (x : World). x.agent) o.after_is)
  was_open script (to_call.Execute number chosen) (request, of, executes) = execute_open request chosen executes
  was_open script (to_call.Begin old) s = begun_open script old.0 s
  was_open script happens occurs = let s = step_of script w after one happens tt occurs in step_open s.0 s.1

module _ (script : Script) (keep : ℕ → Bool) (w after : World) (call : ℕ) (only : IsOnly keep w call) where
  -- an event of the call
  pub only_own : (happens : CallEvent) → OccursTo script w call happens after → IsOnly keep after call
  only_own happens occurs other b its there = elim (was_open w after call other b there script happens occurs) [
    | inl is ↦ is
    | inr was ↦ only other was.0 its was.1
  ]

  -- an event of a call that is none of these
  pub only_beside : (one : ℕ) (happens : CallEvent) → (IsTrue (keep one) → ⊥) → OccursTo script w one happens after → IsOnly keep after call
  only_beside one happens none occurs other b its there = elim (was_open w after one other b there script happens occurs) [
    | inl is ↦ absurd (none (ap keep (sym is) ∙ its))
    | inr was ↦ only other was.0 its was.1
  ]

  -- a restart
  pub only_same : after.agent ≡ w.agent → IsOnly keep after call
  only_same same other b its there = only other b its (sym (ap (λ (f : ℕ → Option Agent). f other) same) ∙ there)

  -- another that begins on its lines
  pub only_begun : (new : ℕ) → Begins script w new call after → IsOnly keep after new
  only_begun new s other b its there = go (other == new) (other == call) refl refl (sym (ap (λ (x : World). x.agent other) s.after_is) ∙ there)
    where
      go : (test gone : Bool) → (other == new) ≡ test → (other == call) ≡ gone
          → (if test then Some (begun script new s.before) else if gone then None else w.agent other) ≡ Some b → other ≡ new
      go true gone e f is = eqb-true other new e
      go false true e f is = absurd (none_is_some b is)
      go false false e f is = absurd (eqb-false other call f (only other b its is))
