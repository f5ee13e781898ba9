-- What happened is written down: it is the last of the trail, and the call that began stands.
use Rattle.std.proofs.Common.{◌≡◌, ◌∙◌, ◌+◌, ◌++◌, Bool, true, false, ℕ, List, [], ◌∷◌, if◌then◌else◌, Option, None, Result, Ok, Err, refl, sym, ap, subst}
use Rattle.std.proofs.lemmas.List.{append_assoc, append-nil}
use Rattle.mg_names.specs.declared.identifiers.CallNo.{CallNo}
use Rattle.mg_model.specs.declared.events.Event.{Event}
use Rattle.mg_model.specs.Numbers.{plan_calls}
use Rattle.agent.specs.Calls.{value_of}
use Rattle.agent.specs.declared.refusal.Refusal.{Refusal}
use Rattle.shards.specs.Shards.{ShardValue}
use Rattle.shards.specs.Stepping.{IsStep, is_beginning}
use Rattle.shards.specs.declared.stepped.Stepped.{Stepped}
use Rattle.shards.specs.declared.stepped.Stepped.TheVariants.{Done, Begun}
use Rattle.planned_calls.specs.Taking.{IsWritten, SettlesAs, left_of, stands_behind, trail_of}
use Rattle.planned_calls.specs.declared.planned_call.PlannedCall.{PlannedCall}

-- where nothing happened nothing is written
pub nothing_written : (a : PlannedCall) → IsWritten a None a
nothing_written a = record { trail = sym (append-nil (trail_of a)); standing = refl }

module _ (v w : ShardValue) (a b : PlannedCall) (event : Event) (begins : CallNo) (number : begins.0 ≡ a.standing.0 + plan_calls) where
  abbrev before : List Event
  before = (value_of a.next).transcript

  numbered : (event_begins : Bool) → is_beginning event ≡ event_begins → (n : ℕ) → n ≡ (if event_begins then a.standing.0 + plan_calls else a.standing.0)
      → n ≡ (if is_beginning event then a.standing.0 + plan_calls else a.standing.0)
  numbered event_begins is n e = e ∙ ap (λ (test : Bool). if test then a.standing.0 + plan_calls else a.standing.0) (sym is)

  pub written : (done : Result Stepped Refusal) (told : Option Event) → IsStep v w a.next b.next event done → SettlesAs w event done (Ok told)
      → b.standing ≡ stands_behind a.standing begins done → b.log.trail.items ≡ a.log.trail.items ++ left_of done → IsWritten a told b
  written (Ok Done) told is told_as standing kept = subst (λ (o : Option Event). IsWritten a o b) (sym told_as) (record {
    trail = ap (λ (events : List Event). events ++ (value_of b.next).transcript) (kept ∙ append-nil a.log.trail.items)
        ∙ ap (λ (events : List Event). a.log.trail.items ++ events) is.longer.transcript ∙ sym (append_assoc a.log.trail.items before (event ∷ []));
    standing = numbered false is.goes_on b.standing.0 (ap (λ (c : CallNo). c.0) standing);
  })
  written (Ok (Begun retired)) told is told_as standing kept = subst (λ (o : Option Event). IsWritten a o b) (sym told_as) (record {
    trail = ap (λ (events : List Event). events ++ (value_of b.next).transcript)
        (kept ∙ ap (λ (events : List Event). a.log.trail.items ++ events) is.1.transcript)
        ∙ ap (λ (events : List Event). (a.log.trail.items ++ before) ++ events) is.0.transcript;
    standing = numbered true is.0.begins b.standing.0 (ap (λ (c : CallNo). c.0) standing ∙ number);
  })
  written (Err why) told is told_as standing kept = subst (λ (o : Option Event). IsWritten a o b) (sym told_as.0) (record {
    trail = ap (λ (events : List Event). events ++ (value_of b.next).transcript) (kept ∙ append-nil a.log.trail.items)
        ∙ ap (λ (events : List Event). a.log.trail.items ++ events) is.1.1.call.transcript ∙ sym (append-nil (trail_of a));
    standing = ap (λ (c : CallNo). c.0) standing;
  })
