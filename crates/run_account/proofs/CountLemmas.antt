-- How many restarts, executes and events of a call a history has, event by event.
use Rattle.std.proofs.Common.{◌≡◌, ◌∙◌, ◌+◌, ◌<◌, ◌++◌, ◌==◌, ℕ, Bool, true, false, List, [], ◌∷◌, Some, length, take, get_or, refl, sym, ap, arith}
use Rattle.std.specs.Prelude.{if◌then◌else◌, slice_get}
use Rattle.std.proofs.lemmas.List.{length-append, take_more}
use Rattle.std.proofs.lemmas.List.Elements.{filter-append}
use Rattle.std.proofs.lemmas.Option.{get_or_from_slice_get, slice_get_within}
use Rattle.mg_names.specs.declared.identifiers.CallNo.{CallNo}
use Rattle.mg_model.specs.World.{is_of_call}
use Rattle.mg_model.specs.declared.events.CallEvent.{CallEvent}
use Rattle.mg_model.specs.declared.events.Event.{Event}
use Rattle.mg_model.specs.declared.events.Event.TheVariants.{OfCall, Restart}
use Rattle.mg_model.specs.Shards.{restarts_in}
use Rattle.mg_merge.specs.Identifiers.{executes_in, executes_of}
use Rattle.run_account.specs.Comparing.{restarts_of}
use Rattle.run_account.specs.FinalStates.{AreAllOf, counted}
use Rattle.run_shards.specs.Parts.{of_call}

pub restarts_more : (history : List Event) (event : Event) → restarts_in (history ++ event ∷ []) ≡ restarts_in history + restarts_of event
unfolding restarts_in
restarts_more [] (OfCall call happens) = refl
restarts_more [] Restart = refl
restarts_more (OfCall call happens ∷ more) event = restarts_more more event
restarts_more (Restart ∷ more) event = omega (arith, restarts_more more event)

pub restarts_next : (history : List Event) (i n one : ℕ) (d : Event) → n ≡ restarts_in (take i history) → i < length history → one ≡ restarts_of (get_or history i d)
    → n + one ≡ restarts_in (take (i + 1) history)
restarts_next history i n one d so_far within is =
    ap (λ m. m + one) so_far ∙ ap (λ m. restarts_in (take i history) + m) is ∙ sym (restarts_more (take i history) (get_or history i d))
    ∙ ap restarts_in (sym (take_more history i d within))

pub executes_more : (history : List Event) (event : Event) → executes_in (history ++ event ∷ []) ≡ executes_in history + executes_of event
unfolding executes_in
executes_more [] event = omega arith
executes_more (first ∷ more) event = omega (arith, executes_more more event)

pub executes_next : (history : List Event) (i n one : ℕ) (d : Event) → n ≡ executes_in (take i history) → i < length history → one ≡ executes_of (get_or history i d)
    → n + one ≡ executes_in (take (i + 1) history)
executes_next history i n one d so_far within is =
    ap (λ m. m + one) so_far ∙ ap (λ m. executes_in (take i history) + m) is ∙ sym (executes_more (take i history) (get_or history i d))
    ∙ ap executes_in (sym (take_more history i d within))

-- ---- the events of a call

pub one_more : (trail : List Event) (place : ℕ) (event : Event) → slice_get trail place ≡ Some event
    → take (place + 1) trail ≡ take place trail ++ event ∷ []
one_more trail place event there =
    take_more trail place event (slice_get_within trail place event there)
    ∙ ap (λ (e : Event). take place trail ++ e ∷ []) (get_or_from_slice_get trail place event event there)

-- it is counted for its call, and for no other
counted_more : (trail : List Event) (place : ℕ) (of : CallNo) (happens : CallEvent) → slice_get trail place ≡ Some (OfCall of happens)
    → (call : ℕ) → counted call (place + 1) trail ≡ counted call place trail + (if of.0 == call then 1 else 0)
counted_more trail place of happens there call =
    ap (λ (events : List Event). length (of_call call events)) (one_more trail place (OfCall of happens) there)
    ∙ ap (λ (events : List Event). length events) (filter-append (is_of_call call) (take place trail) (OfCall of happens ∷ []))
    ∙ length-append (of_call call (take place trail)) (of_call call (OfCall of happens ∷ []))
    ∙ ap (λ (n : ℕ). counted call place trail + n) (by_test (of.0 == call))
  where
    by_test : (test : Bool) → length (if test then OfCall of happens ∷ [] else []) ≡ (if test then 1 else 0)
    by_test true = refl
    by_test false = refl

pub all_more : (trail : List Event) (from i place : ℕ) (of : CallNo) (happens : CallEvent) → slice_get trail place ≡ Some (OfCall of happens)
    → AreAllOf trail of.0 from i place → AreAllOf trail of.0 from (i + 1) (place + 1)
all_more trail from i place of happens there so_far call =
    counted_more trail place of happens there call
    ∙ ap (λ (n : ℕ). n + (if of.0 == call then 1 else 0)) (so_far call)
    ∙ by_test (of.0 == call)
  where
    by_test : (test : Bool)
        → counted call from trail + (if test then i else 0) + (if test then 1 else 0) ≡ counted call from trail + (if test then i + 1 else 0)
    by_test true = omega arith
    by_test false = omega arith
