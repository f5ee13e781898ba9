-- Where the histories of shards agree with what the calls went through, the one history of all shards has of each call what it went through.
use Rattle.std.proofs.Common.{◌≡◌, ◌∙◌, ◌<◌, ◌≤◌, ◌++◌, ℕ, zero, suc, Bool, true, false, List, [], ◌∷◌, length, map, get_or, refl, sym, ap, arith}
use Rattle.std.specs.Prelude.{◌%◌, ◌==◌, Contains, if◌then◌else◌, slice_index_or}
use Rattle.std.specs.List.{flat_map}
use Rattle.std.proofs.lemmas.Bool.{eq-eqb, eqb-true, true≢false}
use Rattle.std.proofs.lemmas.List.{append-nil, get_or-map, length-map}
use Rattle.std.proofs.lemmas.List.Elements.{filter-append}
use Rattle.std.proofs.lemmas.List.Elements.{Contains-get_or}
use Rattle.mg_model.specs.declared.events.Event.{Event}
use Rattle.mg_model.specs.declared.events.Event.TheVariants.{OfCall, Restart}
use Rattle.mg_model.specs.Numbers.{plan_calls}
use Rattle.mg_model.specs.Shards.{cut_at_restarts, merged, restarts_in}
use Rattle.mg_model.specs.World.{is_of_call}
use Rattle.agent.specs.Calls.{value_of}
use Rattle.run_account.specs.Comparing.{Agree, trail_at, trails_of}
use Rattle.run_shards.specs.Taking.{trail_of}
use Rattle.run_shards.specs.Parts.{of_call}
use Rattle.run_account.specs.Runs.{IsOutcome, is_within, within}
use Rattle.run_shards.specs.PlannedCall.{PlannedCall}
use Rattle.run_account.proofs.MergedParts.{merged_alone}

-- ---- one history that has the events of a call

-- none has any
none_in_all : (number : ℕ) (histories : List (List Event)) → ((i : ℕ) → within number (slice_index_or histories i []) ≡ [])
    → flat_map (within number) histories ≡ []
none_in_all number [] none = refl
none_in_all number (history ∷ more) none =
    ap (λ (events : List Event). events ++ flat_map (within number) more) (none 0) ∙ none_in_all number more (λ i. none (suc i))

-- all others have none
pub alone_in_all : (number k : ℕ) (histories : List (List Event)) → ((i : ℕ) → (i ≡ k → ⊥) → within number (slice_index_or histories i []) ≡ [])
    → flat_map (within number) histories ≡ within number (slice_index_or histories k [])
alone_in_all number k [] alone = refl
alone_in_all number zero (history ∷ more) alone =
    ap (λ (events : List Event). within number history ++ events) (none_in_all number more (λ i. alone (suc i) (λ never. omega (arith, never))))
    ∙ append-nil (within number history)
alone_in_all number (suc k) (history ∷ more) alone =
    ap (λ (events : List Event). events ++ flat_map (within number) more) (alone 0 (λ never. omega (arith, never)))
    ∙ alone_in_all number k more (λ i other. alone (suc i) (λ same. other (omega (arith, same))))

-- what the one history has of a call of the plan is its trail
pub trails_agree : (count restarts : ℕ) (histories trails : List (List Event)) → length histories ≡ count → 0 < count
    → ((history : List Event) → Contains histories history → restarts_in history ≡ restarts) → Agree count histories trails
    → (number : ℕ) → within number (merged (map cut_at_restarts histories) restarts) ≡ trail_at trails number
trails_agree count restarts histories trails all some restarted agree number =
    let k = number % count in
    let among : k < length histories = omega (arith, all, some) in
    let few : restarts_in (slice_index_or histories k []) ≤ restarts =
    (let same = restarted (slice_index_or histories k []) (Contains-get_or histories k [] among) in omega (arith, same)) in
    merged_alone (is_within number) refl histories restarts k few (λ i below other. agree.own number i (λ same. other (sym same)))
    ∙ sym (alone_in_all number k histories (λ i other. agree.own number i (λ same. other (sym same))))
    ∙ sym (agree.whole number)

-- ---- one call

-- a call's events are all among those of the call of the plan that it began within
pub of_call_within : (call : ℕ) (history : List Event) → of_call call (within (call % plan_calls) history) ≡ of_call call history
of_call_within call [] = refl
of_call_within call (Restart ∷ more) = of_call_within call more
of_call_within call (OfCall c happens ∷ more) =
    by_test (c.0 % plan_calls == call % plan_calls) (c.0 == call) refl refl (of_call_within call more)
  where
    by_test : (among same : Bool) → (c.0 % plan_calls == call % plan_calls) ≡ among → (c.0 == call) ≡ same
        → of_call call (within (call % plan_calls) more) ≡ of_call call more
        → of_call call (if among then OfCall c happens ∷ within (call % plan_calls) more else within (call % plan_calls) more)
        ≡ (if same then OfCall c happens ∷ of_call call more else of_call call more)
    by_test true same begun is on =
        ap (λ (passes : Bool). if passes then OfCall c happens ∷ of_call call (within (call % plan_calls) more)
        else of_call call (within (call % plan_calls) more)) is
        ∙ ap (λ (events : List Event). if same then OfCall c happens ∷ events else events) on
    by_test false true begun is on =
        absurd (true≢false (sym (eq-eqb (c.0 % plan_calls) (call % plan_calls) (ap (λ (n : ℕ). n % plan_calls) (eqb-true c.0 call is))) ∙ begun))
    by_test false false begun is on = on

-- where the events of each call stand in its trail, a call's events in the history are those in the trail
pub of_call_in_trail : (history : List Event) (trails : List (List Event)) (call : ℕ) → IsOutcome history trails
    → of_call call history ≡ of_call call (slice_index_or trails (call % plan_calls) [])
of_call_in_trail history trails call is = sym (of_call_within call history) ∙ ap (of_call call) (is (call % plan_calls))

-- in those of a call of the plan before the one that stands, and in its own
pub of_planned_call : (planned_calls : List PlannedCall) (history : List Event) (call : ℕ)
    → IsOutcome history (trails_of planned_calls) → (d : PlannedCall) → call % plan_calls < length planned_calls
    → (of_call call (get_or planned_calls (call % plan_calls) d).log.trail.items
    ++ of_call call (value_of (get_or planned_calls (call % plan_calls) d).next).transcript) ≡ of_call call history
of_planned_call planned_calls history call is d within =
    let planned = get_or planned_calls (call % plan_calls) d in
    sym (filter-append (is_of_call call) planned.log.trail.items (value_of planned.next).transcript)
    ∙ ap (of_call call) (sym (get_or-map trail_of planned_calls (call % plan_calls) d [] within))
    ∙ sym (of_call_in_trail history (trails_of planned_calls) call is)

-- there are none of a call that was never there
pub none_past : (planned_calls : List PlannedCall) (history : List Event) (call : ℕ)
    → IsOutcome history (trails_of planned_calls) → length planned_calls ≤ call % plan_calls → of_call call history ≡ []
none_past planned_calls history call is past =
    of_call_in_trail history (trails_of planned_calls) call is
    ∙ ap (of_call call) (past_end (trails_of planned_calls) (call % plan_calls) (omega (arith, past, length-map planned_calls trail_of)))
  where
    past_end : (trails : List (List Event)) (n : ℕ) → length trails ≤ n → slice_index_or trails n [] ≡ []
    past_end [] n past = refl
    past_end (trail ∷ more) zero past = absurd (omega (arith, past))
    past_end (trail ∷ more) (suc n) past = past_end more n (omega (arith, past))
