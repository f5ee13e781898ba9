-- The steps of a call so far are the plan's, epoch by epoch; and how many restarts are among them.
use Rattle.std.proofs.Common.{◌≡◌, ◌∙◌, ◌+◌, ◌≤◌, ◌++◌, ◌%◌, ℕ, zero, suc, Bool, true, false, List, [], ◌∷◌, length, take, slice_get, Option, Some, None, Contains, refl, sym, ap, subst, arith, append_assoc, take-suc, take_all}
use Rattle.std.specs.Prelude.{◌==◌, if◌then◌else◌}
use Rattle.std.proofs.Math.Nat.{le-max_left, le-max_right}
use Rattle.std.proofs.lemmas.Bool.{eq-eqb}
use Rattle.std.proofs.lemmas.Option.{get_or_from_slice_get, none-some, same_Some, slice_get_within}
use Rattle.mg_model.specs.declared.plans.PlanStep.{PlanStep}
use Rattle.mg_model.specs.declared.plans.PlanStep.TheVariants.{Restarts}
use Rattle.mg_model.specs.Plans.{PlanCall, epochs_of, opened_as, restarts_among, restarts_asked, restarts_of_all, steps_first, steps_in, steps_later}
use Rattle.mg_model.proofs.Single.{first_in, later_in}
use Rattle.planned_calls.specs.Parts.{opened_in}
use Rattle.run_shards.specs.Counting.{steps_so_far}
use Rattle.run_shards.specs.PlanSteps.{step_at, step_in_epoch, step_of_call}

-- ---- one epoch

pub take_more : (steps : List PlanStep) (place : ℕ) (step : PlanStep) → slice_get steps place ≡ Some step → take (place + 1) steps ≡ take place steps ++ step ∷ []
take_more steps place step there =
    let on : place + 1 ≡ suc place = omega arith in
    ap (λ (n : ℕ). take n steps) on
    ∙ take-suc steps place step (slice_get_within steps place step there)
    ∙ ap (λ (s : PlanStep). take place steps ++ s ∷ []) (get_or_from_slice_get steps place step step there)

nothing_left : (steps : List PlanStep) (place : ℕ) → slice_get steps place ≡ None → length steps ≤ place
nothing_left [] place none = omega arith
nothing_left (step ∷ more) zero none = absurd (none-some step (sym none))
nothing_left (step ∷ more) (suc place) none = let later = nothing_left more place none in omega (arith, later)

pub take_whole : (epochs : List (List PlanStep)) (place : ℕ) → step_in_epoch (slice_get epochs 0) place ≡ None → take place (steps_first epochs) ≡ steps_first epochs
take_whole [] place none = take_all place [] (omega arith)
take_whole (steps ∷ more) place none = take_all place steps (nothing_left steps place none)

-- ---- epoch by epoch

-- what a call's epochs hold at a place
abbrev pub in_epochs : (epochs : List (List PlanStep)) (epoch place : ℕ) → Option PlanStep
in_epochs epochs epoch place = step_in_epoch (slice_get epochs epoch) place

pub later_epochs : (epochs : List (List PlanStep)) (epoch place : ℕ) → in_epochs (steps_later epochs) epoch place ≡ in_epochs epochs (suc epoch) place
later_epochs [] epoch place = refl
later_epochs (steps ∷ more) epoch place = refl

epochs_advance : (epoch place : ℕ) (epochs : List (List PlanStep)) (step : PlanStep) → in_epochs epochs epoch place ≡ Some step
    → steps_so_far epoch (place + 1) epochs ≡ steps_so_far epoch place epochs ++ step ∷ []
unfolding steps_so_far
epochs_advance zero place [] step there = absurd (none-some step there)
epochs_advance zero place (steps ∷ more) step there = take_more steps place step there
epochs_advance (suc epoch) place epochs step there =
    ap (λ (rest : List PlanStep). steps_first epochs ++ Restarts ∷ rest)
    (epochs_advance epoch place (steps_later epochs) step (later_epochs epochs epoch place ∙ there))
    ∙ sym (append_assoc (steps_first epochs) (Restarts ∷ steps_so_far epoch place (steps_later epochs)) (step ∷ []))

epochs_ended : (epoch place : ℕ) (epochs : List (List PlanStep)) → in_epochs epochs epoch place ≡ None
    → steps_so_far (suc epoch) 0 epochs ≡ steps_so_far epoch place epochs ++ Restarts ∷ []
unfolding steps_so_far
epochs_ended zero place epochs none = ap (λ (steps : List PlanStep). steps ++ Restarts ∷ []) (sym (take_whole epochs place none))
epochs_ended (suc epoch) place epochs none =
    ap (λ (rest : List PlanStep). steps_first epochs ++ Restarts ∷ rest)
    (epochs_ended epoch place (steps_later epochs) (later_epochs epochs epoch place ∙ none))
    ∙ sym (append_assoc (steps_first epochs) (Restarts ∷ steps_so_far epoch place (steps_later epochs)) (Restarts ∷ []))

epochs_all : (epoch place : ℕ) (epochs : List (List PlanStep)) → in_epochs epochs epoch place ≡ None → steps_so_far epoch place epochs ≡ steps_in (suc epoch) epochs
unfolding steps_so_far
epochs_all zero place epochs none = take_whole epochs place none
epochs_all (suc epoch) place epochs none = ap (λ (rest : List PlanStep). steps_first epochs ++ Restarts ∷ rest)
    (epochs_all epoch place (steps_later epochs) (later_epochs epochs epoch place ∙ none))

-- ---- a call of the plan

pub at_call : (calls : List PlanCall) (first epoch place : ℕ) (call : PlanCall) → slice_get calls first ≡ Some call
    → in_epochs call.epochs epoch place ≡ step_at calls first epoch place
at_call calls first epoch place call is = ap (λ (o : Option PlanCall). step_of_call o epoch place) (sym is)

-- the next step of a call is one more of its steps so far
pub steps_advance : (calls : List PlanCall) (first epoch place : ℕ) (call : PlanCall) (step : PlanStep) → slice_get calls first ≡ Some call
    → step_at calls first epoch place ≡ Some step
    → steps_so_far epoch (place + 1) call.epochs ≡ steps_so_far epoch place call.epochs ++ step ∷ []
steps_advance calls first epoch place call step is there =
    epochs_advance epoch place call.epochs step (at_call calls first epoch place call is ∙ there)

-- where a call has no step left in an epoch the epoch ends
pub steps_ended : (calls : List PlanCall) (first epoch place : ℕ) (call : PlanCall) → slice_get calls first ≡ Some call → step_at calls first epoch place ≡ None
    → steps_so_far (epoch + 1) 0 call.epochs ≡ steps_so_far epoch place call.epochs ++ Restarts ∷ []
steps_ended calls first epoch place call is none =
    let on : epoch + 1 ≡ suc epoch = omega arith in
    ap (λ (n : ℕ). steps_so_far n 0 call.epochs) on ∙ epochs_ended epoch place call.epochs (at_call calls first epoch place call is ∙ none)

-- and where it was the last epoch these are all
pub steps_all : (calls : List PlanCall) (first epoch place : ℕ) (call : PlanCall) → slice_get calls first ≡ Some call → step_at calls first epoch place ≡ None
    → steps_so_far epoch place call.epochs ≡ steps_in (suc epoch) call.epochs
steps_all calls first epoch place call is none = epochs_all epoch place call.epochs (at_call calls first epoch place call is ∙ none)

-- ---- epochs

-- no call has more epochs than the plan
pub epochs_within : (calls : List PlanCall) (first : ℕ) (call : PlanCall) → slice_get calls first ≡ Some call → length call.epochs ≤ epochs_of calls
epochs_within [] first call is = absurd (none-some call is)
epochs_within (one ∷ more) zero call is =
    subst (λ (c : PlanCall). length c.epochs ≤ epochs_of (one ∷ more)) (same_Some one call is) (le-max_left (length one.epochs) (epochs_of more))
epochs_within (one ∷ more) (suc first) call is =
    let later = epochs_within more first call is in
    let most = le-max_right (length one.epochs) (epochs_of more) in
    omega (arith, later, most)

none_of : (epochs : List (List PlanStep)) → length epochs ≤ 0 → epochs ≡ []
none_of [] few = refl
none_of (steps ∷ more) few = absurd (omega (arith, few))

-- where the plan has none, a call has none
pub no_epochs : (calls : List PlanCall) (first : ℕ) (call : PlanCall) → slice_get calls first ≡ Some call → epochs_of calls ≡ 0 → call.epochs ≡ []
no_epochs calls first call is none = none_of call.epochs (subst (λ (n : ℕ). length call.epochs ≤ n) none (epochs_within calls first call is))

-- ---- restarts

restarts_after : (steps more : List PlanStep) → restarts_among (steps ++ more) ≡ restarts_among steps + restarts_among more
restarts_after [] more = sym (let same : 0 + restarts_among more ≡ restarts_among more = omega arith in same)
restarts_after (Restarts ∷ steps) more =
    let on = restarts_after steps more in
    let all : suc (restarts_among (steps ++ more)) ≡ suc (restarts_among steps) + restarts_among more = omega (arith, on) in
    all
restarts_after (step ∷ steps) more = restarts_after steps more

-- among a call's steps in some epochs are the restarts at their ends, but for the last, and those that it asked for
pub restarts_in_steps : (more : ℕ) (epochs : List (List PlanStep)) → length epochs ≤ suc more
    → restarts_among (steps_in (suc more) epochs) ≡ more + restarts_asked epochs
restarts_in_steps zero [] within = refl
restarts_in_steps zero (steps ∷ []) within =
    let all : restarts_among steps ≡ 0 + (restarts_among steps + 0) = omega arith in
    all
restarts_in_steps zero (steps ∷ next ∷ epochs) within = absurd (omega (arith, within))
restarts_in_steps (suc more) [] within =
    let on = restarts_in_steps more [] (let none : 0 ≤ suc more = omega arith in none) in
    let all : suc (restarts_among (steps_in (suc more) [])) ≡ suc more + 0 = omega (arith, on) in
    all
restarts_in_steps (suc more) (steps ∷ epochs) within =
    let on = restarts_in_steps more epochs (omega (arith, within)) in
    restarts_after steps (Restarts ∷ steps_in (suc more) epochs)
    ∙ (let all : restarts_among steps + suc (restarts_among (steps_in (suc more) epochs)) ≡ suc more + (restarts_among steps + restarts_asked epochs) = omega (arith, on) in
    all)

-- the restarts that a call asks for are some of the plan's
pub asked_within : (calls : List PlanCall) (first : ℕ) (call : PlanCall) → slice_get calls first ≡ Some call → restarts_asked call.epochs ≤ restarts_of_all calls
asked_within [] first call is = absurd (none-some call is)
asked_within (one ∷ more) zero call is =
    let here : restarts_asked one.epochs ≤ restarts_asked one.epochs + restarts_of_all more = omega arith in
    subst (λ (c : PlanCall). restarts_asked c.epochs ≤ restarts_of_all (one ∷ more)) (same_Some one call is) here
asked_within (one ∷ more) (suc first) call is =
    let later = asked_within more first call is in
    let all : restarts_asked call.epochs ≤ restarts_asked one.epochs + restarts_of_all more = omega (arith, later) in
    all

-- ---- the calls of a shard

opened_from : (count number from first : ℕ) (calls : List PlanCall) (call : PlanCall) → slice_get calls first ≡ Some call → (from + first) % count ≡ number
    → Contains (opened_in count number from calls) (opened_as (from + first) call)
unfolding opened_in
opened_from count number from first [] call is rest = absurd (none-some call is)
opened_from count number from zero (one ∷ more) call is rest =
    by_test (from % count == number) (eq-eqb (from % count) number (ap (λ (n : ℕ). n % count) (sym same) ∙ rest))
  where
    same : from + 0 ≡ from
    same = omega arith

    is_first : opened_as from one ≡ opened_as (from + 0) call
    is_first = ap (λ (n : ℕ). opened_as n one) (sym same) ∙ ap (λ (c : PlanCall). opened_as (from + 0) c) (same_Some one call is)

    by_test : (test : Bool) → test ≡ true
        → Contains (if test then opened_as from one ∷ opened_in count number (from + 1) more else opened_in count number (from + 1) more) (opened_as (from + 0) call)
    by_test test passes = subst
        (λ (t : Bool). Contains (if t then opened_as from one ∷ opened_in count number (from + 1) more else opened_in count number (from + 1) more) (opened_as (from + 0) call))
        (sym passes)
        (subst (Contains (opened_as from one ∷ opened_in count number (from + 1) more)) is_first (first_in (opened_as from one) (opened_in count number (from + 1) more)))
opened_from count number from (suc first) (one ∷ more) call is rest =
    by_test (from % count == number) (opened_from count number (from + 1) first more call is (ap (λ (n : ℕ). n % count) on ∙ rest))
  where
    on : from + 1 + first ≡ from + suc first
    on = omega arith

    by_test : (test : Bool) → Contains (opened_in count number (from + 1) more) (opened_as (from + 1 + first) call)
        → Contains (if test then opened_as from one ∷ opened_in count number (from + 1) more else opened_in count number (from + 1) more)
        (opened_as (from + suc first) call)
    by_test true later = subst (λ (n : ℕ). Contains (opened_as from one ∷ opened_in count number (from + 1) more) (opened_as n call)) on
        (later_in (opened_as from one) (opened_in count number (from + 1) more) (opened_as (from + 1 + first) call) later)
    by_test false later = subst (λ (n : ℕ). Contains (opened_in count number (from + 1) more) (opened_as n call)) on later

-- a call whose number leaves the shard's rest is among those that are opened in it
pub opened_among : (calls : List PlanCall) (count number first : ℕ) (call : PlanCall) → slice_get calls first ≡ Some call → first % count ≡ number
    → Contains (opened_in count number 0 calls) (opened_as first call)
opened_among calls count number first call is rest =
    let same : 0 + first ≡ first = omega arith in
    subst (λ (n : ℕ). Contains (opened_in count number 0 calls) (opened_as n call)) same
    (opened_from count number 0 first calls call is (ap (λ (n : ℕ). n % count) same ∙ rest))
