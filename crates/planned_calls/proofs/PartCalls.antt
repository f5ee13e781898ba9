-- The calls of a shard are those of the plan that have its rest; so the calls of all shards are those of the plan.
use Rattle.std.proofs.Common.{◌≡◌, ◌∙◌, ◌+◌, ◌<◌, ◌≤◌, ◌++◌, ◌⊎◌, inl, inr, ℕ, suc, Bool, true, false, List, [], ◌∷◌, length, drop, get_or, refl, sym, ap, subst, arith}
use Rattle.std.specs.Prelude.{◌%◌, ◌==◌, if◌then◌else◌, Contains}
use Rattle.std.proofs.lemmas.Bool.{cases_eq, eq-eqb, true≢false}
use Rattle.std.proofs.Math.Seq.{drop-cons}
use Rattle.std.proofs.lemmas.List.{append_assoc, append-nil, drop_all}
use Rattle.std.proofs.lemmas.List.Elements.{Contains-append_cases, Contains-append_left, Contains-append_right}
use Rattle.std.proofs.lemmas.Nat.{mod_below}
use Rattle.mg_model.proofs.Single.{first_in, none_in, first_or_later, later_in}
use Rattle.mg_model.specs.Plans.{Plan, PlanCall, opened_as}
use Rattle.mg_model.specs.Shards.{Shard, all_calls}
use Rattle.mg_model.specs.World.{Opened}
use Rattle.planned_calls.specs.Parts.{ArePartsFrom, one_in, opened_calls, opened_in}

-- ---- the calls of one shard

-- whether a number leaves this rest
abbrev pub has_rest : (count rest number : ℕ) → Bool
has_rest count rest number = number % count == rest

-- a call of a shard is a call of the plan
pub part_in_plan : (count shard number : ℕ) (calls : List PlanCall) (one : Opened) → Contains (opened_in count shard number calls) one
    → Contains (opened_calls number calls) one
unfolding opened_in opened_calls
part_in_plan count shard number [] one among = absurd (none_in one among)
part_in_plan count shard number (call ∷ more) one among =
    by_rest (has_rest count shard number) among (part_in_plan count shard (number + 1) more one)
  where
    by_rest : (test : Bool)
        → Contains (if test then opened_as number call ∷ opened_in count shard (number + 1) more else opened_in count shard (number + 1) more) one
        → (Contains (opened_in count shard (number + 1) more) one → Contains (opened_calls (number + 1) more) one)
        → Contains (opened_as number call ∷ opened_calls (number + 1) more) one
    by_rest true there on = elim (first_or_later (opened_as number call) (opened_in count shard (number + 1) more) one there) [
      | inl is ↦ subst (Contains (opened_as number call ∷ opened_calls (number + 1) more)) is
          (first_in (opened_as number call) (opened_calls (number + 1) more))
      | inr later ↦ later_in (opened_as number call) (opened_calls (number + 1) more) one (on later)
    ]
    by_rest false there on = later_in (opened_as number call) (opened_calls (number + 1) more) one (on there)

-- and its number leaves the shard's rest
pub part_has_rest : (count shard number : ℕ) (calls : List PlanCall) (one : Opened) → Contains (opened_in count shard number calls) one
    → has_rest count shard one.call ≡ true
unfolding opened_in
part_has_rest count shard number [] one among = absurd (none_in one among)
part_has_rest count shard number (call ∷ more) one among =
    by_rest (has_rest count shard number) refl among (part_has_rest count shard (number + 1) more one)
  where
    by_rest : (test : Bool) → has_rest count shard number ≡ test
        → Contains (if test then opened_as number call ∷ opened_in count shard (number + 1) more else opened_in count shard (number + 1) more) one
        → (Contains (opened_in count shard (number + 1) more) one → has_rest count shard one.call ≡ true)
        → has_rest count shard one.call ≡ true
    by_rest true has there on = elim (first_or_later (opened_as number call) (opened_in count shard (number + 1) more) one there) [
      | inl is ↦ ap (λ (x : Opened). has_rest count shard x.call) (sym is) ∙ has
      | inr later ↦ on later
    ]
    by_rest false has there on = on there

-- a call of the plan whose number leaves the shard's rest is a call of the shard
pub plan_in_part : (count shard number : ℕ) (calls : List PlanCall) (one : Opened) → Contains (opened_calls number calls) one
    → has_rest count shard one.call ≡ true → Contains (opened_in count shard number calls) one
unfolding opened_in opened_calls
plan_in_part count shard number [] one among rest = absurd (none_in one among)
plan_in_part count shard number (call ∷ more) one among rest =
    by_rest (has_rest count shard number) refl (first_or_later (opened_as number call) (opened_calls (number + 1) more) one among)
    (λ later. plan_in_part count shard (number + 1) more one later rest)
  where
    by_rest : (test : Bool) → has_rest count shard number ≡ test → (opened_as number call ≡ one) ⊎ Contains (opened_calls (number + 1) more) one
        → (Contains (opened_calls (number + 1) more) one → Contains (opened_in count shard (number + 1) more) one)
        → Contains (if test then opened_as number call ∷ opened_in count shard (number + 1) more else opened_in count shard (number + 1) more) one
    by_rest true has (inl is) on = subst (Contains (opened_as number call ∷ opened_in count shard (number + 1) more)) is
        (first_in (opened_as number call) (opened_in count shard (number + 1) more))
    by_rest true has (inr later) on = later_in (opened_as number call) (opened_in count shard (number + 1) more) one (on later)
    by_rest false has (inl is) on =
        absurd (true≢false (sym rest ∙ ap (λ (x : Opened). has_rest count shard x.call) (sym is) ∙ has))
    by_rest false has (inr later) on = on later

-- ---- the calls of all shards

-- a call of the plan is in the shard whose number its own leaves
in_parts : (plan : Plan) (count number : ℕ) (shards : List Shard) → ArePartsFrom plan count number shards
    → (one : Opened) → Contains (opened_calls 0 plan.calls) one → number ≤ one.call % count → one.call % count < number + length shards
    → Contains (all_calls shards) one
in_parts plan count number [] parts one among from below = absurd (omega (arith, from, below))
in_parts plan count number (shard ∷ more) (part, others) one among from below =
    elim (cases_eq (one.call % count) number) [
      | inl is ↦ Contains-append_left shard.calls (all_calls more) one (subst (λ (calls : List Opened). Contains calls one) (sym part.calls)
          (plan_in_part count number 0 plan.calls one among (eq-eqb (one.call % count) number is)))
      | inr other ↦ Contains-append_right shard.calls (all_calls more) one
          (in_parts plan count (number + 1) more others one among (omega (arith, from, other)) (omega (arith, below)))
    ]

pub all_in_parts : (plan : Plan) (count : ℕ) (shards : List Shard) → 0 < count → length shards ≡ count → ArePartsFrom plan count 0 shards
    → (one : Opened) → Contains (opened_calls 0 plan.calls) one → Contains (all_calls shards) one
all_in_parts plan count shards some all parts one among =
    let within : one.call % count < count = mod_below one.call count some in
    in_parts plan count 0 shards parts one among (omega arith) (omega (arith, within, all))

pub parts_in_all : (plan : Plan) (count number : ℕ) (shards : List Shard) → ArePartsFrom plan count number shards
    → (one : Opened) → Contains (all_calls shards) one → Contains (opened_calls 0 plan.calls) one
parts_in_all plan count number [] parts one among = absurd (none_in one among)
parts_in_all plan count number (shard ∷ more) (part, others) one among = elim (Contains-append_cases shard.calls (all_calls more) one among) [
  | inl here ↦ part_in_plan count number 0 plan.calls one (subst (λ (calls : List Opened). Contains calls one) part.calls here)
  | inr later ↦ parts_in_all plan count (number + 1) more others one later
]

-- a shard's calls, one call of the plan after the other
pub next_in : (count shard number : ℕ) (call : PlanCall) (more : List PlanCall)
    → one_in count shard number call ++ opened_in count shard (number + 1) more ≡ opened_in count shard number (call ∷ more)
unfolding opened_in
next_in count shard number call more = by_test (number % count == shard)
  where
    by_test : (test : Bool) → (if test then opened_as number call ∷ [] else []) ++ opened_in count shard (number + 1) more
        ≡ (if test then opened_as number call ∷ opened_in count shard (number + 1) more else opened_in count shard (number + 1) more)
    by_test true = refl
    by_test false = refl

pub one_more_in : (count shard number index : ℕ) (calls : List PlanCall) (d : PlanCall) (so_far now all : List Opened) → index < length calls
    → now ≡ so_far ++ one_in count shard number (get_or calls index d) → so_far ++ opened_in count shard number (drop index calls) ≡ all
    → now ++ opened_in count shard (number + 1) (drop (index + 1) calls) ≡ all
one_more_in count shard number index calls d so_far now all within added before =
    ap (λ (opened : List Opened). opened ++ opened_in count shard (number + 1) (drop (index + 1) calls)) added
    ∙ append_assoc so_far (one_in count shard number (get_or calls index d)) (opened_in count shard (number + 1) (drop (index + 1) calls))
    ∙ ap (λ (opened : List Opened). so_far ++ opened) (next_in count shard number (get_or calls index d) (drop (index + 1) calls)
    ∙ ap (λ (rest : List PlanCall). opened_in count shard number rest) (sym drop_here))
    ∙ before
  where
    one_on : suc index ≡ index + 1
    one_on = omega arith

    drop_here : drop index calls ≡ get_or calls index d ∷ drop (index + 1) calls
    drop_here = drop-cons calls index d within ∙ ap (λ n. get_or calls index d ∷ drop n calls) one_on

-- where none is left, these are all
pub all_in : (count shard number index : ℕ) (calls : List PlanCall) (so_far all : List Opened) → length calls ≤ index
    → so_far ++ opened_in count shard number (drop index calls) ≡ all → so_far ≡ all
unfolding opened_in
all_in count shard number index calls so_far all past before =
    sym (append-nil so_far) ∙ ap (λ (rest : List PlanCall). so_far ++ opened_in count shard number rest) (sym (drop_all index calls past)) ∙ before
