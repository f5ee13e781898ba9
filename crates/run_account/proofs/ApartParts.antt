-- The shards of a plan share nothing: no number of a call, no line and no identifier is of two of them.
use Rattle.std.proofs.Common.{◌≡◌, ◌∙◌, ◌+◌, ◌<◌, ◌≤◌, ◌++◌, ◌⊎◌, inl, inr, ℕ, Bool, true, false, List, [], ◌∷◌, length, sym, ap, subst, arith}
use Rattle.std.specs.Prelude.{◌%◌, ◌==◌, ◌||◌, Contains, IsTrue}
use Rattle.std.specs.List.{flat_map}
use Rattle.std.proofs.lemmas.Bool.{eqb-true, eq-eqb, or_left, or_parts, or_right, true≢false}
use Rattle.std.proofs.lemmas.List.Elements.{Contains-append_left, Contains-append_right, Contains-get_or}
use Rattle.std.proofs.Math.Nat.{mod-eq_of_lt}
use Rattle.mg_model.proofs.Single.{first_in, none_in, first_or_later, later_in}
use Rattle.mg_model.specs.Numbers.{plan_calls}
use Rattle.mg_model.specs.Plans.{Plan, PlanCall, opened_as}
use Rattle.mg_model.specs.Script.{Script}
use Rattle.mg_model.specs.Shards.{AreAllApart, AreApart, Shard}
use Rattle.mg_model.specs.World.{Opened}
use Rattle.plans.specs.Accepted.{IsPlanFor}
use Rattle.plans.specs.Tables.{has_twice}
use Rattle.mg_model.specs.Members.{is_among}
use Rattle.run_shards.specs.Parts.{ArePartsFrom, IsPart, numbers_in, opened_calls, opened_in}
use Rattle.run_shards.proofs.PartCalls.{has_rest, part_has_rest, part_in_plan}

-- ---- numbers

-- the calls of a plan are numbered from the first on
numbered_below : (number : ℕ) (calls : List PlanCall) (one : Opened) → Contains (opened_calls number calls) one
    → (number ≤ one.call) × (one.call < number + length calls)
unfolding opened_calls
numbered_below number [] one among = absurd (none_in one among)
numbered_below number (call ∷ more) one among =
    by_place (first_or_later (opened_as number call) (opened_calls (number + 1) more) one among) (numbered_below (number + 1) more one)
  where
    by_place : (opened_as number call ≡ one) ⊎ Contains (opened_calls (number + 1) more) one
        → (Contains (opened_calls (number + 1) more) one → (number + 1 ≤ one.call) × (one.call < number + 1 + length more))
        → (number ≤ one.call) × (one.call < number + length (call ∷ more))
    by_place (inl is) on = let same : number ≡ one.call = ap (λ (x : Opened). x.call) is in (omega (arith, same), omega (arith, same))
    by_place (inr later) on = let within = on later in (omega (arith, within.0), omega (arith, within.1))

pub part_below : (plan : Plan) (count shard : ℕ) → length plan.calls ≤ plan_calls → (one : Opened) → Contains (opened_in count shard 0 plan.calls) one
    → one.call < plan_calls
part_below plan count shard few one among =
    let below = (numbered_below 0 plan.calls one (part_in_plan count shard 0 plan.calls one among)).1 in
    omega (arith, below, few)

pub part_numbered : (plan : Plan) (count shard : ℕ) → length plan.calls ≤ plan_calls → (one : Opened) → Contains (opened_in count shard 0 plan.calls) one
    → IsTrue (numbers_in count shard one.call)
part_numbered plan count shard few one among =
    ap (has_rest count shard) (mod-eq_of_lt (part_below plan count shard few one among)) ∙ part_has_rest count shard 0 plan.calls one among

-- ---- lines

one_among : (numbers : List ℕ) (n : ℕ) → Contains numbers n → is_among numbers n ≡ true
one_among [] n among = absurd (none_in n among)
one_among (m ∷ more) n among = by_place (first_or_later m more n among) (one_among more n)
  where
    by_place : (m ≡ n) ⊎ Contains more n → (Contains more n → is_among more n ≡ true) → ((n == m) || is_among more n) ≡ true
    by_place (inl is) on = or_left (n == m) (is_among more n) (eq-eqb n m (sym is))
    by_place (inr later) on = or_right (n == m) (is_among more n) (on later)

-- where no number comes twice, none comes twice in what stands behind
once_behind : (front rest : List ℕ) → has_twice (front ++ rest) ≡ false → has_twice rest ≡ false
once_behind [] rest once = once
once_behind (n ∷ front) rest once = once_behind front rest (or_parts (is_among (front ++ rest) n) (has_twice (front ++ rest)) once).1

-- and what stands in front doesn't stand behind
not_in_both : (front rest : List ℕ) → has_twice (front ++ rest) ≡ false → (n : ℕ) → Contains front n → Contains rest n → ⊥
not_in_both [] rest once n here there = none_in n here
not_in_both (m ∷ front) rest once n here there =
    let parts = or_parts (is_among (front ++ rest) m) (has_twice (front ++ rest)) once in
    elim (first_or_later m front n here) [
      | inl is ↦ true≢false (sym (one_among (front ++ rest) m (Contains-append_right front rest m (subst (Contains rest) (sym is) there))) ∙ parts.0)
      | inr later ↦ not_in_both front rest parts.1 n later there
    ]

abbrev lines_of : PlanCall → List ℕ
lines_of call = call.lines

-- the lines of calls, each of which has so many
module _ (count : ℕ) where
  abbrev HaveAllLines : List PlanCall → Type 0
  HaveAllLines calls = (call : PlanCall) → Contains calls call → length call.lines ≡ count

  line_of_first : (number : ℕ) (call : PlanCall) (one : Opened) → length call.lines ≡ count → opened_as number call ≡ one → (i : ℕ) → i < count
      → Contains call.lines (one.lines i)
  line_of_first number call one all is i below =
      subst (λ (x : Opened). Contains call.lines (x.lines i)) is (Contains-get_or call.lines i 0 (omega (arith, all, below)))

  line_among : (number : ℕ) (calls : List PlanCall) → HaveAllLines calls → (one : Opened) → Contains (opened_calls number calls) one → (i : ℕ) → i < count
      → Contains (flat_map lines_of calls) (one.lines i)
  unfolding opened_calls
  line_among number [] all one among i below = absurd (none_in one among)
  line_among number (call ∷ more) all one among i below = elim (first_or_later (opened_as number call) (opened_calls (number + 1) more) one among) [
    | inl is ↦ Contains-append_left call.lines (flat_map lines_of more) (one.lines i)
        (line_of_first number call one (all call (first_in call more)) is i below)
    | inr later ↦ Contains-append_right call.lines (flat_map lines_of more) (one.lines i)
        (line_among (number + 1) more (λ c there. all c (later_in call more c there)) one later i below)
  ]

  -- two calls of different numbers have no line in common
  lines_apart : (number : ℕ) (calls : List PlanCall) → HaveAllLines calls → has_twice (flat_map lines_of calls) ≡ false
      → (one other : Opened) → Contains (opened_calls number calls) one → Contains (opened_calls number calls) other → (one.call ≡ other.call → ⊥)
      → (i j : ℕ) → i < count → j < count → one.lines i ≡ other.lines j → ⊥
  unfolding opened_calls
  lines_apart number [] all once one other here there apart i j below within same = none_in one here
  lines_apart number (call ∷ more) all once one other here there apart i j below within same =
      by_place (first_or_later (opened_as number call) (opened_calls (number + 1) more) one here)
      (first_or_later (opened_as number call) (opened_calls (number + 1) more) other there)
      (λ first second. lines_apart (number + 1) more later_lines (once_behind call.lines (flat_map lines_of more) once) one other first second
      apart i j below within same)
    where
      first_lines : length call.lines ≡ count
      first_lines = all call (first_in call more)

      later_lines : HaveAllLines more
      later_lines c among = all c (later_in call more c among)

      by_place : (opened_as number call ≡ one) ⊎ Contains (opened_calls (number + 1) more) one
          → (opened_as number call ≡ other) ⊎ Contains (opened_calls (number + 1) more) other
          → (Contains (opened_calls (number + 1) more) one → Contains (opened_calls (number + 1) more) other → ⊥) → ⊥
      by_place (inl is) (inl also) on = apart (ap (λ (x : Opened). x.call) (sym is ∙ also))
      by_place (inl is) (inr later) on = not_in_both call.lines (flat_map lines_of more) once (other.lines j)
          (subst (Contains call.lines) same (line_of_first number call one first_lines is i below))
          (line_among (number + 1) more later_lines other later j within)
      by_place (inr later) (inl also) on = not_in_both call.lines (flat_map lines_of more) once (one.lines i)
          (subst (Contains call.lines) (sym same) (line_of_first number call other first_lines also j within))
          (line_among (number + 1) more later_lines one later i below)
      by_place (inr first) (inr second) on = on first second

-- ---- shards

-- one number leaves one rest
one_rest : (count n rest other : ℕ) → has_rest count rest n ≡ true → has_rest count other n ≡ true → rest ≡ other
one_rest count n rest other is also = sym (eqb-true (n % count) rest is) ∙ eqb-true (n % count) other also

module _ (script : Script) (plan : Plan) (count : ℕ) (is : IsPlanFor script plan) where
  two_apart : (m n : ℕ) (one other : Shard) → IsPart plan count m one → IsPart plan count n other → (m ≡ n → ⊥) → AreApart script one other
  two_apart m n one other part rest differ = record {
    numbers = λ call here there. differ (one_rest count (call % plan_calls) m n
        (sym (ap (λ (test : ℕ → Bool). test call) part.numbers) ∙ here) (sym (ap (λ (test : ℕ → Bool). test call) rest.numbers) ∙ there));
    lines = λ a b i j here there below within same.
        let first = subst (λ (calls : List Opened). Contains calls a) part.calls here in
        let second = subst (λ (calls : List Opened). Contains calls b) rest.calls there in
        lines_apart (length script.lines) 0 plan.calls is.all_lines is.once a b (part_in_plan count m 0 plan.calls a first)
        (part_in_plan count n 0 plan.calls b second)
        (λ alike. differ (one_rest count a.call m n (part_has_rest count m 0 plan.calls a first)
        (ap (has_rest count n) alike ∙ part_has_rest count n 0 plan.calls b second)))
        i j below within same;
    classes = λ k here there. differ (one_rest count k m n
        (sym (ap (λ (test : ℕ → Bool). test k) part.class) ∙ here) (sym (ap (λ (test : ℕ → Bool). test k) rest.class) ∙ there));
  }

  -- a shard that is not the first has a later number
  part_among : (number : ℕ) (shards : List Shard) → ArePartsFrom plan count number shards → (other : Shard) → Contains shards other
      → (n : ℕ) × (number ≤ n) × IsPart plan count n other
  part_among number [] parts other among = absurd (none_in other among)
  part_among number (shard ∷ more) (part, others) other among = elim (first_or_later shard more other among) [
    | inl is ↦ (number, omega arith, subst (IsPart plan count number) is part)
    | inr later ↦ let it = part_among (number + 1) more others other later in (it.0, omega (arith, it.1), it.2)
  ]

  pub shards_apart : (number : ℕ) (shards : List Shard) → ArePartsFrom plan count number shards → AreAllApart script shards
  unfolding AreAllApart
  shards_apart number [] parts = tt
  shards_apart number (shard ∷ more) (part, others) = (
    λ other among.
        let it = part_among (number + 1) more others other among in
        let from : number + 1 ≤ it.0 = it.1 in
        two_apart number it.0 shard other part it.2 (λ same. omega (arith, from, same)),
    shards_apart (number + 1) more others,
  )
