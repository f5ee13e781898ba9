-- The calls of a plan as they are opened: which calls a shard hands out, and where they stand, those of one shard after the other.
use Rattle.std.proofs.Common.{◌≡◌, ◌∙◌, ◌+◌, ◌<◌, ◌≤◌, ◌++◌, inl, inr, ℕ, zero, suc, Bool, true, false, List, [], ◌∷◌, length, map, set, Option, Some, None, refl, sym, ap, subst, rules, arith}
use Rattle.std.specs.Prelude.{◌%◌, ◌==◌, if◌then◌else◌, Result, Ok, slice_get, slice_index_or}
use Rattle.std.specs.List.{AllZip, range_with_len}
use Rattle.std.specs.Option.{option_or}
use Rattle.std.specs.declared.alloc.Global.{Global}
use Rattle.std.specs.declared.vec.Vec.{Vec}
use Rattle.std.proofs.lemmas.Bool.{cases_eq, eq-eqb, eqb-false, eqb-true, ne_eqb, true≢false}
use Rattle.std.proofs.lemmas.List.{append-nil, append_assoc, get_or-set_same, get_or-set_other}
use Rattle.std.proofs.lemmas.Nat.{mod_below}
use Rattle.std.proofs.lemmas.Option.{same_Some}
use Rattle.mg_model.specs.Agent.{Agent}
use Rattle.mg_model.specs.Plans as plans
use Rattle.mg_model.specs.Plans.{PlanCall}
use Rattle.mg_model.specs.Script.{Script}
use Rattle.mg_model.specs.World.{Opened}
use Rattle.mg_model.specs.declared.events.Event.{Event}
use Rattle.agent.specs.AgentValue.{agent_of}
use Rattle.agent.specs.Calls.{value_of}
use Rattle.agent.specs.declared.call.Next.{Next}
use Rattle.planned_calls.specs.Opening.{AreEntered}
use Rattle.planned_calls.specs.Parts.{opened_in}
use Rattle.planned_calls.specs.Shards.{opened_as}
use Rattle.planned_calls.specs.OpenedCall.{OpenedCall}
use Rattle.planned_calls.specs.declared.fault.RunFault.{RunFault}
use Rattle.planned_calls.specs.declared.planned_call.PlannedCall.{PlannedCall}
use Rattle.run_shards.specs.Opening.{AreHandedOut, AreOpened, AreSeated, Begins, HandsOutOwn, IsHandedOut, IsOpenedAs, IsPutAt, StandsOpened, last_numbered, number_of}

-- ---- what a shard hands out

pub handed_out : (script : Script) (ones : List OpenedCall) (nexts : List Next) → AreEntered script ones nexts → AreHandedOut script (map opened_as ones) nexts
handed_out script [] [] entered = tt
handed_out script (one ∷ more) (next ∷ nexts) (first, later) =
    (record { agent = first.agent; transcript = first.transcript }, handed_out script more nexts later)
handed_out script [] (next ∷ nexts) entered = absurd entered
handed_out script (one ∷ more) [] entered = absurd entered

pub handed_out_in : (script : Script) (ones : List OpenedCall) (opened : List Opened) (nexts : List Next) → map opened_as ones ≡ opened
    → AreEntered script ones nexts → AreHandedOut script opened nexts
handed_out_in script ones opened nexts same entered =
    subst (λ (os : List Opened). AreHandedOut script os nexts) same (handed_out script ones nexts entered)

number_handed : (script : Script) (one : Opened) (next : Next) → IsHandedOut script one next → number_of next ≡ one.call
number_handed script one next handed = ap (λ (a : Agent). a.call) handed.agent

-- the last with a number, where the first one has another
other_number : (n : ℕ) (next : Next) (rest : List Next) → (number_of next ≡ n → ⊥) → last_numbered n rest ≡ None → last_numbered n (next ∷ rest) ≡ None
other_number n next rest other none =
    ap (λ (o : Option Next). option_or o (if number_of next == n then Some next else None)) none
    ∙ ap (λ (test : Bool). if test then Some next else None) (ne_eqb (number_of next) n other)

own_number : (n : ℕ) (next : Next) (rest : List Next) → number_of next ≡ n → last_numbered n rest ≡ None → last_numbered n (next ∷ rest) ≡ Some next
own_number n next rest same none =
    ap (λ (o : Option Next). option_or o (if number_of next == n then Some next else None)) none
    ∙ ap (λ (test : Bool). if test then Some next else None) (eq-eqb (number_of next) n same)

-- no call has a number that is none of the shard, or is one of a call before these
no_one : (script : Script) (count shard number : ℕ) (calls : List PlanCall) (nexts : List Next) (n : ℕ)
    → AreHandedOut script (opened_in count shard number calls) nexts → (n % count ≡ shard → n < number) → last_numbered n nexts ≡ None
unfolding opened_in
no_one script count shard number [] [] n handed before = refl
no_one script count shard number [] (next ∷ nexts) n handed before = absurd handed
no_one script count shard number (call ∷ more) nexts n handed before = by_test (number % count == shard) refl nexts handed (λ rest later.
    no_one script count shard (number + 1) more rest n later (λ same. let below : n < number = before same in omega (arith, below)))
  where
    by_test : (test : Bool) → (number % count == shard) ≡ test → (ns : List Next)
        → AreHandedOut script (if test then plans.opened_as number call ∷ opened_in count shard (number + 1) more else opened_in count shard (number + 1) more) ns
        → ((rest : List Next) → AreHandedOut script (opened_in count shard (number + 1) more) rest → last_numbered n rest ≡ None)
        → last_numbered n ns ≡ None
    by_test true is [] handed on = absurd handed
    by_test true is (next ∷ rest) (first, later) on =
        other_number n next rest (λ same.
        let here : number ≡ n = sym (number_handed script (plans.opened_as number call) next first) ∙ same in
        let below : n < number = before (ap (λ (m : ℕ). m % count) (sym here) ∙ eqb-true (number % count) shard is) in
        omega (arith, here, below))
        (on rest later)
    by_test false is ns handed on = on ns handed

-- what is found is this call as it opens
abbrev IsFound : Script → Opened → Option Next → Type 0
IsFound script one None = ⊥
IsFound script one (Some next) = IsHandedOut script one next

-- each call of the shard is found by its number
the_one : (script : Script) (count shard number : ℕ) (calls : List PlanCall) (nexts : List Next) (n i : ℕ) (call : PlanCall)
    → AreHandedOut script (opened_in count shard number calls) nexts → n ≡ number + i → slice_get calls i ≡ Some call → n % count ≡ shard
    → IsFound script (plans.opened_as n call) (last_numbered n nexts)
unfolding opened_in
the_one script count shard number [] nexts n i call handed is at own = absurd (let none : None ≡ Some call = at in search rules)
the_one script count shard number (first ∷ more) nexts n zero call handed is at own = by_test (number % count == shard) refl nexts handed
  where
    here : number ≡ n
    here = omega (arith, is)

    by_test : (test : Bool) → (number % count == shard) ≡ test → (ns : List Next)
        → AreHandedOut script (if test then plans.opened_as number first ∷ opened_in count shard (number + 1) more else opened_in count shard (number + 1) more) ns
        → IsFound script (plans.opened_as n call) (last_numbered n ns)
    by_test true e [] handed = absurd handed
    by_test true e (next ∷ rest) (one, later) =
        subst (IsFound script (plans.opened_as n call))
        (sym (own_number n next rest (number_handed script (plans.opened_as number first) next one ∙ here)
        (no_one script count shard (number + 1) more rest n later (λ same. omega (arith, here)))))
        (subst (λ (c : PlanCall). IsHandedOut script (plans.opened_as n c) next) (same_Some first call at)
        (subst (λ (m : ℕ). IsHandedOut script (plans.opened_as m first) next) here one))
    by_test false e ns handed = absurd (true≢false (sym (eq-eqb (number % count) shard (ap (λ (m : ℕ). m % count) here ∙ own)) ∙ e))
the_one script count shard number (first ∷ more) nexts n (suc i) call handed is at own = by_test (number % count == shard) nexts handed (λ rest later.
    the_one script count shard (number + 1) more rest n i call later (let same : number + suc i ≡ number + 1 + i = omega arith in is ∙ same) at own)
  where
    later_found : (next : Next) (found : Option Next) → IsFound script (plans.opened_as n call) found
        → IsFound script (plans.opened_as n call) (option_or found (if number_of next == n then Some next else None))
    later_found next None there = absurd there
    later_found next (Some other) there = there

    by_test : (test : Bool) → (ns : List Next)
        → AreHandedOut script (if test then plans.opened_as number first ∷ opened_in count shard (number + 1) more else opened_in count shard (number + 1) more) ns
        → ((rest : List Next) → AreHandedOut script (opened_in count shard (number + 1) more) rest → IsFound script (plans.opened_as n call) (last_numbered n rest))
        → IsFound script (plans.opened_as n call) (last_numbered n ns)
    by_test true [] handed on = absurd handed
    by_test true (next ∷ rest) (one, later) on = later_found next (last_numbered n rest) (on rest later)
    by_test false ns handed on = on ns handed

-- ---- one call comes to its place

last_push : (n : ℕ) (front : List Next) (next : Next)
    → last_numbered n (front ++ next ∷ []) ≡ option_or (if number_of next == n then Some next else None) (last_numbered n front)
last_push n [] next = or_none (if number_of next == n then Some next else None)
  where
    or_none : (o : Option Next) → o ≡ option_or o None
    or_none None = refl
    or_none (Some x) = refl
last_push n (first ∷ front) next =
    ap (λ (o : Option Next). option_or o here) (last_push n front next) ∙ or_assoc (if number_of next == n then Some next else None) (last_numbered n front) here
  where
    here : Option Next
    here = if number_of first == n then Some first else None

    or_assoc : (a b c : Option Next) → option_or (option_or a b) c ≡ option_or a (option_or b c)
    or_assoc None b c = refl
    or_assoc (Some x) b c = refl

-- those of these that aren't left are seated
pub record SeatedSoFar (nexts left : List Next) (old now : List (Option PlannedCall)) : Type 0 where
  pub front : List Next
  pub parts : nexts ≡ front ++ left
  pub seated : AreSeated front old now

pub none_so_far : (nexts left : List Next) (old : List (Option PlannedCall)) → left ≡ nexts → SeatedSoFar nexts left old old
none_so_far nexts left old all = record { front = []; parts = sym all; seated = λ n. refl }

pub one_so_far : (nexts before after : List Next) (old now : List (Option PlannedCall)) (next : Next) (planned : PlannedCall) → Begins next planned
    → planned.standing.0 < length now → before ≡ next ∷ after → SeatedSoFar nexts before old now
    → SeatedSoFar nexts after old (set now planned.standing.0 (Some planned))
one_so_far nexts before after old now next planned begins within step was = record {
  front = was.front ++ next ∷ [];
  parts = was.parts ∙ ap (λ (left : List Next). was.front ++ left) step ∙ sym (append_assoc was.front (next ∷ []) after);
  seated = λ n. subst (λ (o : Option Next). IsPutAt o (slice_index_or old n None) (slice_index_or (set now planned.standing.0 (Some planned)) n None))
      (sym (last_push n was.front next)) (by_test n (number_of next == n) refl);
}
  where
    by_test : (n : ℕ) (test : Bool) → (number_of next == n) ≡ test
        → IsPutAt (option_or (if test then Some next else None) (last_numbered n was.front)) (slice_index_or old n None)
        (slice_index_or (set now planned.standing.0 (Some planned)) n None)
    by_test n true e =
        let same : planned.standing.0 ≡ n = begins.standing ∙ eqb-true (number_of next) n e in
        subst (λ (o : Option PlannedCall). IsPutAt (Some next) (slice_index_or old n None) o)
        (sym (subst (λ (m : ℕ). slice_index_or (set now planned.standing.0 (Some planned)) m None ≡ Some planned) same
        (get_or-set_same now planned.standing.0 (Some planned) None within))) begins
    by_test n false e =
        subst (λ (o : Option PlannedCall). IsPutAt (last_numbered n was.front) (slice_index_or old n None) o)
        (sym (get_or-set_other now planned.standing.0 n (Some planned) None (λ same. eqb-false (number_of next) n e (sym begins.standing ∙ sym same)))) (was.seated n)

pub all_so_far : (nexts left : List Next) (old now : List (Option PlannedCall)) → left ≡ [] → SeatedSoFar nexts left old now → AreSeated nexts old now
all_so_far nexts left old now none so_far =
    subst (λ (front : List Next). AreSeated front old now)
    (sym (so_far.parts ∙ ap (λ (rest : List Next). so_far.front ++ rest) none ∙ append-nil so_far.front)) so_far.seated

-- ---- the calls of one shard after the other

-- each call of a shard below this one, of so many, stands at the place of its number
abbrev pub AreOpenedBelow : Script → List PlanCall → (count shard : ℕ) → List (Option PlannedCall) → Type 0
AreOpenedBelow script calls count shard places = (number : ℕ) (call : PlanCall) → slice_get calls number ≡ Some call → number % count < shard
    → StandsOpened script (plans.opened_as number call) (slice_index_or places number None)

pub none_opened : (script : Script) (calls : List PlanCall) (count shard : ℕ) (places : List (Option PlannedCall)) → shard ≡ 0
    → AreOpenedBelow script calls count shard places
none_opened script calls count shard places none number call at below = absurd (let less : number % count < shard = below in omega (arith, none, less))

opened_as_begun : (script : Script) (one : Opened) (next : Next) (planned : PlannedCall) → IsHandedOut script one next → Begins next planned
    → IsOpenedAs script one planned
opened_as_begun script one next planned handed begins = record {
  agent = ap (λ (n : Next). agent_of (value_of n).agent) begins.stands ∙ handed.agent;
  standing = begins.standing ∙ number_handed script one next handed;
  trail = ap (λ (trail : List Event). trail ++ (value_of planned.next).transcript) begins.trail
      ∙ ap (λ (n : Next). (value_of n).transcript) begins.stands ∙ handed.transcript;
  begun = begins.begun;
  place = begins.place;
}

stands_put : (script : Script) (one : Opened) (put : Option Next) (old new : Option PlannedCall) → IsFound script one put → IsPutAt put old new
    → StandsOpened script one new
stands_put script one None old new found seated = absurd found
stands_put script one (Some next) old None found seated = absurd seated
stands_put script one (Some next) old (Some planned) found seated = opened_as_begun script one next planned found seated

pub shard_opened : (script : Script) (calls : List PlanCall) (count shard next : ℕ) (nexts : List Next) (old new : List (Option PlannedCall)) → next ≡ shard + 1
    → AreHandedOut script (opened_in count shard 0 calls) nexts → AreSeated nexts old new → AreOpenedBelow script calls count shard old
    → AreOpenedBelow script calls count next new
shard_opened script calls count shard next nexts old new one_more handed seated before number call at below = elim (cases_eq (number % count) shard) [
  | inl own ↦ stands_put script (plans.opened_as number call) (last_numbered number nexts) (slice_index_or old number None) (slice_index_or new number None)
      (the_one script count shard 0 calls nexts number number call handed (let same : number ≡ 0 + number = omega arith in same) at own) (seated number)
  | inr other ↦
      let none : last_numbered number nexts ≡ None = no_one script count shard 0 calls nexts number handed (λ same. absurd (other same)) in
      let stays : slice_index_or new number None ≡ slice_index_or old number None =
      subst (λ (put : Option Next). IsPutAt put (slice_index_or old number None) (slice_index_or new number None)) none (seated number) in
      subst (StandsOpened script (plans.opened_as number call)) (sym stays) (before number call at (omega (arith, below, other, one_more)))
]

pub shards_opened : (script : Script) (calls : List PlanCall) (count shard : ℕ) (places : List (Option PlannedCall)) → count ≤ shard → 0 < count
    → AreOpenedBelow script calls count shard places → AreOpened script calls places
shards_opened script calls count shard places all some before number call at =
    let within : number % count < count = mod_below number count some in
    before number call at (omega (arith, within, all))

-- ---- shards that are opened, and not yet looked at

module _ {X : Type 0} (script : Script) (calls : List PlanCall) (count : ℕ) where
  -- each of these shards hands out its calls
  abbrev AllHandOut : List ℕ → List (Result (X × Vec Next Global) RunFault) → Type 0
  AllHandOut = AllZip (HandsOutOwn script calls count)

  -- these are the shards from this one on
  pub record AreLeft (shard : ℕ) (left : List (Result (X × Vec Next Global) RunFault)) : Type 0 where
    pub more : ℕ
    pub all : shard + more ≡ count
    pub each : AllHandOut (range_with_len shard more) left

  pub all_left : (shard : ℕ) (left all : List (Result (X × Vec Next Global) RunFault)) → shard ≡ 0 → left ≡ all
      → AllHandOut (range_with_len 0 count) all → AreLeft shard left
  all_left shard left all none same each = record {
    more = count;
    all = omega (arith, none);
    each = subst (AllHandOut (range_with_len shard count)) (sym same)
        (subst (λ (n : ℕ). AllHandOut (range_with_len n count) all) (sym none) each);
  }

  -- what the first of them hands out, and those behind it
  pub first_left : (shard next : ℕ) (left after : List (Result (X × Vec Next Global) RunFault)) (one : Result (X × Vec Next Global) RunFault)
      (opened : X × Vec Next Global) → next ≡ shard + 1 → left ≡ one ∷ after → one ≡ Ok opened → AreLeft shard left
      → AreHandedOut script (opened_in count shard 0 calls) opened.1.items × AreLeft next after
  first_left shard next left after one opened one_more step is are = by_more are.more are.all
      (subst (AllHandOut (range_with_len shard are.more)) (step ∙ ap (λ (o : Result (X × Vec Next Global) RunFault). o ∷ after) is) are.each)
    where
      by_more : (more : ℕ) → shard + more ≡ count → AllHandOut (range_with_len shard more) (Ok opened ∷ after)
          → AreHandedOut script (opened_in count shard 0 calls) opened.1.items × AreLeft next after
      by_more zero all each = absurd each
      by_more (suc more) all (first, later) = (
        first,
        record {
          more = more;
          all = omega (arith, all, one_more);
          each = subst (λ (n : ℕ). AllHandOut (range_with_len n more) after) (sym one_more) later;
        },
      )

  pub none_left : (shard : ℕ) (left : List (Result (X × Vec Next Global) RunFault)) → left ≡ [] → AreLeft shard left → shard ≡ count
  none_left shard left none are = by_more are.more are.all (subst (AllHandOut (range_with_len shard are.more)) none are.each)
    where
      by_more : (more : ℕ) → shard + more ≡ count → AllHandOut (range_with_len shard more) [] → shard ≡ count
      by_more zero all each = omega (arith, all)
      by_more (suc more) all each = absurd each
