-- The shards of a run with what is counted in each, one after the other.
use Rattle.std.proofs.Common.{◌≡◌, ◌+◌, ◌≤◌, ◌++◌, inl, inr, ℕ, zero, suc, List, [], ◌∷◌, Some, length, refl, sym, ap, subst, arith}
use Rattle.std.specs.List.{All}
use Rattle.std.specs.Prelude.{Contains, slice_get}
use Rattle.std.proofs.lemmas.Option.{none-some, same_Some}
use Rattle.mg_merge.specs.Identifiers.{executes_in, most_executes}
use Rattle.mg_model.proofs.Single.{first_in, first_or_later, later_in, none_in}
use Rattle.mg_model.specs.Plans.{Plan, PlanCall}
use Rattle.mg_model.specs.Script.{Script}
use Rattle.run_shards.specs.Shards.{ShardValue}
use Rattle.run_shards.specs.Counting.{AreCounted, IsCounted}
use Rattle.run_shards.specs.declared.shard_count.ShardCount.{ShardCount}
use Rattle.run_account.specs.Finishing.{AreFinished}
use Rattle.run_account.specs.TakenAll.{HasTakenAll, HaveTakenAll}

-- ---- the shard with a number

next_number : (from i : ℕ) → from + 1 + i ≡ from + suc i
next_number from i = omega arith

pub counted_at : (script : Script) (calls : List PlanCall) (count from i : ℕ) (vs : List ShardValue) (cs : List ShardCount) (v : ShardValue) (c : ShardCount)
    → AreCounted script calls count from vs cs → slice_get vs i ≡ Some v → slice_get cs i ≡ Some c → IsCounted script calls count (from + i) v c
counted_at script calls count from i [] cs v c are is own = absurd (none-some v is)
counted_at script calls count from i (w ∷ vs) [] v c are is own = absurd are
counted_at script calls count from zero (w ∷ vs) (d ∷ cs) v c (one, others) is own =
    subst (λ (n : ℕ). IsCounted script calls count n v c) (let same : from ≡ from + 0 = omega arith in same)
    (subst (λ (x : ShardCount). IsCounted script calls count from v x) (same_Some d c own)
    (subst (λ (x : ShardValue). IsCounted script calls count from x d) (same_Some w v is) one))
counted_at script calls count from (suc i) (w ∷ vs) (d ∷ cs) v c (one, others) is own =
    subst (λ (n : ℕ). IsCounted script calls count n v c) (next_number from i) (counted_at script calls count (from + 1) i vs cs v c others is own)

pub taken_at : (plan : Plan) (from i : ℕ) (cs : List ShardCount) (c : ShardCount) → HaveTakenAll plan from cs → slice_get cs i ≡ Some c
    → HasTakenAll plan (from + i) c
taken_at plan from i [] c have own = absurd (none-some c own)
taken_at plan from zero (d ∷ cs) c (one, others) own =
    subst (λ (n : ℕ). HasTakenAll plan n c) (let same : from ≡ from + 0 = omega arith in same)
    (subst (HasTakenAll plan from) (same_Some d c own) one)
taken_at plan from (suc i) (d ∷ cs) c (one, others) own =
    subst (λ (n : ℕ). HasTakenAll plan n c) (next_number from i) (taken_at plan (from + 1) i cs c others own)

-- one more has
pub taken_more : (plan : Plan) (from : ℕ) (cs : List ShardCount) (c : ShardCount) → HaveTakenAll plan from cs → HasTakenAll plan (from + length cs) c
    → HaveTakenAll plan from (cs ++ c ∷ [])
taken_more plan from [] c have last = (subst (λ (n : ℕ). HasTakenAll plan n c) (let same : from + 0 ≡ from = omega arith in same) last, tt)
taken_more plan from (d ∷ cs) c (one, others) last = (
  one,
  taken_more plan (from + 1) cs c others (subst (λ (n : ℕ). HasTakenAll plan n c) (sym (next_number from (length cs))) last),
)

-- ---- all of them

pub there : {X : Type 0} (xs : List X) (i : ℕ) (x : X) → slice_get xs i ≡ Some x → Contains xs x
there [] i x is = absurd (none-some x is)
there (y ∷ xs) zero x is = subst (Contains (y ∷ xs)) (same_Some y x is) (first_in y xs)
there (y ∷ xs) (suc i) x is = later_in y xs x (there xs i x is)

-- one more that ended its epochs after as many restarts
pub ends_more : (cs : List ShardCount) (c : ShardCount) (ends : List ℕ) → ((d : ShardCount) → Contains cs d → d.ends.items ≡ ends) → c.ends.items ≡ ends
    → (d : ShardCount) → Contains (cs ++ c ∷ []) d → d.ends.items ≡ ends
ends_more [] c ends before last d among = elim (first_or_later c [] d among) [
  | inl same ↦ subst (λ (x : ShardCount). x.ends.items ≡ ends) same last
  | inr later ↦ absurd (none_in d later)
]
ends_more (one ∷ cs) c ends before last d among = elim (first_or_later one (cs ++ c ∷ []) d among) [
  | inl same ↦ subst (λ (x : ShardCount). x.ends.items ≡ ends) same (before one (first_in one cs))
  | inr later ↦ ends_more cs c ends (λ x there_too. before x (later_in one cs x there_too)) last d later
]

-- each has as many counts as the plan has calls, and they are as many as the shards
pub all_places : (script : Script) (calls : List PlanCall) (count from : ℕ) (vs : List ShardValue) (cs : List ShardCount) → AreCounted script calls count from vs cs
    → All (λ (c : ShardCount). length c.places.items ≡ length calls) cs
all_places script calls count from [] [] are k d within = absurd (omega (arith, within))
all_places script calls count from [] (c ∷ cs) are k d within = absurd are
all_places script calls count from (v ∷ vs) [] are k d within = absurd are
all_places script calls count from (v ∷ vs) (c ∷ cs) (one, others) zero d within = one.all_places
all_places script calls count from (v ∷ vs) (c ∷ cs) (one, others) (suc k) d within =
    all_places script calls count (from + 1) vs cs others k d (omega (arith, within))

pub as_many : (script : Script) (calls : List PlanCall) (count from : ℕ) (vs : List ShardValue) (cs : List ShardCount) → AreCounted script calls count from vs cs
    → length cs ≡ length vs
as_many script calls count from [] [] are = refl
as_many script calls count from [] (c ∷ cs) are = absurd are
as_many script calls count from (v ∷ vs) [] are = absurd are
as_many script calls count from (v ∷ vs) (c ∷ cs) (one, others) = ap suc (as_many script calls count (from + 1) vs cs others)

-- none executed more than a plan may
pub few_executes : (restarts : ℕ) (vs : List ShardValue) → AreFinished restarts vs → (v : ShardValue) → Contains vs v → executes_in v.history ≤ most_executes
few_executes restarts [] all v among = absurd (none_in v among)
few_executes restarts (w ∷ vs) (one, others) v among = elim (first_or_later w vs v among) [
  | inl is ↦ subst (λ (x : ShardValue). executes_in x.history ≤ most_executes) is one.executes
  | inr later ↦ few_executes restarts vs others v later
]
