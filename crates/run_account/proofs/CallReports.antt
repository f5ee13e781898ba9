-- What is told of each call of a plan is the plan's report.
use Rattle.std.proofs.Common.{◌≡◌, ◌∙◌, ◌+◌, ◌<◌, ◌++◌, ℕ, suc, zero, List, [], ◌∷◌, length, map, inl, inr, refl, sym, ap, subst, arith}
use Rattle.std.specs.List.{AllZip, flat_map, range_with_len}
use Rattle.std.specs.Prelude.{◌%◌, Contains, IfErr, IfOk, MatchResult, Result, Ok, Err, Some, slice_get, slice_index_or}
use Rattle.std.specs.declared.alloc.Global.{Global}
use Rattle.std.specs.declared.vec.Vec.{Vec}
use Rattle.std.proofs.lemmas.List.Elements.{Contains-append_cases, Contains-append_left, Contains-append_right}
use Rattle.mg_model.proofs.Single.{first_in, first_or_later, later_in, none_in}
use Rattle.mg_model.specs.declared.events.Event.{Event}
use Rattle.mg_model.specs.declared.events.Event.TheVariants.{OfCall}
use Rattle.mg_model.specs.Plans.{Plan, PlanCall, epochs_of, opened_as, restarts_of_others, steps_in}
use Rattle.mg_model.specs.Reports.{AreReported, IsReported}
use Rattle.mg_model.specs.Entries.{Entry}
use Rattle.mg_model.specs.Script.{Script}
use Rattle.mg_reports.specs.Logs.{LogsTellReports}
use Rattle.composition.specs.Verdict.{IsChecked}
use Rattle.run_shards.specs.Shards.{ShardValue}
use Rattle.run_shards.proofs.Faults.{because}
use Rattle.run_account.specs.FinalState.{HaveLines, IsLeftAmong}
use Rattle.run_shards.specs.Disagreements.{IsBecause}
use Rattle.run_shards.specs.ReportLines.{AreAllNumbered, line_of}
use Rattle.run_shards.specs.declared.shard_count.ShardCount.{ShardCount}
use Rattle.run_account.specs.CallReport.{HavePlayed, IsTold}
use Rattle.run_shards.specs.RunFault.{RunFault}
use Rattle.run_shards.specs.Line.{Line}
use Rattle.run_account.proofs.CountedReports.{reported}
use Rattle.run_account.proofs.EachShard.{counted_at, taken_at, there}

-- ---- two lists, item by item

module _ {X Y Z : Type 0} (R : X → Z → Type 0) (f : Y → Z) where
  pub through : (xs : List X) (ys : List Y) → AllZip (λ x y. R x (f y)) xs ys → AllZip R xs (map f ys)
  through [] [] all = tt
  through [] (y ∷ ys) all = absurd all
  through (x ∷ xs) [] all = absurd all
  through (x ∷ xs) (y ∷ ys) (one, all) = (one, through xs ys all)

  pub back : (xs : List X) (ys : List Y) → AllZip R xs (map f ys) → AllZip (λ x y. R x (f y)) xs ys
  back [] [] all = tt
  back [] (y ∷ ys) all = absurd all
  back (x ∷ xs) [] all = absurd all
  back (x ∷ xs) (y ∷ ys) (one, all) = (one, back xs ys all)

-- where all are Ok, each of what was collected is as its place asks
pub if_all : {X Y E : Type 0} (R : X → Y → Type 0) (xs : List X) (rs : List (Result Y E)) (r : Result (Vec Y Global) E)
    → AllZip (λ x one. IfOk one (R x)) xs rs
    → MatchResult r (λ v. (ys : List Y) × (rs ≡ map Ok ys) × (v.items ≡ ys)) (λ e. Contains rs (Err e)) → IfOk r (λ v. AllZip R xs v.items)
if_all R xs rs (Ok v) all (ys, same, items) =
    subst (AllZip R xs) (sym items) (back (λ x one. IfOk one (R x)) Ok xs ys (subst (AllZip (λ x one. IfOk one (R x)) xs) same all))
if_all R xs rs (Err e) all is = tt

pub ranged : (a n k : ℕ) → Contains (range_with_len a n) k → k < a + n
ranged a zero k among = absurd (none_in k among)
ranged a (suc n) k among = elim (first_or_later a (range_with_len (a + 1) n) k among) [
  | inl is ↦ omega (arith, is)
  | inr later ↦ omega (arith, ranged (a + 1) n k later)
]

-- of each item, what is said where it is Ok, and where it isn't
module _ {X Y E : Type 0} (P : X → Y → Type 0) (Q : X → E → Type 0) where
  pub all_ok : (xs : List X) (rs : List (Result Y E)) → AllZip (λ x one. MatchResult one (P x) (Q x)) xs rs → AllZip (λ x one. IfOk one (P x)) xs rs
  all_ok [] [] all = tt
  all_ok [] (r ∷ rs) all = absurd all
  all_ok (x ∷ xs) [] all = absurd all
  all_ok (x ∷ xs) (Ok y ∷ rs) (one, all) = (one, all_ok xs rs all)
  all_ok (x ∷ xs) (Err e ∷ rs) (one, all) = (tt, all_ok xs rs all)

  pub all_err : (xs : List X) (rs : List (Result Y E)) → AllZip (λ x one. MatchResult one (P x) (Q x)) xs rs → AllZip (λ x one. IfErr one (Q x)) xs rs
  all_err [] [] all = tt
  all_err [] (r ∷ rs) all = absurd all
  all_err (x ∷ xs) [] all = absurd all
  all_err (x ∷ xs) (Ok y ∷ rs) (one, all) = (tt, all_err xs rs all)
  all_err (x ∷ xs) (Err e ∷ rs) (one, all) = (one, all_err xs rs all)

-- where one isn't Ok, its fault is that of its place
pub fault_among : {X Y : Type 0} (why : X → Type 0) (xs : List X) (rs : List (Result Y RunFault)) (fault : RunFault)
    → AllZip (λ x one. IfErr one (IsBecause (why x))) xs rs → Contains rs (Err fault) → (x : X) × (Contains xs x × IsBecause (why x) fault)
fault_among {Y = Y} why [] [] fault all among = absurd (none_in (Err fault) among)
fault_among {Y = Y} why [] (r ∷ rs) fault all among = absurd all
fault_among {Y = Y} why (x ∷ xs) [] fault all among = absurd all
fault_among {Y = Y} why (x ∷ xs) (r ∷ rs) fault (one, all) among = elim (first_or_later r rs (Err fault) among) [
  | inl here ↦ (x, (first_in x xs, fault_at r here one))
  | inr later ↦ let found = fault_among why xs rs fault all later in (found.0, (later_in x xs found.0 found.1.0, found.1.1))
]
  where
    fault_at : (r : Result Y RunFault) → r ≡ Err fault → IfErr r (IsBecause (why x)) → IsBecause (why x) fault
    fault_at r is not = subst (λ (one : Result Y RunFault). IfErr one (IsBecause (why x))) is not

-- where the whole isn't Ok, its fault is that of some item
pub if_one : {X Y Z : Type 0} (why : X → Type 0) (Q : Type 0) (P : Z → Type 0) (xs : List X) (rs : List (Result Y RunFault)) (r : Result Z RunFault)
    → AllZip (λ x one. IfErr one (IsBecause (why x))) xs rs → MatchResult r P (λ fault. Contains rs (Err fault))
    → ((x : X) → Contains xs x → why x → Q) → IfErr r (IsBecause Q)
if_one why Q P xs rs (Ok z) all is on = tt
if_one why Q P xs rs (Err fault) all is on =
    let found = fault_among why xs rs fault all is in because (why found.0) Q fault (on found.0 found.1.0) found.1.1

-- ---- all calls of a plan

module _ (script : Script) (plan : Plan) (shards : List ShardValue) (counts : List ShardCount) (trails : List (List Event)) where
  abbrev Told : ℕ → List Line → Type 0
  Told = IsTold script plan shards counts trails

  -- what is told of a call is its report
  abbrev pub TellsReport : (number : ℕ) → PlanCall → List Line → Type 0
  TellsReport number call lines =
      IsReported script (opened_as number call) (steps_in (epochs_of plan.calls) call.epochs) (restarts_of_others plan call) (map (line_of script) lines)

  abbrev pub TellReports : Type 0
  TellReports = (number : ℕ) (call : PlanCall) (lines : List Line) → slice_get plan.calls number ≡ Some call → Told number lines → TellsReport number call lines

  pub tell_reports : LogsTellReports → (entries : List Entry) (points : ℕ) → IsChecked script entries points → HavePlayed script plan shards counts → TellReports
  tell_reports law entries points checked played number call lines is told =
      let k = number % plan.shards in
      reported law script entries points checked plan played.few (0 + k) told.shard told.count
      (counted_at script plan.calls plan.shards 0 k shards counts told.shard told.count played.counted told.own_shard told.own_count)
      (played.executes told.shard (there shards k told.shard told.own_shard)) (taken_at plan 0 k counts told.count played.taken told.own_count)
      number call is (let same : k ≡ 0 + k = omega arith in same) lines told.counted

  -- these calls are those of the plan from a number on
  abbrev pub AreFrom : ℕ → List PlanCall → Type 0
  AreFrom number calls = (i : ℕ) → slice_get calls i ≡ slice_get plan.calls (number + i)

  more_from : (number : ℕ) (call : PlanCall) (calls : List PlanCall) → AreFrom number (call ∷ calls) → AreFrom (number + 1) calls
  more_from number call calls from i =
      from (suc i) ∙ ap (slice_get plan.calls) (let same : number + suc i ≡ number + 1 + i = omega arith in same)

  first_from : (number : ℕ) (call : PlanCall) (calls : List PlanCall) → AreFrom number (call ∷ calls) → slice_get plan.calls number ≡ Some call
  first_from number call calls from = ap (slice_get plan.calls) (let same : number ≡ number + 0 = omega arith in same) ∙ sym (from 0)

  pub are_reported : TellReports → (number : ℕ) (calls : List PlanCall) (all : List (List Line)) → AreFrom number calls
      → AllZip Told (range_with_len number (length calls)) all
      → AreReported script plan number calls (map (λ (own : List Line). map (line_of script) own) all)
  unfolding AreReported
  are_reported each number [] [] from told = tt
  are_reported each number [] (own ∷ all) from told = absurd told
  are_reported each number (call ∷ calls) [] from told = absurd told
  are_reported each number (call ∷ calls) (own ∷ all) from (one, told) =
      (each number call own (first_from number call calls from) one, are_reported each (number + 1) calls all (more_from number call calls from) told)

  pub are_numbered : (number count : ℕ) (all : List (List Line)) → AllZip Told (range_with_len number count) all → AreAllNumbered number all
  are_numbered number zero [] told = tt
  are_numbered number zero (own ∷ all) told = absurd told
  are_numbered number (suc count) [] told = absurd told
  are_numbered number (suc count) (own ∷ all) (one, told) = (one.counted.numbered, are_numbered (number + 1) count all told)

  pub are_left : (number count : ℕ) (all : List (List Line)) → AllZip Told (range_with_len number count) all
      → (l : Line) → Contains (flat_map (λ (own : List Line). own) all) l → IsLeftAmong script plan.shards shards trails l
  are_left number zero [] told l among = absurd (none_in l among)
  are_left number zero (own ∷ all) told l among = absurd told
  are_left number (suc count) [] told l among = absurd told
  are_left number (suc count) (own ∷ all) (one, told) l among =
      elim (Contains-append_cases own (flat_map (λ (each : List Line). each) all) l among) [
        | inl here ↦ one.left l here
        | inr later ↦ are_left (number + 1) count all told l later
      ]

  -- a call within one of these has its line among those of all
  pub have_lines : (number count : ℕ) (all : List (List Line)) → AllZip Told (range_with_len number count) all → (k : ℕ) → k < count
      → HaveLines (slice_index_or trails (number + k) []) (flat_map (λ (own : List Line). own) all)
  have_lines number zero all told k below call happens among = absurd (omega (arith, below))
  have_lines number (suc count) [] told k below call happens among = absurd told
  have_lines number (suc count) (own ∷ all) (one, told) zero below call happens among =
      let found = one.all call happens
      (subst (λ (n : ℕ). Contains (slice_index_or trails n []) (OfCall call happens)) (let same : number + 0 ≡ number = omega arith in same) among) in
      (found.0, Contains-append_left own (flat_map (λ (each : List Line). each) all) found.0 found.1, found.2)
  have_lines number (suc count) (own ∷ all) (one, told) (suc k) below call happens among =
      let found = have_lines (number + 1) count all told k (omega (arith, below)) call happens
      (subst (λ (n : ℕ). Contains (slice_index_or trails n []) (OfCall call happens)) (let same : number + suc k ≡ number + 1 + k = omega arith in same) among) in
      (found.0, Contains-append_right own (flat_map (λ (each : List Line). each) all) found.0 found.1, found.2)

-- the lines of all, as they are owned
pub lines_owned : {X Y : Type 0} (f : X → List Y) (all : List X) → flat_map f all ≡ flat_map (λ (own : List Y). own) (map f all)
lines_owned f [] = refl
lines_owned {Y = Y} f (one ∷ all) = ap (λ (rest : List Y). f one ++ rest) (lines_owned f all)
