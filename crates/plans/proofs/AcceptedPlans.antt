-- What is read of a tree has the form of a plan.
use Rattle.std.proofs.Common.{◌≡◌, ℕ, zero, suc, ◌<◌, ◌≤◌, Bool, true, false, List, [], ◌∷◌, length, Option, Some, None, Result, Ok, Err, true≢false, refl, sym, subst, ap, arith}
use Rattle.std.specs.Prelude.{◌==◌, not, nat_le, Contains, unwrap_or, codes, ℤ, pos, negsuc, if◌then◌else◌}
use Rattle.std.proofs.lemmas.Bool.{eqb-true, leb-true}
use Rattle.std.proofs.lemmas.Option.{same_Some}
use Rattle.toml.specs.Data.{Data, Items, no_items, item, Members, get_member, as_array, as_integer, as_table}
use Rattle.mg_model.specs.Plans.{PlanCall, Plan}
use Rattle.mg_model.specs.Script.{Script}
use Rattle.mg_model.proofs.Cases.{none_is_some}
use Rattle.typed_values.specs.Keys.{items_of, list_of, needed, optional, listed, has_only}
use Rattle.typed_values.specs.Shape.{◌>>=◌, only_if, listed_at, optional_at}
use Rattle.plans.specs.declared.fault.PlanFault.{PlanFault}
use Rattle.plans.specs.declared.fault.PlanFault.TheVariants.{BadStep, TooMany}
use Rattle.plans.specs.Accepted.{IsPlanFor}
use Rattle.plans.specs.PlanValue.{is_too_large}
use Rattle.plans.specs.Reading.{plan_read, tree_read}
use Rattle.plans.specs.Tables.{call_in, call_keys, call_meant, epoch_meant, line_meant, names_line_twice, plan_in, plan_keys, shards_meant, whole_in, whole_meant}

-- ---- what a shape that gives something has gone through

-- what was bound
bound : {A B : Type 0} (o : Option A) (f : A → Option B) (y : B) → (o >>= f) ≡ Some y → (x : A) × ((o ≡ Some x) × (f x ≡ Some y))
bound None f y is = absurd (none_is_some y is)
bound (Some x) f y is = (x, (refl, is))

tested : {A : Type 0} (b : Bool) (o : Option A) (y : A) → only_if b o ≡ Some y → (b ≡ true) × (o ≡ Some y)
tested true o y is = (refl, is)
tested false o y is = absurd (none_is_some y is)

-- each item that is read of an array was read of one of its items
each_read : {A : Type 0} (shape : Data → Option A) (P : A → Type 0) → ((d : Data) (x : A) → shape d ≡ Some x → P x) → (ds : Items) (xs : List A)
    → items_of shape ds ≡ Some xs → (x : A) → Contains xs x → P x
each_read shape P holds no_items xs is x among =
    absurd (let none : [] ≡ xs = same_Some [] xs is in let within : among.0 < length xs = among.1 in
    let empty : length xs ≡ 0 = sym (ap length none) in omega (arith, within, empty))
each_read shape P holds (item d ds) xs is x among =
    let first = bound (shape d) (λ y. items_of shape ds >>= λ ys. Some (y ∷ ys)) xs is in
    let rest = bound (items_of shape ds) (λ ys. Some (first.0 ∷ ys)) xs first.1.1 in
    let parts : (first.0 ∷ rest.0) ≡ xs = same_Some (first.0 ∷ rest.0) xs rest.1.1 in
    at first.0 rest.0 (holds d first.0 first.1.0) (each_read shape P holds ds rest.0 rest.1.0) (subst (λ (l : List _). Contains l x) (sym parts) among)
  where
    at : (y : _) (ys : List _) → P y → ((z : _) → Contains ys z → P z) → Contains (y ∷ ys) x → P x
    at y ys here later (zero, within, is) = subst P is here
    at y ys here later (suc i, within, is) = later x (i, (let less : suc i < suc (length ys) = within in omega (arith, less)), is)

each_listed : {A : Type 0} (shape : Data → Option A) (P : A → Type 0) → ((d : Data) (x : A) → shape d ≡ Some x → P x) → (found : Option Data) (xs : List A)
    → listed_at (list_of shape) found ≡ Some xs → (x : A) → Contains xs x → P x
each_listed shape P holds None xs is x among = each_read shape P holds no_items xs is x among
each_listed shape P holds (Some d) xs is x among =
    let array = bound (as_array d) (items_of shape) xs is in each_read shape P holds array.0 xs array.1.1 x among

-- ---- shards

in_bounds : (least most : ℕ) (z : ℤ) (n : ℕ) → whole_in least most z ≡ Some n → (least ≤ n) × (n ≤ most)
in_bounds least most (pos m) n is =
    let low = tested (nat_le least m) (only_if (nat_le m most) (Some m)) n is in
    let high = tested (nat_le m most) (Some m) n low.1 in
    let same : m ≡ n = same_Some m n high.1 in
    (subst (λ k. least ≤ k) same (leb-true least m low.0), subst (λ k. k ≤ most) same (leb-true m most high.0))
in_bounds least most (negsuc m) n is = absurd (none_is_some n is)

shards_read : (found : Option Data) (shards : Option ℕ) → optional_at shards_meant found ≡ Some shards → (1 ≤ unwrap_or shards 1) × (unwrap_or shards 1 ≤ 16)
unfolding whole_meant
shards_read None shards is =
    subst (λ (s : Option ℕ). (1 ≤ unwrap_or s 1) × (unwrap_or s 1 ≤ 16)) (same_Some None shards is) (omega arith, omega arith)
shards_read (Some d) shards is =
    let number = bound (shards_meant d) (λ n. Some (Some n)) shards is in
    let whole = bound (as_integer d) (whole_in 1 16) number.0 number.1.0 in
    subst (λ (s : Option ℕ). (1 ≤ unwrap_or s 1) × (unwrap_or s 1 ≤ 16)) (same_Some (Some number.0) shards number.1.1)
    (in_bounds 1 16 whole.0 number.0 whole.1.1)

-- ---- answers

abbrev told : Plan → Result Plan PlanFault
told p = Ok p

abbrev refused : PlanFault → Result Plan PlanFault
refused fault = Err fault

one_plan : (p q : Plan) → told p ≡ told q → p ≡ q
one_plan p q same = cc

no_plan : (fault : PlanFault) (plan : Plan) → refused fault ≡ told plan → ⊥
no_plan fault plan same = cc

-- ---- calls

module _ (script : Script) where
  abbrev HasLines : PlanCall → Type 0
  HasLines call = length call.lines ≡ length script.lines

  call_lines : (t : Members) (call : PlanCall) → call_in script t ≡ Some call → HasLines call
  unfolding call_in
  call_lines t call is =
      let rest = (tested (has_only call_keys t) _ call is).1 in
      let lines = bound (needed (list_of line_meant) (codes "lines") t) _ call rest in
      let epochs = bound (needed (list_of (epoch_meant script)) (codes "epochs") t) _ call lines.1.1 in
      let all = tested (length lines.0 == length script.lines) _ call epochs.1.1 in
      let same : record { lines = lines.0; epochs = epochs.0 } ≡ call = same_Some _ call all.1 in
      subst HasLines same (eqb-true (length lines.0) (length script.lines) all.0)

  call_read : (d : Data) (call : PlanCall) → call_meant script d ≡ Some call → HasLines call
  unfolding call_meant
  call_read d call is = let table = bound (as_table d) (call_in script) call is in call_lines table.0 call table.1.1

  -- ---- a plan

  not_twice : (b : Bool) → not b ≡ true → b ≡ false
  not_twice true is = absurd (true≢false (sym is))
  not_twice false is = refl

  accepted : (t : Members) (plan : Plan) → plan_in script t ≡ Some plan → is_too_large plan ≡ false → IsPlanFor script plan
  unfolding plan_in
  accepted t plan is within =
      let rest = (tested (has_only plan_keys t) _ plan is).1 in
      let calls = bound (listed (call_meant script) (codes "call") t) _ plan rest in
      let shards = bound (optional shards_meant (codes "shards") t) _ plan calls.1.1 in
      let once = tested (not (names_line_twice calls.0)) _ plan shards.1.1 in
      let same : record { calls = calls.0; shards = unwrap_or shards.0 1 } ≡ plan = same_Some _ plan once.1 in
      let number = shards_read (get_member (codes "shards") t) shards.0 shards.1.0 in
      record {
        some_shard = subst (λ (p : Plan). 1 ≤ p.shards) same number.0;
        few_shards = subst (λ (p : Plan). p.shards ≤ 16) same number.1;
        all_lines = λ call among. each_listed (call_meant script) HasLines call_read (get_member (codes "call") t) calls.0 calls.1.0 call
            (subst (λ (p : Plan). Contains p.calls call) (sym same) among);
        once = subst (λ (p : Plan). names_line_twice p.calls ≡ false) same (not_twice (names_line_twice calls.0) once.0);
        within = within;
      }

  pub read_is_accepted : (t : Members) (plan : Plan) → tree_read script t ≡ Ok plan → IsPlanFor script plan
  unfolding tree_read
  read_is_accepted t plan is = of_read (plan_in script t) refl is
    where
      of_size : (p : Plan) (large : Bool) → plan_in script t ≡ Some p → is_too_large p ≡ large → (if large then refused TooMany else told p) ≡ told plan
          → IsPlanFor script plan
      of_size p true from size same = absurd (no_plan TooMany plan same)
      of_size p false from size same = subst (λ (q : Plan). IsPlanFor script q) (one_plan p plan same) (accepted t p from size)

      of_read : (found : Option Plan) → plan_in script t ≡ found → plan_read found ≡ told plan → IsPlanFor script plan
      of_read None from same = absurd (no_plan BadStep plan same)
      of_read (Some p) from same = of_size p (is_too_large p) from refl same
