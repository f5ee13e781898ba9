-- What is left of the places while calls are taken out: of one shard by their rising numbers, and of one shard after the other.
use Rattle.std.proofs.Common.{◌≡◌, ◌∙◌, ◌+◌, ◌<◌, ◌≤◌, ◌⊎◌, inl, inr, ℕ, Bool, true, false, List, length, set, Option, Some, None, refl, sym, ap, subst, arith}
use Rattle.std.specs.Prelude.{◌%◌, ◌==◌, ◌&&◌, nat_lt, slice_index_or}
use Rattle.std.proofs.lemmas.Bool.{cases_eq, cases_lt, eqb-false, eqb-true, le-ltb, lt-ltb, ltb-false, ltb-true}
use Rattle.std.proofs.lemmas.List.{get_or-set_same, get_or-set_other, get_or_past, get_or_default}
use Rattle.std.proofs.lemmas.Nat.{mod_below}
use Rattle.call_queues.specs.Standing.{AreLeft, left_at, stands_in}

left_none : {T : Type 0} (taken : Bool) → left_at {T = T} taken None ≡ None
left_none true = refl
left_none false = refl

-- ---- one shard

module _ {T : Type 0} where
  -- the places below a number are left, and the others as they were
  pub record IsLeftUpTo (shards shard number : ℕ) (old now : List (Option T)) : Type 0 where
    pub behind : (n : ℕ) → n < number → slice_index_or now n None ≡ left_at (stands_in shards shard n) (slice_index_or old n None)
    pub ahead : (n : ℕ) → number ≤ n → slice_index_or now n None ≡ slice_index_or old n None

  pub none_left_yet : (shards shard : ℕ) (old : List (Option T)) → IsLeftUpTo shards shard 0 old old
  none_left_yet shards shard old = record {
    behind = λ n below. absurd (let none : n < 0 = below in omega (arith, none));
    ahead = λ n above. refl;
  }

  one_left : (shards shard number : ℕ) (old now : List (Option T)) (place after : Option T) → number < length now
      → place ≡ slice_index_or now number place → after ≡ left_at (stands_in shards shard number) place → IsLeftUpTo shards shard number old now
      → IsLeftUpTo shards shard (number + 1) old (set now number after)
  one_left shards shard number old now place after within there is was = record {
    behind = λ n below. at_number n below (cases_eq n number);
    ahead = λ n above. get_or-set_other now number n after None (λ same. let past : number + 1 ≤ n = above in omega (arith, past, same)) ∙ was.ahead n (omega (arith, above));
  }
    where
      stood : place ≡ slice_index_or old number None
      stood = there ∙ get_or_default now number place None within ∙ was.ahead number (omega arith)

      here : slice_index_or (set now number after) number None ≡ left_at (stands_in shards shard number) (slice_index_or old number None)
      here = get_or-set_same now number after None within ∙ is ∙ ap (left_at (stands_in shards shard number)) stood

      at_number : (n : ℕ) → n < number + 1 → (n ≡ number) ⊎ (n ≡ number → ⊥)
          → slice_index_or (set now number after) n None ≡ left_at (stands_in shards shard n) (slice_index_or old n None)
      at_number n below (inl same) =
          subst (λ (m : ℕ). slice_index_or (set now number after) m None ≡ left_at (stands_in shards shard m) (slice_index_or old m None)) (sym same) here
      at_number n below (inr other) = get_or-set_other now number n after None other ∙ was.behind n (omega (arith, below, other))

  -- where the number is that of the place
  pub one_left_at : (shards shard number index : ℕ) (old now : List (Option T)) (place after : Option T) → number ≡ index → index < length now
      → place ≡ slice_index_or now index place → after ≡ left_at (stands_in shards shard number) place → IsLeftUpTo shards shard number old now
      → IsLeftUpTo shards shard (number + 1) old (set now index after)
  one_left_at shards shard number index old now place after same within there is was =
      subst (λ (n : ℕ). IsLeftUpTo shards shard (number + 1) old (set now n after)) same
      (one_left shards shard number old now place after (omega (arith, same, within))
      (subst (λ (n : ℕ). place ≡ slice_index_or now n place) (sym same) there) is was)

  pub all_left : (shards shard number : ℕ) (old now : List (Option T)) → length old ≤ number → IsLeftUpTo shards shard number old now
      → AreLeft (stands_in shards shard) old now
  all_left shards shard number old now all was n = by_order (cases_lt n number)
    where
      by_order : (n < number) ⊎ (number ≤ n) → slice_index_or now n None ≡ left_at (stands_in shards shard n) (slice_index_or old n None)
      by_order (inl below) = was.behind n below
      by_order (inr above) =
          let past : slice_index_or old n None ≡ None = get_or_past old n None (omega (arith, all, above)) in
          was.ahead n above ∙ past ∙ sym (ap (left_at (stands_in shards shard n)) past ∙ left_none (stands_in shards shard n))

-- ---- one shard after the other

-- the call with this number stands in a shard below this one, of so many
abbrev pub stands_before : (shards shard number : ℕ) → Bool
stands_before shards shard number = nat_lt 0 shards && nat_lt (number % shards) shard

both_left : {T : Type 0} (some below here next : Bool) (place : Option T) → (some ≡ true → below ≡ true → next ≡ true) → (some ≡ true → here ≡ true → next ≡ true)
    → (some ≡ true → next ≡ true → below ≡ false → here ≡ false → ⊥) → left_at (some && here) (left_at (some && below) place) ≡ left_at (some && next) place
both_left false below here next place on at only = refl
both_left true true true next place on at only = sym (ap (λ (taken : Bool). left_at taken place) (on refl refl))
both_left true true false next place on at only = sym (ap (λ (taken : Bool). left_at taken place) (on refl refl))
both_left true false true next place on at only = sym (ap (λ (taken : Bool). left_at taken place) (at refl refl))
both_left true false false true place on at only = absurd (only refl refl refl refl)
both_left true false false false place on at only = refl

pub none_left_before : {T : Type 0} (shards : ℕ) (old : List (Option T)) → AreLeft (stands_before shards 0) old old
none_left_before {T} shards old number = by_test (nat_lt 0 shards)
  where
    by_test : (some : Bool) → slice_index_or old number None ≡ left_at (some && nat_lt (number % shards) 0) (slice_index_or old number None)
    by_test true =
        sym (ap (λ (taken : Bool). left_at taken (slice_index_or old number None)) (le-ltb (number % shards) 0 (omega arith)))
    by_test false = refl

pub shard_left : {T : Type 0} (shards shard : ℕ) (old now new : List (Option T)) → AreLeft (stands_before shards shard) old now
    → AreLeft (stands_in shards shard) now new → AreLeft (stands_before shards (shard + 1)) old new
shard_left {T} shards shard old now new before here number =
    here number ∙ ap (left_at (stands_in shards shard number)) (before number)
    ∙ both_left (nat_lt 0 shards) (nat_lt rest shard) (rest == shard) (nat_lt rest (shard + 1)) (slice_index_or old number None)
    (λ some below. lt-ltb rest (shard + 1) (let less : rest < shard = ltb-true rest shard below in omega (arith, less)))
    (λ some same. lt-ltb rest (shard + 1) (let is : rest ≡ shard = eqb-true rest shard same in omega (arith, is)))
    (λ some next not_below not_here.
    let less : rest < shard + 1 = ltb-true rest (shard + 1) next in
    let above : shard ≤ rest = ltb-false rest shard not_below in
    eqb-false rest shard not_here (omega (arith, less, above)))
  where
    rest : ℕ
    rest = number % shards

pub shards_left : {T : Type 0} (shards shard : ℕ) (old new : List (Option T)) → shards ≤ shard → AreLeft (stands_before shards shard) old new
    → AreLeft (λ number. nat_lt 0 shards) old new
shards_left {T} shards shard old new all before number = before number ∙ by_order (cases_lt 0 shards)
  where
    place : Option T
    place = slice_index_or old number None

    by_order : (0 < shards) ⊎ (shards ≤ 0) → left_at (nat_lt 0 shards && nat_lt (number % shards) shard) place ≡ left_at (nat_lt 0 shards) place
    by_order (inl some) =
        let within : number % shards < shards = mod_below number shards some in
        ap (λ (taken : Bool). left_at (nat_lt 0 shards && taken) place) (lt-ltb (number % shards) shard (omega (arith, within, all)))
        ∙ ap (λ (taken : Bool). left_at (taken && true) place) (lt-ltb 0 shards some)
        ∙ sym (ap (λ (taken : Bool). left_at taken place) (lt-ltb 0 shards some))
    by_order (inr none) =
        ap (λ (taken : Bool). left_at (taken && nat_lt (number % shards) shard) place) (le-ltb 0 shards none)
        ∙ sym (ap (λ (taken : Bool). left_at taken place) (le-ltb 0 shards none))
