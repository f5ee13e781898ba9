-- The bits of the words that say where media goes.
use Rattle.std.proofs.Common.{◌≡◌, ℕ, ◌+◌, ◌-◌, ◌*◌, ◌%◌, ◌^◌, ◌<◌, ◌≤◌, ◌==◌, nat_lt, zero, suc, Bool, true, false, not, ◌||◌, ◌&&◌, refl, ap, ap₂, sym, subst, ◌∙◌, arith, bit_and}
use Rattle.std.proofs.lemmas.Grind.{common_steps}
use Rattle.std.specs.Int.RustNames.{bit_or}
use Rattle.std.specs.Prelude.{if◌then◌else◌}
use Rattle.mg_model.specs.declared.commands.Termination.{Termination}
use Rattle.mg_model.specs.declared.commands.Termination.TheVariants.{Line, Ephemeral}
use Rattle.mg_model.specs.declared.components.Spot.{Spot}
use Rattle.mg_model.specs.declared.components.Spot.TheVariants.{Absent, Null, In}
use Rattle.mg_model.specs.Configuration.{Configuration, is_same, is_to}
use Rattle.mg_model.specs.Paths.{hops, crosses, is_shared, passes_in, passes_out}
use Rattle.configuration.specs.Fields.{field_of, IsPut}
use Rattle.configuration.specs.Bits.{has}
use Rattle.configuration.specs.Codes.{remote_at}
use Rattle.configuration.proofs.EphemeralLemmas.{present_number}
use Rattle.std.proofs.lemmas.Nat.{or_lt, mod_below, pow_pos}
use Rattle.configuration.specs.Packed.{Words, pair_place}
use Rattle.configuration.specs.Config.{configuration_of}
use Rattle.configuration.specs.Words.{termination_at}
use Rattle.configuration.specs.Tests.{context_number}
use Rattle.configuration.proofs.BitLemmas.{has_or, has_and, has_not, has_one, has_field, has_shifted, has_below}
use Rattle.configuration.proofs.PutLemmas.{kept}
use Rattle.configuration.proofs.CutLemmas.{cut_bit}
use Rattle.configuration.proofs.PairLemmas.{place_at}
use Rattle.configuration.specs.Search.{IsSenders}

-- a byte's bit and another's
pub byte_bit : (n u m p : ℕ) → u < 8 → p < 8 → (8 * n + u == 8 * m + p) ≡ (u == p && m == n)
byte_bit n u m p h l = by_test (u == p) refl (m == n) refl
  where
    by_test : (a : Bool) → (u == p) ≡ a → (b : Bool) → (m == n) ≡ b → (8 * n + u == 8 * m + p) ≡ (a && b)
    by_test true e true f = grind (arith, common_steps)
    by_test true e false f = grind (arith, common_steps)
    by_test false e b f = grind (arith, common_steps)

-- of eight, the one that is asked for
pub pick_eight : (p : ℕ → Bool) (u : ℕ) → u < 8 →
    ((((u == 0 && p 0) || (u == 1 && p 1)) || ((u == 2 && p 2) || (u == 3 && p 3)))
    || (((u == 4 && p 4) || (u == 5 && p 5)) || ((u == 6 && p 6) || (u == 7 && p 7)))) ≡ p u
pick_eight p zero h = by_value (p 0)
  where
    by_value : (b : Bool) → (((b || false) || (false || false)) || ((false || false) || (false || false))) ≡ b
    by_value true = refl
    by_value false = refl
pick_eight p (suc zero) h = by_value (p 1)
  where
    by_value : (b : Bool) → (((false || b) || (false || false)) || ((false || false) || (false || false))) ≡ b
    by_value true = refl
    by_value false = refl
pick_eight p (suc (suc zero)) h = by_value (p 2)
  where
    by_value : (b : Bool) → (((false || false) || (b || false)) || ((false || false) || (false || false))) ≡ b
    by_value true = refl
    by_value false = refl
pick_eight p (suc (suc (suc zero))) h = by_value (p 3)
  where
    by_value : (b : Bool) → (((false || false) || (false || b)) || ((false || false) || (false || false))) ≡ b
    by_value true = refl
    by_value false = refl
pick_eight p (suc (suc (suc (suc zero)))) h = by_value (p 4)
  where
    by_value : (b : Bool) → (((false || false) || (false || false)) || ((b || false) || (false || false))) ≡ b
    by_value true = refl
    by_value false = refl
pick_eight p (suc (suc (suc (suc (suc zero))))) h = by_value (p 5)
  where
    by_value : (b : Bool) → (((false || false) || (false || false)) || ((false || b) || (false || false))) ≡ b
    by_value true = refl
    by_value false = refl
pick_eight p (suc (suc (suc (suc (suc (suc zero)))))) h = by_value (p 6)
  where
    by_value : (b : Bool) → (((false || false) || (false || false)) || ((false || false) || (b || false))) ≡ b
    by_value true = refl
    by_value false = refl
pick_eight p (suc (suc (suc (suc (suc (suc (suc zero))))))) h = by_value (p 7)
  where
    by_value : (b : Bool) → (((false || false) || (false || false)) || ((false || false) || (false || b))) ≡ b
    by_value true = refl
    by_value false = refl
pick_eight p (suc (suc (suc (suc (suc (suc (suc (suc u)))))))) h = absurd (omega arith)

-- what is cut from one of the eight, in two parts about its own place
pub cut_row_bits : (cuts s u low high : ℕ) → s < 8 → u < 8 → (u ≡ s → ⊥) → low ≡ field_of cuts (7 * s) s →
    high ≡ field_of cuts (8 * s) (7 - s) → has (bit_or low (high * 2 ^ (s + 1) % 2 ^ 64)) u ≡ has cuts (pair_place s u)
cut_row_bits cuts s u low high hs hu other e f =
    has_or low (high * 2 ^ (s + 1) % 2 ^ 64) u ∙ ap (λ b. b || has (high * 2 ^ (s + 1) % 2 ^ 64) u) (ap (λ n. has n u) e ∙ has_field cuts (7 * s) s u)
    ∙ by_side (nat_lt u s) refl
  where
    by_side : (b : Bool) → nat_lt u s ≡ b → ((b && has cuts (7 * s + u)) || has (high * 2 ^ (s + 1) % 2 ^ 64) u) ≡ has cuts (pair_place s u)
    by_side true g =
        let place : pair_place s u ≡ 7 * s + u = grind (arith, common_steps) in
        let none : has (high * 2 ^ (s + 1) % 2 ^ 64) u ≡ false = has_below high (s + 1) u (grind (arith, common_steps)) (omega arith) in
        rw (place, none) (or_false (has cuts (7 * s + u)))
      where
        or_false : (b : Bool) → (b || false) ≡ b
        or_false true = refl
        or_false false = refl
    by_side false g =
        let above : s < u = above_side g in
        let place : pair_place s u ≡ 8 * s + (u - (s + 1)) = grind (arith, common_steps) in
        let whole : u ≡ s + 1 + (u - (s + 1)) = omega (arith, above) in
        let inside : nat_lt (u - (s + 1)) (7 - s) ≡ true = grind (arith, common_steps) in
        let moved : has (high * 2 ^ (s + 1) % 2 ^ 64) (s + 1 + (u - (s + 1))) ≡ has high (u - (s + 1)) = has_shifted high (s + 1) (u - (s + 1)) (omega (arith, above)) in
        let read : has high (u - (s + 1)) ≡ (nat_lt (u - (s + 1)) (7 - s) && has cuts (8 * s + (u - (s + 1)))) = ap (λ n. has n (u - (s + 1))) f ∙ has_field cuts (8 * s) (7 - s) (u - (s + 1)) in
        ap (has (high * 2 ^ (s + 1) % 2 ^ 64)) whole ∙ moved ∙ read ∙ ap (λ b. b && has cuts (8 * s + (u - (s + 1)))) inside ∙ ap (has cuts) (sym place)
      where
        above_side : nat_lt u s ≡ false → s < u
        above_side g = grind (arith, common_steps)

-- a byte that was put, and the others
pub put_byte : (new old value s : ℕ) → IsPut new old (8 * s) 8 value → (u : ℕ) → u < 8 → has new (8 * s + u) ≡ has value u
put_byte new old value s put u h =
    let inside : nat_lt u 8 ≡ true = grind (arith, common_steps) in
    let read : has (field_of new (8 * s) 8) u ≡ (nat_lt u 8 && has new (8 * s + u)) = has_field new (8 * s) 8 u in
    sym (read ∙ ap (λ b. b && has new (8 * s + u)) inside) ∙ ap (λ n. has n u) put.here

pub other_byte : (new old value s : ℕ) → IsPut new old (8 * s) 8 value → (t u : ℕ) → t < s → u < 8 → has new (8 * t + u) ≡ has old (8 * t + u)
unfolding has
other_byte new old value s put t u l h = ap (λ n. not (n == 0)) (kept put (8 * t + u) 1 (λ a b. omega arith))

-- terminations are one where their places are
pub same_place : (m n : ℕ) → m < 8 → n < 8 → is_same (termination_at m) (termination_at n) ≡ (m == n)
same_place m n hm hn = by_test (nat_lt m 4) refl (nat_lt n 4) refl
  where
    by_test : (a : Bool) → nat_lt m 4 ≡ a → (b : Bool) → nat_lt n 4 ≡ b →
        is_same (if a then Line m else Ephemeral (m - 4)) (if b then Line n else Ephemeral (n - 4)) ≡ (m == n)
    by_test true e true f = refl
    by_test true e false f = grind (arith, common_steps)
    by_test false e true f = grind (arith, common_steps)
    by_test false e false f = grind (arith, common_steps)

pub shared_numbers : (s r : Spot) → is_shared s r ≡ (not (context_number s == 0) && context_number r == context_number s)
shared_numbers Absent r = refl
shared_numbers Null r = refl
shared_numbers (In i) Absent = grind (arith, common_steps)
shared_numbers (In i) Null = grind (arith, common_steps)
shared_numbers (In i) (In j) = grind (arith, common_steps)

-- the sender's bit
pub sender_bit : (m p n u : ℕ) → m ≤ 4 → p < 8 → u < 8 → has (1 * 2 ^ (8 * m + p) % 2 ^ 64) (8 * n + u) ≡ (u == p && (m == n && true))
sender_bit m p n u hm hp hu = has_one (8 * m + p) (8 * n + u) (omega arith) ∙ byte_bit n u m p hu hp ∙ ap (λ b. u == p && b) (and_true (m == n))
  where
    and_true : (b : Bool) → b ≡ (b && true)
    and_true true = refl
    and_true false = refl

pub no_sender : (u p m n : ℕ) → false ≡ (u == p && (m == n && false))
no_sender u p m n = by_test (u == p) (m == n)
  where
    by_test : (a b : Bool) → false ≡ (a && (b && false))
    by_test true true = refl
    by_test true false = refl
    by_test false b = refl

-- no hop from a termination that stands in no context, or lets no media in
pub no_hop : (c : Configuration) (t u : Termination) → context_number (c.spot t) ≡ 0 → hops c t u ≡ false
no_hop c t u e =
    let apart : is_shared (c.spot t) (c.spot u) ≡ false = shared_numbers (c.spot t) (c.spot u) ∙ ap (λ n. not (n == 0) && context_number (c.spot u) == n) e in
    rw apart (by_test (not (is_same t u)))
  where
    by_test : (a : Bool) → (a && false && passes_in (c.mode t) && passes_out (c.mode u) && not (c.cut t u)) ≡ false
    by_test true = refl
    by_test false = refl

pub no_way_in : (c : Configuration) (t u : Termination) → passes_in (c.mode t) ≡ false → hops c t u ≡ false
no_way_in c t u e = rw e (by_test (not (is_same t u)) (is_shared (c.spot t) (c.spot u)))
  where
    by_test : (a b : Bool) → (a && b && false && passes_out (c.mode u) && not (c.cut t u)) ≡ false
    by_test true true = refl
    by_test true false = refl
    by_test false b = refl

-- a hop by its parts
pub hop_parts : (c : Configuration) (t u : Termination) (same shared out cut : Bool) → is_same t u ≡ same →
    is_shared (c.spot t) (c.spot u) ≡ shared → passes_in (c.mode t) ≡ true → passes_out (c.mode u) ≡ out → c.cut t u ≡ cut →
    hops c t u ≡ (not same && shared && out && not cut)
hop_parts c t u same shared out cut e f g h k = rw (e, f, g, h, k) (by_test same shared)
  where
    by_test : (a b : Bool) → (not a && b && true && out && not cut) ≡ (not a && b && out && not cut)
    by_test true b = refl
    by_test false true = refl
    by_test false false = refl

pub cut_places : (w : Words) (m n : ℕ) → m < 8 → n < 8 →
    (configuration_of w).cut (termination_at m) (termination_at n) ≡ has w.cuts (pair_place m n)
cut_places w m n hm hn =
    let first = place_at m hm in
    let second = place_at n hn in
    cut_bit w _ _ (subst (λ (k : ℕ). k < 8) (sym first) hm) (subst (λ (k : ℕ). k < 8) (sym second) hn)
    ∙ ap₂ (λ i j. has w.cuts (pair_place i j)) first second

-- the bits of a row
pub row_bits : (w : Words) (s u number senders cuts : ℕ) → s < 8 → u < 8 → number ≡ context_number ((configuration_of w).spot (termination_at s)) →
    (number ≡ 0 → ⊥) → number ≤ 4 → passes_in ((configuration_of w).mode (termination_at s)) ≡ true → IsSenders (configuration_of w) senders →
    ((v : ℕ) → v < 8 → (v ≡ s → ⊥) → has cuts v ≡ has w.cuts (pair_place s v)) → bit_or cuts (1 * 2 ^ s % 2 ^ 64) < 2 ^ 64 →
    has (bit_and (field_of senders (8 * number) 8) (2 ^ 64 - 1 - bit_or cuts (1 * 2 ^ s % 2 ^ 64))) u
    ≡ hops (configuration_of w) (termination_at s) (termination_at u)
row_bits w s u number senders cuts hs hu is_number some small inward is_senders cut_off fits =
    has_and (field_of senders (8 * number) 8) (2 ^ 64 - 1 - bit_or cuts (1 * 2 ^ s % 2 ^ 64)) u
    ∙ ap₂ (λ a b. a && b) standing (has_not (bit_or cuts (1 * 2 ^ s % 2 ^ 64)) u fits (omega arith) ∙ ap not barred)
    ∙ by_place (u == s) refl
  where
    inside : nat_lt u 8 ≡ true
    inside = grind (arith, common_steps)

    standing : has (field_of senders (8 * number) 8) u
        ≡ (context_number ((configuration_of w).spot (termination_at u)) == number && passes_out ((configuration_of w).mode (termination_at u)))
    standing =
        has_field senders (8 * number) 8 u ∙ ap (λ b. b && has senders (8 * number + u)) inside ∙ is_senders number u (omega arith) hu

    barred : has (bit_or cuts (1 * 2 ^ s % 2 ^ 64)) u ≡ (has cuts u || u == s)
    barred = has_or cuts (1 * 2 ^ s % 2 ^ 64) u ∙ ap (λ b. has cuts u || b) (has_one s u (omega arith))

    shared : is_shared ((configuration_of w).spot (termination_at s)) ((configuration_of w).spot (termination_at u))
        ≡ (context_number ((configuration_of w).spot (termination_at u)) == number)
    shared =
        shared_numbers ((configuration_of w).spot (termination_at s)) ((configuration_of w).spot (termination_at u))
        ∙ ap (λ n. not (n == 0) && context_number ((configuration_of w).spot (termination_at u)) == n) (sym is_number)
        ∙ ap (λ b. not b && context_number ((configuration_of w).spot (termination_at u)) == number) (not_zero number some)
      where
        not_zero : (n : ℕ) → (n ≡ 0 → ⊥) → (n == 0) ≡ false
        not_zero n h = grind (arith, common_steps)

    by_place : (b : Bool) → (u == s) ≡ b →
        ((context_number ((configuration_of w).spot (termination_at u)) == number && passes_out ((configuration_of w).mode (termination_at u)))
        && not (has cuts u || b))
        ≡ hops (configuration_of w) (termination_at s) (termination_at u)
    by_place true e =
        let same : (s == u) ≡ true = grind (arith, common_steps) in
        none (context_number ((configuration_of w).spot (termination_at u)) == number) (passes_out ((configuration_of w).mode (termination_at u))) (has cuts u)
        ∙ sym (hop_parts (configuration_of w) (termination_at s) (termination_at u) true
        (is_shared ((configuration_of w).spot (termination_at s)) ((configuration_of w).spot (termination_at u))) (passes_out ((configuration_of w).mode (termination_at u)))
        ((configuration_of w).cut (termination_at s) (termination_at u)) (same_place s u hs hu ∙ same) refl inward refl refl)
      where
        none : (a b d : Bool) → ((a && b) && not (d || true)) ≡ false
        none true true true = refl
        none true true false = refl
        none true false d = refl
        none false b d = refl
    by_place false e =
        let other : (s == u) ≡ false = grind (arith, common_steps) in
        let cut : has cuts u ≡ (configuration_of w).cut (termination_at s) (termination_at u) =
        cut_off u hu (grind (arith, common_steps)) ∙ sym (cut_places w s u hs hu) in
        regroup (context_number ((configuration_of w).spot (termination_at u)) == number) (passes_out ((configuration_of w).mode (termination_at u)))
        (has cuts u) ((configuration_of w).cut (termination_at s) (termination_at u)) cut
        ∙ sym (hop_parts (configuration_of w) (termination_at s) (termination_at u) false
        (context_number ((configuration_of w).spot (termination_at u)) == number) (passes_out ((configuration_of w).mode (termination_at u)))
        ((configuration_of w).cut (termination_at s) (termination_at u)) (same_place s u hs hu ∙ other) shared inward refl refl)
      where
        regroup : (a b d e : Bool) → d ≡ e → ((a && b) && not (d || false)) ≡ (true && a && b && not e)
        regroup a b true e h = rw (sym h) (by_two a b)
          where
            by_two : (a b : Bool) → ((a && b) && false) ≡ (a && b && false)
            by_two a b = refl
        regroup a b false e h = rw (sym h) (by_two a b)
          where
            by_two : (a b : Bool) → ((a && b) && true) ≡ (a && b && true)
            by_two a b = refl

pub fits_or : (a k : ℕ) → a < 2 ^ 64 → bit_or a (1 * 2 ^ k % 2 ^ 64) < 2 ^ 64
fits_or a k h = or_lt 64 a (1 * 2 ^ k % 2 ^ 64) h (mod_below (1 * 2 ^ k) (2 ^ 64) (pow_pos 64))

pub to_number : (r i : ℕ) → i < 4 → is_to (remote_at r) i ≡ (r == i + 2)
to_number r i h = grind (arith, common_steps)

-- a crossing by its numbers
pub crossing_numbers : (w : Words) (k i : ℕ) → k < 4 → i < 4 →
    (not (k == i) && (not (field_of w.ephemerals (8 * k) 3 == 0) && not (field_of w.ephemerals (8 * i) 3 == 0))
    && field_of w.ephemerals (8 * k + 5) 3 == i + 2 && field_of w.ephemerals (8 * i + 5) 3 == k + 2)
    ≡ crosses (configuration_of w) k i
unfolding configuration_of
crossing_numbers w k i hk hi =
    let inside : nat_lt k 4 ≡ true = grind (arith, common_steps) in
    let other_inside : nat_lt i 4 ≡ true = grind (arith, common_steps) in
    rw (
      inside,
      other_inside,
      present_number (field_of w.ephemerals (8 * k) 3),
      present_number (field_of w.ephemerals (8 * i) 3),
      to_number (field_of w.ephemerals (8 * k + 5) 3) i hi,
      to_number (field_of w.ephemerals (8 * i + 5) 3) k hk,
    )
    (regroup (not (k == i)) (not (field_of w.ephemerals (8 * k) 3 == 0)) (not (field_of w.ephemerals (8 * i) 3 == 0))
    (field_of w.ephemerals (8 * k + 5) 3 == i + 2) (field_of w.ephemerals (8 * i + 5) 3 == k + 2))
  where
    regroup : (a p q x y : Bool) → (a && (p && q) && x && y) ≡ (a && p && q && x && y)
    regroup true true q x y = refl
    regroup true false q x y = refl
    regroup false p q x y = refl

pub pick_four : (p : ℕ → Bool) (i : ℕ) → i < 4 → (((i == 0 && p 0) || (i == 1 && p 1)) || ((i == 2 && p 2) || (i == 3 && p 3))) ≡ p i
pick_four p zero h = by_value (p 0)
  where
    by_value : (b : Bool) → ((b || false) || (false || false)) ≡ b
    by_value true = refl
    by_value false = refl
pick_four p (suc zero) h = by_value (p 1)
  where
    by_value : (b : Bool) → ((false || b) || (false || false)) ≡ b
    by_value true = refl
    by_value false = refl
pick_four p (suc (suc zero)) h = by_value (p 2)
  where
    by_value : (b : Bool) → ((false || false) || (b || false)) ≡ b
    by_value true = refl
    by_value false = refl
pick_four p (suc (suc (suc zero))) h = by_value (p 3)
  where
    by_value : (b : Bool) → ((false || false) || (false || b)) ≡ b
    by_value true = refl
    by_value false = refl
pick_four p (suc (suc (suc (suc i)))) h = absurd (omega arith)
