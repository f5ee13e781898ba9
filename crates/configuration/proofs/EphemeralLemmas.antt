-- When the numbers of an ephemeral's fields are right.
use Rattle.std.proofs.Common.{◌≡◌, ℕ, ◌+◌, ◌-◌, ◌*◌, ◌^◌, ◌<◌, ◌≤◌, ◌==◌, nat_lt, Bool, true, false, not, ◌||◌, ◌&&◌, refl, arith}
use Rattle.std.proofs.lemmas.Grind.{common_steps}
use Rattle.mg_model.specs.declared.commands.Termination.TheVariants.{Ephemeral}
use Rattle.mg_model.specs.Configuration.{Configuration, is_present}
use Rattle.configuration.specs.Fields.{field_of}
use Rattle.configuration.specs.Codes.{mode_at, ephemeral_spot_at, remote_at}
use Rattle.configuration.specs.Packed.{Words, IsPackedEphemerals}
use Rattle.configuration.specs.Config.{configuration_of}
use Rattle.configuration.specs.Tests.{is_inactive, remote_is_right, is_ephemeral_right}
use Rattle.configuration.proofs.SumLemmas.{ephemeral_sum}

pub present_number : (n : ℕ) → is_present (ephemeral_spot_at n) ≡ not (n == 0)
present_number n = grind (arith, common_steps)

pub inactive_number : (n : ℕ) → is_inactive (mode_at n) ≡ (n == 0)
inactive_number n = grind (arith, common_steps)

at_least : (r : ℕ) → nat_lt r 2 ≡ false → 2 ≤ r
at_least r e = grind (arith, common_steps)

-- the test over plain numbers, of which the last is the number of where the named one stands
pub numbers_right : (c : Configuration) (a m r n whole : ℕ) → whole ≡ a + m * 2 ^ 3 + r * 2 ^ 5 → r ≤ 5 →
    (2 ≤ r → is_present (c.spot (Ephemeral (r - 2))) ≡ not (n == 0)) →
    remote_is_right c (not (a == 0)) (m == 0) (remote_at r) ≡ (whole == 0 || (not (a == 0) && (nat_lt r 2 || not (n == 0))))
numbers_right c a m r n whole e small named = by_first (r == 0) refl (r == 1) refl (a == 0) refl (m == 0) refl
  where
    by_first : (p : Bool) → (r == 0) ≡ p → (q : Bool) → (r == 1) ≡ q → (s : Bool) → (a == 0) ≡ s → (t : Bool) → (m == 0) ≡ t →
        remote_is_right c (not (a == 0)) (m == 0) (remote_at r) ≡ (whole == 0 || (not (a == 0) && (nat_lt r 2 || not (n == 0))))
    by_first true e₁ q e₂ s e₃ t e₄ =
        let zero_name : r ≡ 0 = grind (arith, common_steps) in
        rw (zero_name, e₃, e₄) (unset s t (sums s t e₃ e₄ zero_name))
      where
        sums : (s t : Bool) → (a == 0) ≡ s → (m == 0) ≡ t → r ≡ 0 → (whole == 0) ≡ (s && t)
        sums s t e₃ e₄ z = grind (arith, common_steps)

        unset : (s t : Bool) → (whole == 0) ≡ (s && t) → (not s || t) ≡ (whole == 0 || (not s && true))
        unset true true h = rw h refl
        unset true false h = rw h refl
        unset false true h = rw h refl
        unset false false h = rw h refl
    by_first false e₁ true e₂ s e₃ t e₄ =
        let one_name : r ≡ 1 = grind (arith, common_steps) in
        let some : (whole == 0) ≡ false = grind (arith, common_steps) in
        rw (one_name, some) (plain (not (a == 0)))
      where
        plain : (b : Bool) → b ≡ (b && true)
        plain true = refl
        plain false = refl
    by_first false e₁ false e₂ s e₃ t e₄ =
        let some : (whole == 0) ≡ false = grind (arith, common_steps) in
        let large : nat_lt r 2 ≡ false = grind (arith, common_steps) in
        let inside : nat_lt r 6 ≡ true = grind (arith, common_steps) in
        let here : is_present (c.spot (Ephemeral (r - 2))) ≡ not (n == 0) = named (at_least r large) in
        rw (e₁, e₂, inside, some, large, here) refl

pub ephemeral_test : (w : Words) (k : ℕ) → k < 4 → IsPackedEphemerals w.ephemerals →
    is_ephemeral_right (configuration_of w) k
    ≡ (field_of w.ephemerals (8 * k) 8 == 0
    || (not (field_of w.ephemerals (8 * k) 3 == 0)
    && (nat_lt (field_of w.ephemerals (8 * k + 5) 3) 2 || not (field_of w.ephemerals (8 * (field_of w.ephemerals (8 * k + 5) 3 - 2)) 3 == 0))))
unfolding configuration_of
ephemeral_test w k h p =
    let inside : nat_lt k 4 ≡ true = grind (arith, common_steps) in
    rw (inside, present_number (field_of w.ephemerals (8 * k) 3), inactive_number (field_of w.ephemerals (8 * k + 3) 2))
    (numbers_right (configuration_of w) (field_of w.ephemerals (8 * k) 3) (field_of w.ephemerals (8 * k + 3) 2) (field_of w.ephemerals (8 * k + 5) 3)
    (field_of w.ephemerals (8 * (field_of w.ephemerals (8 * k + 5) 3 - 2)) 3) (field_of w.ephemerals (8 * k) 8)
    (ephemeral_sum w.ephemerals (8 * k)) (p.remotes k h) (named (field_of w.ephemerals (8 * k + 5) 3) (p.remotes k h)))
  where
    named : (r : ℕ) → r ≤ 5 → 2 ≤ r → is_present ((configuration_of w).spot (Ephemeral (r - 2))) ≡ not (field_of w.ephemerals (8 * (r - 2)) 3 == 0)
    named r l g =
        let below : nat_lt (r - 2) 4 ≡ true = grind (arith, common_steps) in
        rw below (present_number (field_of w.ephemerals (8 * (r - 2)) 3))
