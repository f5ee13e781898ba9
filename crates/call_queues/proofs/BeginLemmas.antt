-- What the first share of a queue knows while calls are begun by their rising numbers: each is begun and put once, and none is taken.
use Rattle.std.proofs.Common.{◌≡◌, ◌+◌, ◌≤◌, ◌++◌, ℕ, [], ◌∷◌, length, refl, sym, subst, arith}
use Rattle.std.proofs.lemmas.List.{length-append}
use Rattle.handover.proofs.Counts.{times_append, times_none}
use Rattle.handover.specs.Hands.{all_parts, hand, times}
use Rattle.handover.specs.declared.hand.Hand.{Hand}
use Rattle.call_queues.specs.Passing.{HoldsNothing}
use Rattle.call_queues.proofs.AccountLemmas.{times_above}

-- all calls below a number that are there were begun, each once
pub record Begins (v : Hand) (number : ℕ) : Type 0 where
  pub parts : v.parts ≡ all_parts
  pub taken : v.taken ≡ []
  pub nothing : HoldsNothing v
  pub new : (n : ℕ) → number ≤ n → times n v.begun ≡ 0
  pub few : length v.put ≤ number

pub none_begun : (v : Hand) → v ≡ hand all_parts [] [] [] → Begins v 0
none_begun v is = subst (λ (u : Hand). Begins u 0) (sym is) (record {
  parts = refl;
  taken = refl;
  nothing = λ n. omega (arith, times_none n);
  new = λ n above. times_none n;
  few = omega arith;
})

-- the one with this number is begun
pub one_begun : (v w : Hand) (number : ℕ) → Begins v number → w ≡ hand all_parts (v.begun ++ number ∷ []) (v.put ++ number ∷ []) v.taken
    → Begins w (number + 1)
one_begun v w number was is = subst (λ (u : Hand). Begins u (number + 1)) (sym is) (record {
  parts = refl;
  taken = was.taken;
  nothing = λ n. omega (arith, was.nothing n, times_append n v.begun (number ∷ []), times_append n v.put (number ∷ []));
  new = λ n above. omega (arith, was.new n (omega arith), times_append n v.begun (number ∷ []), times_above n number (omega arith));
  few = omega (arith, was.few, length-append v.put (number ∷ []));
})

-- there is none with this number
pub one_missing : (v : Hand) (number : ℕ) → Begins v number → Begins v (number + 1)
one_missing v number was = record {
  parts = was.parts;
  taken = was.taken;
  nothing = was.nothing;
  new = λ n above. was.new n (omega arith);
  few = omega (arith, was.few);
}
