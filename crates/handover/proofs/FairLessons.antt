-- What a share with all parts learns of what stands in the queue: the rule, with what it did itself in place of what all did.
use Rattle.std.proofs.Common.{◌≡◌, ◌+◌, ℕ, List, [], length, refl, sym, ◌∙◌, arith}
use mathlib.Core.Option.{some}
use lib.ListN.{get_elem?}
use Rattle.crossbeam_queue.specs.Fifo.{Learns}
use Rattle.handover.specs.Hands.{IsFair, LearnsAll, hand, numbers_of, times, total}
use Rattle.handover.specs.declared.hand.Hand.{Hand}
use Rattle.handover.proofs.Counts.{times_none, total_whole}
use Rattle.handover.proofs.FairSteps.{Rule}

stand : (items : List ℕ) (views : List Hand) (share : ℕ) (v : Hand) → IsFair items views → get_elem? views share ≡ some v → LearnsAll v items
stand items views share v fair at whole = record {
  balanced = balanced;
  counted = omega (arith, fair.counted, own (λ u. length u.put) refl, own (λ u. length u.taken) refl);
  once = λ n. omega (arith, balanced n, (fair.each share v at).held n, fair.once n, own (λ u. times n u.begun) (times_none n));
}
  where
    own : (f : Hand → ℕ) → f (hand 0 [] [] []) ≡ 0 → total f views ≡ f v
    own f nothing = total_whole f nothing views share v fair.each at (fair.parts ∙ sym whole)

    balanced : (n : ℕ) → times n v.put ≡ times n v.taken + times n items
    balanced n = omega (arith, fair.balanced n, own (λ u. times n u.put) (times_none n), own (λ u. times n u.taken) (times_none n))

pub learns : {T : Type 0} (share : ℕ) (v : Hand) → Learns (Rule {T = T}) share v (λ items. LearnsAll v (numbers_of items))
learns share v items views fair at = stand (numbers_of items) views share v fair at
