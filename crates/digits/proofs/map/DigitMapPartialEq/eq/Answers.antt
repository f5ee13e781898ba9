-- By the comparison of the slices that hold the alternatives.
use Rattle.std.proofs.Common.{◌∙◌, sym}
use Rattle.std.specs.Cmp.Derive.Mapped.{pointwise-map}
use Rattle.std.specs.Cmp.Lexicographic.{pointwise}
use Rattle.digits.specs.Equality.{same_position}
use Rattle.digits.proofs.Equality.{same_alternatives_decides}
use Rattle.digits.proofs.map.DigitMapPartialEq.eq.Goals as goal

pub returns-clause-value : goal.returns-clause-value
returns-clause-value c =
    rw (← c.alternatives.ensures.value, ← c.alternatives-2.ensures.value) (c.eq.ensures ∙ sym (pointwise-map (λ a. a.items) (pointwise same_position) c.alternatives.result.now c.alternatives-2.result.now))

pub returns-clause-same : goal.returns-clause-same
returns-clause-same c = let e = returns-clause-value c in rw e (same_alternatives_decides c.args.self.now c.args.other.now)
