-- The lines of the script are among the four.
use Rattle.std.proofs.Common.{arith, rules}
use Rattle.configuration.specs.Config.{configuration_of}
use Rattle.closure.proofs.obligations.joined_are_marked.Goals as goal

pub returns-then-are_none : goal.returns-then-are_none
returns-then-are_none c = (
  λ marked i j hi hj joined.
      absurd (c.are_none.ensures c.if-are_none.true (configuration_of c.args.config.now) c.of-ways.ensures i j (omega (arith, hi, c.lines-lines.ensures.value, c.lines-lines.ensures.few))
      (omega (arith, hj, c.lines-lines.ensures.value, c.lines-lines.ensures.few)) joined),
  λ all. search rules,
)

pub returns : goal.returns
returns c = (
  λ marked i j hi hj joined.
      (c.lines_are_marked.ensures.0 marked) i (omega (arith, c.lines-lines.ensures.value, c.lines-lines.ensures.few)) j (omega (arith, c.lines-lines.ensures.value, c.lines-lines.ensures.few))
      (omega (arith, c.lines-lines.ensures.value)) (omega (arith, c.lines-lines.ensures.value)) joined,
  λ all. c.lines_are_marked.ensures.1
      (λ i hi j hj li lj joined. all i j (omega (arith, c.lines-lines.ensures.value)) (omega (arith, c.lines-lines.ensures.value)) joined),
)
