-- The walk ends at the first wrong pair, or with none left.
use Rattle.std.proofs.Common.{◌<◌, arith, sym, ◌∙◌, rules}
use Rattle.std.specs.Int.{trailing_zeros, w64}
use Rattle.configuration.proofs.CutLemmas.{lowest, lowest_small, off_less, walked_on, walked_all, right_bit}
use Rattle.configuration.proofs.cuts.are_cuts_right.Goals as goal

pub returns-then-not-is_bit_right : goal.returns-then-not-is_bit_right
returns-then-not-is_bit_right c =
    let some : 0 < c.loop-left.left = omega arith in
    let place = trailing_zeros w64 c.loop-left.left in
    let bit = lowest c.loop-left.left some c.loop-left.invariant.fits in (
      λ bad t u cut. cc,
      λ right. sym c.if-not-is_bit_right.true ∙ c.is_bit_right.ensures
          ∙ right_bit c.args.config.now right place (lowest_small c.loop-left.left some c.loop-left.invariant.fits) (c.loop-left.invariant.within place bit),
    )

pub loop-left-smaller : goal.loop-left-smaller
loop-left-smaller c =
    let some : 0 < c.loop-left.left = omega arith in
    off_less c.put-left.result c.loop-left.left (trailing_zeros w64 c.loop-left.left) (lowest_small c.loop-left.left some c.loop-left.invariant.fits)
    c.put-left.type_inv c.loop-left.invariant.fits c.put-left.ensures (lowest c.loop-left.left some c.loop-left.invariant.fits)

pub loop-left-preserved : goal.loop-left-preserved
loop-left-preserved c =
    walked_on c.args.config.now c.loop-left.left c.put-left.result (trailing_zeros w64 c.loop-left.left) c.loop-left.invariant c.put-left.ensures
    c.put-left.type_inv (sym c.is_bit_right.ensures ∙ c.if-not-is_bit_right.false)

pub returns : goal.returns
returns c = (
  λ yes. walked_all c.args.config.now c.loop-left.left c.loop-left.invariant (omega arith),
  λ right. search rules,
)
