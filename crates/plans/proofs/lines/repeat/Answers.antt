-- No line at first, and one line more.
use Rattle.std.proofs.Common.{◌∙◌, ℕ, List, ap, sym}
use Rattle.mg_model.specs.Members.{is_among}
use Rattle.plans.proofs.LineLemmas.{goes_on, holds_more, numbers_of, twice_from_left}
use Rattle.plans.proofs.lines.repeat.Goals as goal

pub loop-line-init : goal.loop-line-init
loop-line-init c = (λ n. ap (λ (keys : List ℕ). is_among keys n) c.new-seen.ensures.empty, twice_from_left (numbers_of c.args.lines.now))

pub loop-line-preserved : goal.loop-line-preserved
loop-line-preserved c =
    let lines = c.args.lines.now in
    let i = c.loop-line.line-index in (
      holds_more lines i _ c.loop-line-test.true c.loop-line.seen.keys c.add.new.numbers.keys c.loop-line.invariant.0 c.in_ok-add.ensures.added,
      goes_on lines i _ c.loop-line-test.true c.loop-line.seen.keys c.loop-line.invariant.0 c.loop-line.invariant.1
          (sym c.in_ok-add.ensures.answer ∙ c.if-not-branch.false),
    )
