-- It holds of this one, or not of one more; then of none.
use Rattle.std.proofs.Common.{◌∙◌, List, true, false, subst, sym, Contains}
use Rattle.std.proofs.lemmas.Fn.{says_at}
use Rattle.std.proofs.lemmas.List.{take_all}
use Rattle.std.proofs.lemmas.List.Elements.{All-more}
use Rattle.std.specs.Fn.{FnReturnsAt}
use Rattle.std.specs.List.{All}
use Rattle.configuration.specs.Packed.{Words}
use Rattle.closure.proofs.hull.Hull.find.Goals as goal

pub loop-config-preserved : goal.loop-config-preserved
loop-config-preserved g c =
    All-more (λ (config : Words). FnReturnsAt g.F.Fn c.args.test config false) c.as_slice-config-items.result.now c.loop-config.config-index c.config-item.result
    c.loop-config-test.true c.loop-config.invariant
    (subst (λ (config : Words). FnReturnsAt g.F.Fn c.args.test config false) c.config-item.is (says_at g.F.Fn c.test.ensures c.if-test.false))

pub returns-then-test-clause-some : goal.returns-then-test-clause-some
returns-then-test-clause-some g c = (
  subst (λ (words : List Words). Contains words c.config-item.result) c.as_slice-config-items.ensures
      (c.loop-config.config-index, c.loop-config-test.true, sym c.config-item.is),
  says_at g.F.Fn c.test.ensures c.if-test.true,
)

pub returns-clause-none : goal.returns-clause-none
returns-clause-none g c =
    subst (λ (words : List Words). All (λ (config : Words). FnReturnsAt g.F.Fn c.args.test config false) words)
    (take_all c.loop-config.config-index c.as_slice-config-items.result.now c.loop-config-test.false ∙ c.as_slice-config-items.ensures)
    c.loop-config.invariant
