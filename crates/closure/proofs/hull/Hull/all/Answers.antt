-- It holds of one more; then of all.
use Rattle.std.proofs.Common.{◌∙◌, List, true, subst}
use Rattle.std.proofs.lemmas.Fn.{says_at}
use Rattle.std.proofs.lemmas.List.{take_all}
use Rattle.std.proofs.lemmas.List.Elements.{All-more}
use Rattle.std.specs.Fn.{FnReturnsAt}
use Rattle.std.specs.List.{All}
use Rattle.configuration.specs.Packed.{Words}
use Rattle.closure.proofs.hull.Hull.all.Goals as goal

pub loop-config-preserved : goal.loop-config-preserved
loop-config-preserved g c =
    All-more (λ (config : Words). FnReturnsAt g.F.Fn c.args.test config true) c.as_slice-config-items.result.now c.loop-config.config-index c.config-item.result
    c.loop-config-test.true c.loop-config.invariant
    (subst (λ (config : Words). FnReturnsAt g.F.Fn c.args.test config true) c.config-item.is (says_at g.F.Fn c.test.ensures c.if-not-test.false))

pub returns : goal.returns
returns g c holds =
    subst (λ (words : List Words). All (λ (config : Words). FnReturnsAt g.F.Fn c.args.test config true) words)
    (take_all c.loop-config.config-index c.as_slice-config-items.result.now c.loop-config-test.false ∙ c.as_slice-config-items.ensures)
    c.loop-config.invariant
