-- It gives one more; then all.
use Rattle.std.proofs.Common.{◌∙◌, ◌+◌, List, refl, subst, sym, take}
use Rattle.std.proofs.lemmas.Fn.{says_at}
use Rattle.std.proofs.lemmas.List.{take_all}
use Rattle.std.proofs.lemmas.List.Elements.{all_zip_more}
use Rattle.std.specs.Fn.{FnReturnsAt}
use Rattle.std.specs.List.{AllZip}
use Rattle.configuration.specs.Packed.{Words}
use Rattle.closure.proofs.hull.Hull.map.Goals as goal

pub loop-config-preserved : goal.loop-config-preserved
loop-config-preserved g c =
    let items = c.as_slice-config-items.result.now in
    let at = c.loop-config in
    subst (AllZip (FnReturnsAt g.F.Fn c.args.given) (take (at.config-index + 1) items)) (sym c.in_ok-push.ensures)
    (all_zip_more (FnReturnsAt g.F.Fn c.args.given) items at.made at.config-index c.config-item.result c.given.result c.loop-config-test.true c.config-item.is
    at.invariant (says_at g.F.Fn c.given.ensures refl))

pub returns : goal.returns
returns g c =
    subst (λ (words : List Words). AllZip (FnReturnsAt g.F.Fn c.args.given) words c.loop-config.made)
    (take_all c.loop-config.config-index c.as_slice-config-items.result.now c.loop-config-test.false ∙ c.as_slice-config-items.ensures)
    c.loop-config.invariant
