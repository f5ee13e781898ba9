-- One component more is given its first value.
use Rattle.std.proofs.Common.{◌≡◌, ◌∙◌, ◌+◌, ◌∷◌, List, drop, sym, ap, arith}
use Rattle.std.proofs.lemmas.List.{drop_all}
use Rattle.mg_model.specs.Configuration.{Configuration}
use Rattle.mg_model.specs.Entries.{Component}
use Rattle.configuration.specs.Config.{configuration_of}
use Rattle.configuration.proofs.NumberLemmas.{at}
use Rattle.entry_table.specs.Shown.{shown, shown_all}
use Rattle.closure.specs.Hulls.{first_of}
use Rattle.closure.proofs.ListsSoFar.{as_many, shown_at}
use Rattle.closure.proofs.block_hull.first_of.Goals as goal

pub loop-component-preserved : goal.loop-component-preserved
loop-component-preserved c =
    let items = c.args.components.now in
    let i = c.loop-component.component-index in
    let component : Component = shown c.component-item.result in
    let current : Configuration = configuration_of c.loop-component.first in
    let here : drop i (shown_all items) ≡ component ∷ drop (i + 1) (shown_all items) =
    at (shown_all items) i component (omega (arith, c.loop-component-test.true, as_many items))
    (sym (shown_at items i c.component-item.result c.loop-component-test.true (sym c.component-item.is))) in
    ap (first_of (drop (i + 1) (shown_all items))) c.choose.ensures
    ∙ sym (ap (λ (rest : List Component). first_of rest current) here) ∙ c.loop-component.invariant

pub returns : goal.returns
returns c =
    let items = c.args.components.now in
    let i = c.loop-component.component-index in
    sym (ap (λ (rest : List Component). first_of rest (configuration_of c.loop-component.first))
    (drop_all i (shown_all items) (omega (arith, c.loop-component-test.false, as_many items)))) ∙ c.loop-component.invariant
