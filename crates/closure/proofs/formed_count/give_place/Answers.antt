-- One component more doesn't give it; then none does.
use Rattle.std.proofs.Common.{◌≡◌, List, Contains, refl, sym, subst, arith}
use Rattle.std.proofs.lemmas.List.{take_all}
use Rattle.mg_model.specs.declared.components.Spot.{Spot}
use Rattle.mg_model.specs.Entries.{Component, spots}
use Rattle.entry_table.specs.Shown.{shown, shown_all}
use Rattle.closure.proofs.ListsSoFar.{as_many, few_and_one, none_of_few, shown_at}
use Rattle.closure.proofs.formed_count.give_place.Goals as goal

pub loop-component-init : goal.loop-component-init
loop-component-init c =
    none_of_few (λ (component : Component). (values : List Spot) → component ≡ spots c.args.termination.now values → ⊥) (shown_all c.args.components.now)

pub loop-component-preserved : goal.loop-component-preserved
loop-component-preserved c =
    let items = c.args.components.now in
    let i = c.loop-component.component-index in
    few_and_one (λ (component : Component). (values : List Spot) → component ≡ spots c.args.termination.now values → ⊥)
    (shown_all items) i (shown c.component-item.result)
    (shown_at items i c.component-item.result c.loop-component-test.true (sym c.component-item.is)) (omega (arith, c.loop-component-test.true, as_many items))
    c.loop-component.invariant (c.is_place_of.ensures c.if-is_place_of.false)

pub returns : goal.returns
returns c none values has =
    let items = c.args.components.now in
    c.loop-component.invariant (spots c.args.termination.now values)
    (subst (λ (xs : List Component). Contains xs (spots c.args.termination.now values))
    (sym (take_all c.loop-component.component-index (shown_all items) (omega (arith, c.loop-component-test.false, as_many items)))) has)
    values refl
