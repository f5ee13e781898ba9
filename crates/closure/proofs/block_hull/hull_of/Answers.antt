-- Each value of one component more is there; what these components make is in their hull.
use Rattle.std.proofs.Common.{ℕ, ◌<◌, List, length, map, sym, subst, arith, Contains}
use Rattle.std.specs.List.{slice_index_or}
use Rattle.std.proofs.lemmas.List.{take_all}
use Rattle.mg_model.specs.Configuration.{Configuration}
use Rattle.mg_model.specs.Entries.{Component, choices_of, same_choice}
use Rattle.configuration.specs.Config.{configuration_of}
use Rattle.entry_table.specs.Shown.{shown, shown_all}
use Rattle.closure.specs.Hulls.{HaveEach}
use Rattle.closure.proofs.BlockHulls.{all_in_hull}
use Rattle.closure.proofs.ListsSoFar.{as_many, few_and_one, none_of_few, shown_at}
use Rattle.closure.proofs.HullLemmas.{added_there}
use Rattle.closure.proofs.block_hull.hull_of.Goals as goal

pub loop-component-init : goal.loop-component-init
loop-component-init c = record {
  first = added_there configuration_of _ c.push.new.self c.first_of-first.result c.in_ok-push.ensures;
  each = none_of_few (λ (component : Component). (place : ℕ) → place < length (choices_of component)
      → Contains (map configuration_of c.push.new.self) ((slice_index_or (choices_of component) place same_choice) (configuration_of c.first_of-first.result)))
      (shown_all c.args.components.now);
}

pub loop-component-preserved : goal.loop-component-preserved
loop-component-preserved c =
    let items = c.args.components.now in
    let i = c.loop-component.component-index in
    record {
      first = c.in_ok-push_each.ensures.kept (configuration_of c.first_of-first.result) c.loop-component.invariant.first;
      each = few_and_one (λ (component : Component). (place : ℕ) → place < length (choices_of component)
          → Contains (map configuration_of c.push_each.new.hull) ((slice_index_or (choices_of component) place same_choice) (configuration_of c.first_of-first.result)))
          (shown_all items) i (shown c.component-item.result)
          (shown_at items i c.component-item.result c.loop-component-test.true (sym c.component-item.is)) (omega (arith, c.loop-component-test.true, as_many items))
          (λ component has place lt. c.in_ok-push_each.ensures.kept _ (c.loop-component.invariant.each component has place lt))
          c.in_ok-push_each.ensures.each;
    }

pub returns : goal.returns
returns c =
    let items = c.args.components.now in
    all_in_hull (map configuration_of c.loop-component.hull) (shown_all items) (configuration_of c.args.config.now)
    (subst (λ (d : Configuration). HaveEach (map configuration_of c.loop-component.hull) d (shown_all items)) c.first_of-first.ensures (record {
      first = c.loop-component.invariant.first;
      each = subst (λ (xs : List Component). (component : Component) → Contains xs component → (place : ℕ) → place < length (choices_of component)
          → Contains (map configuration_of c.loop-component.hull) ((slice_index_or (choices_of component) place same_choice) (configuration_of c.first_of-first.result)))
          (take_all c.loop-component.component-index (shown_all items) (omega (arith, c.loop-component-test.false, as_many items)))
          c.loop-component.invariant.each;
    }))
