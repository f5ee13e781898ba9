-- One component more has the value, and what it had; at the end none is left.
use Rattle.std.proofs.Common.{◌≡◌, ◌∙◌, ◌+◌, ◌++◌, List, drop, append-nil, sym, ap, subst, rules}
use Rattle.std.specs.List.{All}
use Rattle.mg_model.specs.Entries.{Allows}
use Rattle.configuration.specs.Config.{configuration_of}
use Rattle.entry_table.specs.Shown.{shown_all}
use Rattle.entry_table.specs.declared.component.Component.{Component}
use Rattle.explanation.specs.Alone.{bare_all}
use Rattle.explanation.proofs.Lacks.{drop_past}
use Rattle.explanation.proofs.Single.{all_shown, shown_each}
use Rattle.explanation.proofs.Widths.{AreWidenedWith, bare_next, widened_end, widened_next, widened_none}
use Rattle.explanation.proofs.widened.widened_components.Goals as goal

pub loop-component-init : goal.loop-component-init
loop-component-init c = record {
  have = search rules;
  keep = search rules;
  sizes = widened_none (configuration_of c.args.config.now) c.args.components.now c.new-wide.result.items (search rules);
  which = search rules;
}

pub loop-component-preserved : goal.loop-component-preserved
loop-component-preserved c =
    let C = configuration_of c.args.config.now in
    let all = c.args.components.now in
    let place = c.loop-component.component-index in
    let one = c.component-item.result in
    let wide = c.loop-component.wide.items in
    let more = c.in_ok-widened_component.field-0 in
    let told = c.in_ok-widened_component.ensures in
    let before = c.loop-component.invariant in
    record {
      have = subst (λ (xs : List Component). All (Allows C) (shown_all xs)) (sym c.in_ok-push.ensures.items)
          (all_shown (Allows C) wide more before.have told.has);
      keep = λ d each. subst (λ (xs : List Component). All (Allows d) (shown_all xs)) (sym c.in_ok-push.ensures.items)
          (all_shown (Allows d) wide more (before.keep d each) (told.keeps d
          (shown_each (Allows d) all place one c.loop-component-test.true c.component-item.is each)));
      sizes = subst (AreWidenedWith C all (place + 1)) (sym c.in_ok-push.ensures.items)
          (widened_next C all place one wide more c.loop-component-test.true c.component-item.is told.counts before.sizes);
      which = subst (λ (xs : List Component). bare_all xs ++ bare_all (drop (place + 1) all) ≡ bare_all all) (sym c.in_ok-push.ensures.items)
          (bare_next all place one c.loop-component-test.true c.component-item.is wide more told.which before.which);
    }

pub returns-clause-sizes : goal.returns-clause-sizes
returns-clause-sizes c =
    widened_end (configuration_of c.args.config.now) c.args.components.now c.loop-component.component-index c.loop-component.wide.items
    (drop_past c.args.components.now c.loop-component.component-index c.loop-component-test.false) c.loop-component.invariant.sizes

pub returns-clause-which : goal.returns-clause-which
returns-clause-which c =
    let none = drop_past c.args.components.now c.loop-component.component-index c.loop-component-test.false in
    sym (append-nil (bare_all c.loop-component.wide.items))
    ∙ ap (λ (ys : List Component). bare_all c.loop-component.wide.items ++ bare_all ys) (sym none) ∙ c.loop-component.invariant.which
