-- One more choice.
use Rattle.std.proofs.Common.{◌∙◌, ◌*◌, ◌/◌, ◌%◌, ◌+◌, map, drop, ap, ap₂, sym}
use Rattle.std.specs.List.{slice_index_or}
use Rattle.mg_model.specs.Entries.{chosen, same_choice}
use Rattle.configuration.specs.Config.{configuration_of}
use Rattle.configuration.proofs.NumberLemmas.{at}
use Rattle.entry_table.specs.Listed.{choices_of, size_of}
use Rattle.entry_table.specs.Shown.{shown, shown_all}
use Rattle.entry_table.proofs.Products.{factors}
use Rattle.entry_table.proofs.entry.choose_all.Goals as goal

pub loop-component-preserved : goal.loop-component-preserved
loop-component-preserved c =
    let i = c.loop-component.component-index in
    let component = c.component-item.result in
    let left = c.loop-component.left in
    let more = drop (i + 1) c.args.components.now in
    let before = configuration_of c.loop-component.config in
    let here = at c.args.components.now i component c.loop-component-test.true c.component-item.is in
    let f = factors c.count.result (size_of (shown_all more)) c.loop-component.rest
    (c.loop-component.invariant.size ∙ ap (λ xs. size_of (shown_all xs)) here ∙ ap (λ n. n * size_of (shown_all more)) (sym c.count.ensures))
    c.loop-component.invariant.some in
    record {
      some = rw f.2 f.1;
      size = f.2;
      made = ap₂ (λ r config. chosen (map choices_of (shown_all more)) (left % r) config) f.2
          (c.choose.ensures ∙ ap (λ r. (slice_index_or (choices_of (shown component)) (left / r) same_choice) before) f.2)
          ∙ sym (ap (λ xs. chosen (map choices_of (shown_all xs)) left before) here) ∙ c.loop-component.invariant.made;
    }
