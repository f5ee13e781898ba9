-- One component more narrows it.
use Rattle.std.proofs.Common.{◌≡◌, ◌∙◌, ◌++◌, ◌∷◌, [], ◌+◌, List, ap, sym, subst, take}
use Rattle.std.proofs.lemmas.List.{map-append, take_more}
use Rattle.mg_model.specs.Entries.{Component as Listed}
use Rattle.entry_table.specs.Shown.{shown, shown_all}
use Rattle.entry_table.proofs.SievedLemmas.{IsNarrowedBy, by_one_more}
use Rattle.entry_table.proofs.sieved.narrow_by.Goals as goal

pub loop-component-preserved : goal.loop-component-preserved
loop-component-preserved c =
    let components = c.components-component-items.result.now in
    let i = c.loop-component.component-index in
    let item = c.component-item.result in
    let here : shown_all (take i components) ++ shown item ∷ [] ≡ shown_all (take (i + 1) components) =
    sym (map-append shown (take i components) (item ∷ [])) ∙ ap shown_all (ap (λ x. take i components ++ x ∷ []) c.component-item.is ∙ sym (take_more components i item c.loop-component-test.true)) in
    subst (λ (cs : List Listed). IsNarrowedBy c.args.sieves.now c.narrow.new.self c.args.number cs) here
    (by_one_more c.args.sieves.now c.loop-component.sieves c.narrow.new.self c.args.number c.set_of.result (shown_all (take i components)) (shown item)
    c.in_ok-narrow.ensures.here c.in_ok-narrow.ensures.others c.narrow.ensures.count c.set_of.ensures c.loop-component.invariant)
