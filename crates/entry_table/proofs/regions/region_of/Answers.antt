-- One set more narrows it; at the end, all have.
use Rattle.std.proofs.Common.{◌≡◌, ◌∙◌, ◌++◌, ◌∷◌, [], ◌+◌, List, ap, sym, subst, take}
use Rattle.std.proofs.lemmas.List.{map-append, take_all, take_more}
use Rattle.mg_model.specs.Entries.{Component as Listed}
use Rattle.entry_table.specs.Regions.{IsRegion}
use Rattle.entry_table.specs.Shown.{shown, shown_all}
use Rattle.entry_table.proofs.RegionLemmas.{narrowed}
use Rattle.entry_table.proofs.regions.region_of.Goals as goal

pub loop-component-preserved : goal.loop-component-preserved
loop-component-preserved c =
    let components = c.args.components.now in
    let i = c.loop-component.component-index in
    let item = c.component-item.result in
    let here : shown_all (take i components) ++ shown item ∷ [] ≡ shown_all (take (i + 1) components) =
    sym (map-append shown (take i components) (item ∷ [])) ∙ ap shown_all (ap (λ x. take i components ++ x ∷ []) c.component-item.is ∙ sym (take_more components i item c.loop-component-test.true)) in
    subst (λ (cs : List Listed). IsRegion c.narrow.new.self c.args.state cs) here
    (narrowed c.loop-component.region c.narrow.new.self c.set_of.result c.args.state (shown_all (take i components)) (shown item) c.in_ok-narrow.ensures.within
    c.set_of.ensures c.loop-component.invariant)

pub returns : goal.returns
returns c =
    subst (λ (cs : List Listed). IsRegion c.loop-component.region c.args.state cs)
    (ap shown_all (take_all c.loop-component.component-index c.args.components.now c.loop-component-test.false)) c.loop-component.invariant
