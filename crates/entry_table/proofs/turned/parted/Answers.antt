-- One component more was parted; at the end, all.
use Rattle.std.proofs.Common.{◌≡◌, ◌∷◌, ◌+◌, List, ap, subst, drop}
use Rattle.mg_model.specs.Entries.{Component as Listed}
use Rattle.configuration.specs.Config.{configuration_of}
use Rattle.configuration.proofs.NumberLemmas.{at}
use Rattle.entry_table.specs.Shown.{shown, shown_all}
use Rattle.entry_table.specs.Turned.{IsParted}
use Rattle.entry_table.proofs.turned.parted.Goals as goal

pub loop-component-preserved : goal.loop-component-preserved
loop-component-preserved c =
    let components = c.args.components.now in
    let i = c.loop-component.component-index in
    let turned = c.loop-component.turned in
    let here : shown_all (drop i components) ≡ shown c.component-item.result ∷ shown_all (drop (i + 1) components) =
    ap shown_all (at components i c.component-item.result c.loop-component-test.true c.component-item.is) in
    c.in_ok-take.ensures (shown_all components) (shown_all (drop (i + 1) components)) (configuration_of c.args.first)
    (subst (λ (rest : List Listed). IsParted (shown_all components) (configuration_of c.args.first) rest (shown_all turned.components.items) (configuration_of turned.base) turned.above)
    here c.loop-component.invariant)
