-- One component was given its value, or is kept.
use Rattle.std.proofs.Common.{◌≡◌, ◌∙◌, ◌++◌, ◌∷◌, [], List, true, ap, sym, subst, arith}
use Rattle.std.proofs.lemmas.List.{map-append}
use Rattle.mg_model.specs.Configuration.{Configuration}
use Rattle.mg_model.specs.Entries.{Component as Listed}
use Rattle.configuration.specs.Config.{configuration_of}
use Rattle.entry_table.specs.Shown.{shown, shown_all}
use Rattle.entry_table.specs.Turned.{IsTurned, are_below}
use Rattle.entry_table.proofs.TurnedLemmas.{one_given, one_kept}
use Rattle.entry_table.proofs.turned.take.Goals as goal

pub returns-then-is_fixed : goal.returns-then-is_fixed
returns-then-is_fixed c all rest first parted =
    let kept : List Listed = shown_all c.args.turned.now.components.items in
    let fixed = c.is_fixed.ensures c.if-is_fixed.true in (
      subst (λ (base : Configuration). IsTurned all first (kept ++ rest) base) (sym c.give.ensures)
          (one_given all kept rest (shown c.args.component.now) c.args.turned.now.above first (configuration_of c.args.turned.now.base) fixed.0 fixed.1 parted.1 parted.0),
      parted.1,
    )

pub returns : goal.returns
returns c all rest first parted =
    let before = c.args.turned.now.components.items in
    let kept : List Listed = shown_all before in
    let component : Listed = shown c.args.component.now in
    let items : shown_all c.push.new.self.items ≡ kept ++ component ∷ [] =
    ap shown_all c.in_ok-push.ensures.items ∙ map-append shown before (c.in_ok-again.field-0 ∷ []) ∙ ap (λ (x : Listed). kept ++ x ∷ []) c.in_ok-again.ensures in
    let next = c.max-turned.ensures in
    let here = c.number_of.ensures.value in
    let now = one_kept all kept rest component c.args.turned.now.above c.max-turned.result first (configuration_of c.args.turned.now.base)
    (omega (arith, next)) (omega (arith, next, here)) parted in (
      subst (λ (cs : List Listed). IsTurned all first (cs ++ rest) (configuration_of c.args.turned.now.base)) (sym items) now.0,
      subst (λ (cs : List Listed). are_below c.max-turned.result cs ≡ true) (sym items) now.1,
    )
