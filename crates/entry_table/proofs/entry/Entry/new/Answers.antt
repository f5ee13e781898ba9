-- The size is counted, and what is kept beside the components is made of them.
use Rattle.std.proofs.Common.{◌≡◌, ◌∙◌, ◌-◌, ◌^◌, List, ap, min, subst}
use Rattle.mg_model.specs.Configuration.{Configuration}
use Rattle.configuration.specs.Config.{configuration_of}
use Rattle.entry_table.specs.declared.component.Component as declared
use Rattle.entry_table.specs.Listed.{size_of}
use Rattle.mg_model.specs.Entries.{Component as Listed}
use Rattle.entry_table.specs.Regions.{IsRegion}
use Rattle.entry_table.specs.Shown.{shown_all}
use Rattle.entry_table.specs.Turned.{IsTurned}
use Rattle.entry_table.proofs.Products.{fitting}
use Rattle.entry_table.proofs.entry.Entry.new.Goals as goal

pub invariant_of-result : goal.invariant_of-result
invariant_of-result c =
    let turned = c.in_ok-turned.turned in
    let all : List Listed = shown_all c.args.components.items in
    let is : IsTurned all (configuration_of c.unused-first.result) (shown_all turned.components.items) (configuration_of turned.base) =
    rw c.as_slice.ensures.value at c.in_ok-turned.ensures in
    let size : c.product_of-product.result ≡ size_of all =
    fitting (size_of all) c.product_of-product.result c.requires.within
    (c.product_of-product.ensures ∙ ap (λ (cs : List declared.Component). min (size_of (shown_all cs)) (2 ^ 64 - 1)) c.as_slice-2.ensures.value
    ∙ ap (λ n. min n (2 ^ 64 - 1)) is.size) in (
      c.requires.lines,
      rw size c.requires.some,
      size,
      subst (λ (first : Configuration). IsTurned all first (shown_all turned.components.items) (configuration_of turned.base)) c.unused-first.ensures is,
      subst (λ (cs : List declared.Component). IsRegion c.in_ok-region.region c.args.state (shown_all cs)) c.as_slice-3.ensures.value c.in_ok-region.ensures,
    )
