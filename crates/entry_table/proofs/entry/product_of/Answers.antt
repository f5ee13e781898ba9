-- One more factor, and none at the end.
use Rattle.std.proofs.Common.{◌≡◌, ◌∙◌, ◌-◌, ◌*◌, ◌^◌, ◌+◌, min, drop, ap, sym, arith}
use Rattle.std.proofs.lemmas.List.{drop_all}
use Rattle.entry_table.specs.Listed.{size_of}
use Rattle.entry_table.specs.Shown.{shown_all}
use Rattle.entry_table.proofs.Products.{capped_step, times_one}
use Rattle.entry_table.proofs.entry.product_of.Goals as goal
use Rattle.configuration.proofs.NumberLemmas.{at}

pub loop-component-preserved : goal.loop-component-preserved
loop-component-preserved c =
    let i = c.loop-component.component-index in
    let rest = size_of (shown_all (drop (i + 1) c.args.components.now)) in
    let here = at c.args.components.now i c.component-item.result c.loop-component-test.true c.component-item.is in
    let factor : c.count.result * rest ≡ size_of (shown_all (drop i c.args.components.now)) =
    ap (λ n. n * rest) c.count.ensures ∙ sym (ap (λ xs. size_of (shown_all xs)) here) in
    record {
      fits = omega (arith, c.saturating_mul-size.ensures);
      product = ap (λ s. min (s * rest) (2 ^ 64 - 1)) c.saturating_mul-size.ensures
          ∙ capped_step (2 ^ 64 - 1) c.loop-component.size c.count.result rest
          ∙ ap (λ k. min (c.loop-component.size * k) (2 ^ 64 - 1)) factor ∙ c.loop-component.invariant.product;
    }

pub returns : goal.returns
returns c =
    let none = drop_all c.loop-component.component-index c.args.components.now c.loop-component-test.false in
    times_one (2 ^ 64 - 1) c.loop-component.size c.loop-component.invariant.fits
    ∙ ap (λ xs. min (c.loop-component.size * size_of (shown_all xs)) (2 ^ 64 - 1)) (sym none) ∙ c.loop-component.invariant.product
