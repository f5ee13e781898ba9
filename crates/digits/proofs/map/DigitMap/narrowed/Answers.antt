use Rattle.std.proofs.Common.{◌≡◌, ◌<◌, ◌≤◌, ◌∙◌, sym, ap, length, arith}
use Rattle.std.proofs.lemmas.List.{length-map}
use Rattle.digits.proofs.Remaining.{shows_more, few}
use Rattle.digits.proofs.map.DigitMap.narrowed.Goals as goal

pub returns : goal.returns
returns c =
    let len : length c.alternatives-alternatives.result.now ≡ length c.args.self.now = sym (length-map c.alternatives-alternatives.result.now (λ a. a.items)) ∙ ap length c.alternatives-alternatives.ensures.value in
    let le : length c.args.self.now ≤ length c.loop-index.left = omega (arith, few c.args.self.now c.alternatives-alternatives.ensures.short, c.loop-index.invariant.0) in
    shows_more c.args.self.now c.args.remaining.now c.loop-index.left c.args.symbols.now c.args.symbol c.requires le
    (λ k lt.
    let within : k < c.loop-index.index = grind (arith, len, lt, c.loop-index-test.false) in
    rw (← c.alternatives-alternatives.ensures.value, ← c.len-count.ensures.value) (c.loop-index.invariant.1 k within))
