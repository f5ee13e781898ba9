use Rattle.std.proofs.Common.{◌≡◌, ◌<◌, ◌≤◌, ◌∙◌, [], sym, ap, length, arith}
use Rattle.std.proofs.lemmas.List.{length-map}
use Rattle.mg_model.specs.DigitMaps.{matches}
use Rattle.digits.proofs.Remaining.{position_here, position_past}
use Rattle.digits.proofs.map.DigitMap.first_match.Goals as goal

pub returns-then-matches_at : goal.returns-then-matches_at
returns-then-matches_at c =
    let len : length c.alternatives-place-end.result.now ≡ length c.args.self.now = sym (length-map c.alternatives-place-end.result.now (λ a. a.items)) ∙ ap length c.alternatives-place-end.ensures.value in
    let lt : c.loop-place.place < length c.args.self.now = grind (arith, len, c.loop-place-test.true) in
    sym (position_here (λ positions. matches positions c.args.symbols.now) c.args.self.now c.loop-place.place [] lt c.loop-place.invariant (sym c.if-matches_at.ensures))

pub returns : goal.returns
returns c =
    let len : length c.alternatives-place-end.result.now ≡ length c.args.self.now = sym (length-map c.alternatives-place-end.result.now (λ a. a.items)) ∙ ap length c.alternatives-place-end.ensures.value in
    let le : length c.args.self.now ≤ c.loop-place.place = grind (arith, len, c.loop-place-test.false) in
    sym (position_past (λ positions. matches positions c.args.symbols.now) c.args.self.now c.loop-place.place [] le c.loop-place.invariant)
