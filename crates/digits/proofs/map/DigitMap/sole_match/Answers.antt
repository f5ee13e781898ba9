use Rattle.std.proofs.Common.{◌≡◌, ◌∙◌, sym, ap, length, Some, None}
use Rattle.std.specs.Prelude.{if◌then◌else◌}
use Rattle.std.proofs.lemmas.List.{length-map}
use Rattle.digits.proofs.Remaining.{sole_by}
use Rattle.digits.proofs.map.DigitMap.sole_match.Goals as goal

pub returns-in_default : goal.returns-in_default
returns-in_default c =
    let len : length c.alternatives-count.result.now ≡ length c.args.self.now = sym (length-map c.alternatives-count.result.now (λ a. a.items)) ∙ ap length c.alternatives-count.ensures.value in
    sym (sole_by c.args.self.now c.args.remaining.now c.args.symbols.now None c.requires (rw (← len) c.in_default.ensures.value))

pub returns-then-not-matches_at : goal.returns-then-not-matches_at
returns-then-not-matches_at c =
    let len : length c.alternatives-count.result.now ≡ length c.args.self.now = sym (length-map c.alternatives-count.result.now (λ a. a.items)) ∙ ap length c.alternatives-count.ensures.value in
    sym (sole_by c.args.self.now c.args.remaining.now c.args.symbols.now (Some c.in-Some.place) c.requires (rw (← len) c.in-Some.ensures.value)
    ∙ ap (λ b. if b then Some c.in-Some.place else None) (sym c.if-not-matches_at.ensures))

pub returns : goal.returns
returns c =
    let len : length c.alternatives-count.result.now ≡ length c.args.self.now = sym (length-map c.alternatives-count.result.now (λ a. a.items)) ∙ ap length c.alternatives-count.ensures.value in
    sym (sole_by c.args.self.now c.args.remaining.now c.args.symbols.now (Some c.in-Some.place) c.requires (rw (← len) c.in-Some.ensures.value)
    ∙ ap (λ b. if b then Some c.in-Some.place else None) (sym c.if-not-matches_at.ensures))
