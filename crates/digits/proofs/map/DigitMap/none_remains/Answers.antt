use Rattle.std.proofs.Common.{◌≡◌, sym, ◌∙◌, ap, length, not}
use Rattle.std.proofs.lemmas.List.{length-map}
use Rattle.digits.proofs.Remaining.{none_left, within_limit}
use Rattle.digits.proofs.map.DigitMap.none_remains.Goals as goal

pub returns-clause-value : goal.returns-clause-value
returns-clause-value c =
    let len : length c.alternatives-count.result.now ≡ length c.args.self.now = sym (length-map c.alternatives-count.result.now (λ a. a.items)) ∙ ap length c.alternatives-count.ensures.value in
    λ symbols shows. rw (c.any_remains.ensures, len) (none_left c.args.self.now c.args.remaining.now symbols shows)

pub returns-clause-short : goal.returns-clause-short
returns-clause-short c =
    let len : length c.alternatives-count.result.now ≡ length c.args.self.now = sym (length-map c.alternatives-count.result.now (λ a. a.items)) ∙ ap length c.alternatives-count.ensures.value in
    λ symbols shows e. within_limit c.args.self.now c.args.remaining.now symbols c.alternatives-count.ensures.short shows (rw (← len) (sym (ap not c.any_remains.ensures) ∙ e))
