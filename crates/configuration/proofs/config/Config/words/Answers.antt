-- Each word is the sum of its fields.
use Rattle.std.proofs.Common.{◌≡◌, ℕ, ◌+◌, ◌-◌, ◌≤◌, arith, refl, sym, ◌∙◌}
use Rattle.configuration.specs.Words.{words_of}
use Rattle.configuration.proofs.WordLemmas.{first_back, second_back, second_whole}
use Rattle.configuration.proofs.PairLemmas.{third_back}
use Rattle.configuration.proofs.config.Config.words.Goals as goal

-- a part is no more than the sum, and the sum less the part is the rest
part_of : (part sum rest known whole : ℕ) → rest + known ≡ whole → part ≡ known → sum ≡ whole → part ≤ sum
part_of part sum rest known whole p q r = omega arith

rest_of : (part sum rest known whole : ℕ) → rest + known ≡ whole → part ≡ known → sum ≡ whole → sum - part ≡ rest
rest_of part sum rest known whole p q r = omega arith

pub overflow_sub-result : goal.overflow_sub-result
overflow_sub-result c =
    part_of _ _ _ _ _ (first_back c.args.self.now c.lines_word-lines.ensures.packed.lines)
    (rw c.lines_word-lines.ensures.value at c.absences.ensures.value) (rw c.lines_word-lines.ensures.value at c.field.ensures.value)

pub returns : goal.returns
unfolding words_of
returns c =
    let first = rest_of _ _ _ _ _ (first_back c.args.self.now c.lines_word-lines.ensures.packed.lines)
    (rw c.lines_word-lines.ensures.value at c.absences.ensures.value) (rw c.lines_word-lines.ensures.value at c.field.ensures.value) in
    let packed = c.lines_word-lines.ensures.packed.ephemerals in
    let whole = second_whole c.args.self.now.ephemerals (rw c.ephemerals_word.ensures.value at c.ephemerals_word.type_inv) packed in
    let second = c.ephemerals_word.ensures.value ∙ sym whole ∙ sym (second_back c.args.self.now packed) in
    let third = (rw c.cuts_word.ensures.value at c.field-2.ensures.value) ∙ sym (third_back c.args.self.now) in
    rw (first, second, third) refl
