-- The walk ends at the first set that hasn't the value, or with none left.
use Rattle.std.proofs.Common.{◌≡◌, ◌+◌, Bool, true, false, ◌&&◌, drop, refl, sym, ap, ◌∙◌}
use Rattle.std.specs.List.{list_all}
use Rattle.std.proofs.lemmas.List.{drop_all}
use Rattle.configuration.specs.Regions.{ValueSet, is_in}
use Rattle.configuration.proofs.NumberLemmas.{at}
use Rattle.configuration.proofs.value_set.are_in.Goals as goal

pub loop-set-init : goal.loop-set-init
loop-set-init c = refl

pub loop-set-preserved : goal.loop-set-preserved
loop-set-preserved c =
    let test : ValueSet → Bool = λ set. is_in set c.args.config.now in
    let here = at c.args.sets.now c.loop-set.set-index c.set-item.result c.loop-set-test.true c.set-item.is in
    let passes : test c.set-item.result ≡ true = sym (c.has_word.ensures c.args.config.now c.words_of-words.ensures.words) ∙ c.if-not-has_word.false in
    sym (ap (list_all test) here ∙ ap (λ b. b && list_all test (drop (c.loop-set.set-index + 1) c.args.sets.now)) passes)
    ∙ c.loop-set.invariant

pub returns-then-not-has_word : goal.returns-then-not-has_word
returns-then-not-has_word c =
    let test : ValueSet → Bool = λ set. is_in set c.args.config.now in
    let here = at c.args.sets.now c.loop-set.set-index c.set-item.result c.loop-set-test.true c.set-item.is in
    let fails : test c.set-item.result ≡ false = sym (c.has_word.ensures c.args.config.now c.words_of-words.ensures.words) ∙ c.if-not-has_word.true in
    sym (sym c.loop-set.invariant ∙ ap (list_all test) here
    ∙ ap (λ b. b && list_all test (drop (c.loop-set.set-index + 1) c.args.sets.now)) fails)

pub returns : goal.returns
returns c =
    let test : ValueSet → Bool = λ set. is_in set c.args.config.now in
    let none = drop_all c.loop-set.set-index c.args.sets.now c.loop-set-test.false in
    sym (sym c.loop-set.invariant ∙ ap (list_all test) none)
