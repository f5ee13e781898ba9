-- Each word at its number.
use Rattle.std.proofs.Common.{ℕ, zero, suc, ◌≡◌, ◌∷◌, [], arith}
use Rattle.configuration.specs.Packed.{Words}
use Rattle.configuration.specs.Regions.{AreWordsOf}
use Rattle.configuration.proofs.value_set.words_of.Goals as goal

each_at_its_number : (w : Words) (a b c : ℕ) → a ≡ w.lines → b ≡ w.ephemerals → c ≡ w.cuts → AreWordsOf (a ∷ b ∷ c ∷ []) w
each_at_its_number w a b c lines ephemerals cuts zero below = lines
each_at_its_number w a b c lines ephemerals cuts (suc zero) below = ephemerals
each_at_its_number w a b c lines ephemerals cuts (suc (suc zero)) below = cuts
each_at_its_number w a b c lines ephemerals cuts (suc (suc (suc n))) below = absurd (omega arith)

pub returns-clause-words : goal.returns-clause-words
returns-clause-words c =
    each_at_its_number c.args.config.now c.config_word.result c.config_word-2.result c.config_word-3.result
    c.config_word.ensures.value c.config_word-2.ensures.value c.config_word-3.ensures.value
