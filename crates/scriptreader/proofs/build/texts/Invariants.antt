use Rattle.std.proofs.Common.{◌≡◌, ◌++◌, map, drop, string_bytes}
use Rattle.scriptreader.proofs.build.texts.Given as goal

abbrev pub invariant-loop-word : goal.invariant-loop-word
invariant-loop-word l = map (λ text. string_bytes text) l.found.items ++ drop l.word-index l.words ≡ l.words
