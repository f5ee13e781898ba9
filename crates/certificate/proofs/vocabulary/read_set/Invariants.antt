-- The set with what is left is the set that all the words name.
use Rattle.std.proofs.Common.{◌≡◌, [], drop}
use Rattle.certificate.specs.Ranks.{set_with}
use Rattle.certificate.proofs.vocabulary.read_set.Given as goal

abbrev pub invariant-loop-word : goal.invariant-loop-word
invariant-loop-word g l =
    set_with g.T.Ranked.place (g.V.Vocabulary.named l.vocabulary) l.set.items (drop l.word-index l.words)
    ≡ set_with g.T.Ranked.place (g.V.Vocabulary.named l.vocabulary) [] l.words
