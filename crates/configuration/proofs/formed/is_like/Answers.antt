-- All that matters is the same.
use Rattle.std.proofs.Common.{sym, ◌∙◌}
use Rattle.configuration.proofs.FormedLemmas.{like_formed}
use Rattle.configuration.proofs.formed.is_like.Goals as goal

pub returns : goal.returns
returns c same =
    let placed = rw (c.lines_word-was.ensures.value, c.lines_word-lines.ensures.value) at (c.are_placed_alike.ensures c.if-not-are_placed_alike.false) in
    like_formed c.args.one.now c.args.other.now placed
    (sym c.ephemerals_word.ensures.value ∙ c.is_same.ensures c.if-not-is_same.false ∙ c.ephemerals_word-2.ensures.value)
    (sym c.cuts_word.ensures.value ∙ c.is_same-2.ensures same ∙ c.cuts_word-2.ensures.value)
