-- Eight words joined.
use Rattle.std.proofs.Common.{◌∙◌}
use Rattle.configuration.proofs.SearchLemmas.{eight_or, eight_same}
use Rattle.configuration.proofs.config.paths.reached.Goals as goal

pub returns : goal.returns
returns c u h =
    eight_or c.part-6.result c.part-7.result c.part-8.result c.part.result c.part-2.result c.part-3.result c.part-4.result c.part-5.result u
    ∙ eight_same _ _ _ _ _ _ _ _ _ _ _ _ _ _ _ _ (c.part-6.ensures.value u h) (c.part-7.ensures.value u h) (c.part-8.ensures.value u h)
    (c.part.ensures.value u h) (c.part-2.ensures.value u h) (c.part-3.ensures.value u h) (c.part-4.ensures.value u h) (c.part-5.ensures.value u h)
