-- No word differs in a bit of its mask.
use Rattle.std.proofs.Common.{ap₂, ◌∙◌}
use Rattle.configuration.specs.Regions.{are_alike}
use Rattle.configuration.proofs.RegionLemmas.{alike}
use Rattle.configuration.proofs.three_words.ThreeWords.is_like.Goals as goal

pub returns-clause-value : goal.returns-clause-value
returns-clause-value c =
    alike c.args.config.now
    (record { lines = c.self.inside.lines; ephemerals = c.self.inside.ephemerals; cuts = c.self.inside.cuts })
    (record { lines = c.mask.inside.lines; ephemerals = c.mask.inside.ephemerals; cuts = c.mask.inside.cuts })
    c.lines_word.result c.ephemerals_word.result c.cuts_word.result
    c.lines_word.ensures.value c.ephemerals_word.ensures.value c.cuts_word.ensures.value
    ∙ ap₂ (are_alike c.args.config.now) c.self.view_is c.mask.view_is
