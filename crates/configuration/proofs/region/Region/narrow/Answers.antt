-- A set more.
use Rattle.std.proofs.Common.{◌&&◌, ap, ◌∙◌}
use Rattle.configuration.specs.Regions.{Region, is_in, is_within}
use Rattle.configuration.proofs.RegionLemmas.{pushed}
use Rattle.configuration.proofs.region.Region.narrow.Goals as goal

pub returns-clause-within : goal.returns-clause-within
returns-clause-within c w =
    pushed w c.self-2.inside.base c.self-2.inside.mask _ _ c.args.set c.in_ok-push.ensures.items
    ∙ ap (λ (r : Region). is_within r w && is_in c.args.set w) c.self-2.view_is
