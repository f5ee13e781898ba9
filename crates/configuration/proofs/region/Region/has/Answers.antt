-- The words agree, and the other sets have the values.
use Rattle.std.proofs.Common.{◌&&◌, refl, sym, ap, ◌∙◌}
use Rattle.std.specs.List.{list_all}
use Rattle.configuration.specs.Regions.{Region, is_in, is_within}
use Rattle.configuration.proofs.RegionLemmas.{asked}
use Rattle.configuration.proofs.region.Region.has.Goals as goal

pub returns-then-is_like-clause-value : goal.returns-then-is_like-clause-value
returns-then-is_like-clause-value c =
    ap (λ b. b && c.are_in.result) (sym c.if-is_like.true)
    ∙ asked c.args.config.now c.self.inside.base c.self.inside.mask c.self.inside.wide.items c.is_like.result c.are_in.result
    c.is_like.ensures.value (c.are_in.ensures ∙ ap (list_all (λ set. is_in set c.args.config.now)) c.as_slice.ensures.value)
    ∙ ap (λ (r : Region). is_within r c.args.config.now) c.self.view_is

pub returns-else-is_like-clause-value : goal.returns-else-is_like-clause-value
returns-else-is_like-clause-value c =
    let sets = list_all (λ set. is_in set c.args.config.now) c.self.inside.wide.items in
    c.if-is_like.false ∙ ap (λ b. b && sets) (sym c.if-is_like.false)
    ∙ asked c.args.config.now c.self.inside.base c.self.inside.mask c.self.inside.wide.items c.is_like.result sets
    c.is_like.ensures.value refl
    ∙ ap (λ (r : Region). is_within r c.args.config.now) c.self.view_is
