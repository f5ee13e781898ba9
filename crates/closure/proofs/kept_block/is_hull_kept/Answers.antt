-- All that have these names bound are in the hull of those with these names.
use Rattle.std.proofs.Common.{List, true, map, sym, subst, rules}
use Rattle.mg_model.specs.Configuration.{Configuration}
use Rattle.mg_model.specs.Obligations.{EndedIsCleared, NamesAreLive}
use Rattle.configuration.specs.Config.{configuration_of}
use Rattle.closure.specs.Hulls.{IsInHull}
use Rattle.closure.specs.Naming.{named_as}
use Rattle.closure.proofs.HullDuties.{hull_kept}
use Rattle.closure.proofs.HullLemmas.{each_given, each_passed}
use Rattle.closure.proofs.NamedHulls.{contexts_named, ephemerals_named, hull_named}
use Rattle.closure.proofs.kept_block.is_hull_kept.Goals as goal

pub returns : goal.returns
returns c holds d inside named formed =
    let one : Configuration = configuration_of c.args.one.now in
    hull_kept c.args.script.now c.args.cert.now (map configuration_of c.in-Ok.named) one (c.are_alike.ensures c.if-not-are_alike.false)
    (each_passed _ _ true (EndedIsCleared c.args.script.now) c.in-Ok.named (c.all.ensures c.if-not-all.false) (λ x e. search rules))
    (c.created_are_unbound.ensures.0 c.if-not-created_are_unbound.false)
    (each_passed _ _ true NamesAreLive c.in-Ok.named (c.all-2.ensures c.if-not-all-2.false) (λ x e. search rules)) (c.are_steps_covered.ensures holds) d
    (subst (λ (some : List Configuration). IsInHull some d)
    (sym (each_given _ _ (named_as one) c.args.hull.now c.in-Ok.named c.in-Ok.ensures (λ x y e. search rules)))
    (hull_named (map configuration_of c.args.hull.now) one d inside (contexts_named c.args.hull.now c.args.one.now d inside named)
    (ephemerals_named c.args.hull.now c.args.one.now d inside named)))
    formed
