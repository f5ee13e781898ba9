-- What each makes, with one where all have lost what is theirs and one where Remotes are gone.
use Rattle.std.proofs.Common.{map, subst, Contains, rules}
use Rattle.mg_model.specs.Configuration.{Configuration}
use Rattle.configuration.specs.Config.{configuration_of}
use Rattle.closure.specs.Emptying.{emptied}
use Rattle.closure.proofs.HullEmptying.{from_parts}
use Rattle.closure.proofs.HullLemmas.{each_given}
use Rattle.closure.proofs.hull_emptying.all_emptied.Goals as goal

pub returns : goal.returns
returns c =
    from_parts c.args.script.now c.args.hull.now c.args.context c.standing_in_each-sure.result c.standing_too-left.result c.standing_in_each-sure.ensures
    c.standing_too-left.ensures (map configuration_of c.in_ok-made.made) (map configuration_of c.add.new.hull) (map configuration_of c.add-2.new.hull)
    c.with_lost.result
    (each_given _ _ (emptied c.args.script.now c.args.context (configuration_of c.standing_in_each-sure.result)) c.args.hull.now c.in_ok-made.made
    c.in_ok-made.ensures (λ x y e. search rules)) c.in_ok-add.ensures.kept
    (subst (λ (d : Configuration). Contains (map configuration_of c.add.new.hull) d) c.unsettled.ensures c.in_ok-add.ensures.there)
    c.in_ok-add-2.ensures.kept c.in_ok-add-2.ensures.there c.with_lost.ensures
