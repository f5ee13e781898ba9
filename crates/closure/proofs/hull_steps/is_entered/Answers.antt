-- There is no state to enter, or entries have all that enter it.
use Rattle.std.proofs.Common.{◌∙◌, ℕ, Option, map, sym, subst, ap, rules}
use Rattle.mg_model.specs.Configuration.{Configuration}
use Rattle.configuration.specs.Config.{configuration_of}
use Rattle.closure.specs.Hulls.{IsHullEntered}
use Rattle.closure.proofs.HullLemmas.{each_given}
use Rattle.closure.proofs.HullSteps.{all_entered}
use Rattle.closure.proofs.hull_steps.is_entered.Goals as goal

pub returns : goal.returns
returns c covered =
    subst (λ (target : Option ℕ). IsHullEntered c.args.script.now c.args.cert.now (map configuration_of c.args.hull.now) target) (sym c.in-Some.is)
    (all_entered c.args.script.now c.args.cert.now (map configuration_of c.args.hull.now) (configuration_of c.args.one.now) c.requires c.in-Some.state
    c.link-link.result (c.link-link.ensures ∙ ap (λ (d : Configuration). d.link) c.with_state.ensures) (map configuration_of c.in-Ok.entered)
    (each_given _ _ (λ (d : Configuration). record d { state = c.in-Some.state; link = c.link-link.result }) c.args.hull.now c.in-Ok.entered c.in-Ok.ensures
    (λ x y e. search rules))
    (c.are_in_entries.ensures covered))
