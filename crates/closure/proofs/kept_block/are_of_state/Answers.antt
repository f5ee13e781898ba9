-- Each is of the state.
use Rattle.std.proofs.Common.{◌≡◌, true, rules}
use Rattle.mg_model.specs.Configuration.{Configuration}
use Rattle.configuration.specs.Config.{configuration_of}
use Rattle.closure.proofs.HullLemmas.{each_passed}
use Rattle.closure.proofs.kept_block.are_of_state.Goals as goal

pub returns : goal.returns
returns c holds =
    each_passed _ _ true (λ (d : Configuration). d.state ≡ (configuration_of c.args.one.now).state) c.args.hull.now (c.all.ensures holds) (λ x e. search rules)
