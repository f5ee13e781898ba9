-- It is absent in each.
use Rattle.std.proofs.Common.{◌≡◌, true, rules}
use Rattle.mg_model.specs.declared.components.Spot.TheVariants.{Absent}
use Rattle.mg_model.specs.declared.commands.Termination.TheVariants.{Ephemeral}
use Rattle.mg_model.specs.Configuration.{Configuration}
use Rattle.closure.proofs.HullLemmas.{each_passed}
use Rattle.closure.proofs.HullPlaces.{not_there}
use Rattle.closure.proofs.hull_commands.is_absent.Goals as goal

pub returns : goal.returns
returns c holds =
    each_passed _ _ true (λ (d : Configuration). d.spot (Ephemeral c.args.ephemeral) ≡ Absent) c.args.hull.now (c.all.ensures holds)
    (λ x e. not_there _ (search rules))
