-- It doesn't stand there in any.
use Rattle.std.proofs.Common.{◌≡◌, true, false, rules}
use Rattle.mg_model.specs.Configuration.{Configuration, is_in}
use Rattle.closure.proofs.HullLemmas.{each_passed}
use Rattle.closure.proofs.hull_commands.is_nowhere.Goals as goal

pub returns : goal.returns
returns c holds =
    each_passed _ _ true (λ (d : Configuration). is_in (d.spot c.args.termination.now) c.args.context ≡ false) c.args.hull.now (c.all.ensures holds)
    (λ x e. search rules)
