-- It suits none.
use Rattle.std.proofs.Common.{◌≡◌, true, false, rules}
use Rattle.mg_model.specs.Configuration.{Configuration}
use Rattle.closure.specs.Refusals.{suits}
use Rattle.closure.proofs.HullLemmas.{each_passed}
use Rattle.closure.proofs.hull_refusals.is_refused.Goals as goal

pub returns : goal.returns
returns c holds =
    each_passed _ _ true (λ (d : Configuration). suits c.args.command.now d ≡ false) c.args.hull.now (c.all.ensures holds) (λ x e. search rules)
