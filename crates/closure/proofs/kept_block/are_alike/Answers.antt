-- So it is of each.
use Rattle.std.proofs.Common.{◌≡◌, true, rules}
use Rattle.mg_model.specs.Configuration.{Configuration}
use Rattle.mg_model.specs.Steps.{bound_names}
use Rattle.configuration.specs.Config.{configuration_of}
use Rattle.closure.proofs.HullLemmas.{each_passed}
use Rattle.closure.proofs.kept_block.are_alike.Goals as goal

pub returns : goal.returns
returns c holds =
    let one = configuration_of c.args.one.now in
    let words = c.args.hull.now in
    record {
      state = c.are_of_state.ensures c.if-not-are_of_state.false;
      link = each_passed _ _ true (λ (d : Configuration). d.link ≡ one.link) words (c.all.ensures c.if-not-all.false) (λ x e. search rules);
      names = each_passed _ _ true (λ (d : Configuration). bound_names d ≡ bound_names one) words (c.all-2.ensures holds) (λ x e. search rules);
    }
