-- Entries have all of these.
use Rattle.std.proofs.Common.{map, rules}
use Rattle.mg_model.specs.Steps.{with_link}
use Rattle.configuration.specs.Config.{configuration_of}
use Rattle.closure.proofs.HullLemmas.{each_given}
use Rattle.closure.proofs.HullSteps.{all_linked}
use Rattle.closure.proofs.hull_steps.is_linked.Goals as goal

pub returns : goal.returns
returns c holds =
    all_linked c.args.cert.now (map configuration_of c.args.hull.now) c.args.link (map configuration_of c.in-Ok.linked)
    (each_given _ _ (λ d. with_link d c.args.link) c.args.hull.now c.in-Ok.linked c.in-Ok.ensures (λ x y e. search rules))
    (c.are_in_entries.ensures holds)
