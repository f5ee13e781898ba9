-- What is said of the two lines in the configuration in which the other lets nothing in.
use Rattle.std.proofs.Common.{◌↔◌, IsTrue, subst}
use Rattle.mg_model.specs.Configuration.{Configuration}
use Rattle.mg_model.specs.Paths.{AreJoined}
use Rattle.configuration.specs.Config.{configuration_of}
use Rattle.call_ways.proofs.OneWay.{path_by_join}
use Rattle.call_ways.proofs.hearing.has_path.Goals as goal

pub returns : goal.returns
returns c =
    path_by_join (configuration_of c.args.config.now) c.args.to c.args.from c.join.result
    (subst (λ (x : Configuration). IsTrue c.join.result ↔ AreJoined x c.args.from c.args.to) c.muted-quiet.ensures
    (c.join.ensures (configuration_of c.muted-quiet.result) c.of-ways.ensures))
