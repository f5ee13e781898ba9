-- What the ways of the configuration say of the two lines.
use Rattle.std.proofs.Common.{◌∙◌, sym}
use Rattle.configuration.specs.Config.{configuration_of}
use Rattle.call_ways.proofs.sights.joins.Goals as goal

pub returns : goal.returns
returns c = λ script.
    let told = c.join.ensures (configuration_of c.args.config.now) c.of-ways.ensures in
    ((λ joined. (sym c.state.ensures ∙ c.if-state.false, told.0 joined)), (λ is. told.1 is.1))
