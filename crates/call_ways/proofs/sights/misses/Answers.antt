-- What is said of resting, and turned of the path between the two lines.
use Rattle.std.proofs.Common.{rules}
use Rattle.mg_model.specs.Paths.{HasPath}
use Rattle.configuration.specs.Config.{configuration_of}
use Rattle.closure.proofs.FindingLemmas.{refuted}
use Rattle.call_ways.proofs.Below.{not_says}
use Rattle.call_ways.proofs.sights.misses.Goals as goal

pub returns-then-not-rests_in : goal.returns-then-not-rests_in
returns-then-not-rests_in c = λ script.
    ((λ bad. absurd (search rules)), (λ is. absurd (refuted c.rests_in.result c.if-not-rests_in.true (c.rests_in.ensures.1 is.0))))

pub returns : goal.returns
returns c = λ script.
    let says = not_says c.has_path.result (HasPath (configuration_of c.args.config.now) c.args.from c.args.to) c.has_path.ensures in
    ((λ told. (c.rests_in.ensures.0 c.if-not-rests_in.false, says.0 told)), (λ is. says.1 is.1))
