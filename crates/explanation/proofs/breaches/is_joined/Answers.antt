-- Lines that aren't joined are no breach.
use Rattle.std.proofs.Common.{rules}
use Rattle.configuration.specs.Config.{configuration_of}
use Rattle.closure.proofs.FindingLemmas.{refuted}
use Rattle.explanation.proofs.breaches.is_joined.Goals as goal

pub returns-then-not-join : goal.returns-then-not-join
returns-then-not-join c = (
  λ e. absurd (search rules),
  λ is. absurd (refuted c.join.result c.if-not-join.true ((c.join.ensures (configuration_of c.args.config.now) c.of-ways.ensures).1 is.2)),
)
