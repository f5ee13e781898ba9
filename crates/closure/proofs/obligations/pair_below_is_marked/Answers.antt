-- Nothing is asked of two that aren't joined.
use Rattle.std.proofs.Common.{refl}
use Rattle.configuration.specs.Config.{configuration_of}
use Rattle.closure.proofs.FindingLemmas.{refuted}
use Rattle.closure.proofs.obligations.pair_below_is_marked.Goals as goal

pub returns-then-not-join : goal.returns-then-not-join
returns-then-not-join c = (
  λ holds first second joined. absurd (refuted c.join.result c.if-not-join.true ((c.join.ensures (configuration_of c.args.config.now) c.requires.ways).1 joined)),
  λ marked. refl,
)
