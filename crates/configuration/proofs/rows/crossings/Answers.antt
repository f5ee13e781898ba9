-- Ephemeral by ephemeral.
use Rattle.std.proofs.Common.{arith}
use Rattle.mg_model.specs.Paths.{crosses}
use Rattle.configuration.specs.Config.{configuration_of}
use Rattle.configuration.proofs.RowLoops.{next_byte}
use Rattle.configuration.proofs.rows.crossings.Goals as goal

pub loop-source-preserved : goal.loop-source-preserved
loop-source-preserved c =
    next_byte (λ k i. crosses (configuration_of c.args.config.now) k i) 4 _ _ _ _ (omega arith)
    c.loop-source.invariant c.put-all.ensures c.crossing.ensures.value
