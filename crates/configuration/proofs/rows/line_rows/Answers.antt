-- Row by row.
use Rattle.std.proofs.Common.{arith}
use Rattle.mg_model.specs.Paths.{hops}
use Rattle.configuration.specs.Config.{configuration_of}
use Rattle.configuration.specs.Words.{termination_at}
use Rattle.configuration.proofs.RowLoops.{next_byte}
use Rattle.configuration.proofs.rows.line_rows.Goals as goal

pub loop-source-preserved : goal.loop-source-preserved
loop-source-preserved c =
    next_byte (λ t u. hops (configuration_of c.args.config.now) (termination_at t) (termination_at u)) 8 _ _ _ _ (omega arith)
    c.loop-source.invariant c.put-rows.ensures c.row.ensures.value
