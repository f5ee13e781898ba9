-- The law.
use Rattle.mg_alike.proofs.Alone.Enough.{never_run_out}
use Rattle.mg_alike.proofs.laws.calls_alone_never_run_out.Goals as goal

pub returns : goal.returns
returns c = never_run_out
