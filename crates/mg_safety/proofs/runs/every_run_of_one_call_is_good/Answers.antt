-- The promise over runs.
use Rattle.mg_safety.proofs.GoodWorlds.EveryRun.{every_run_of_one}
use Rattle.mg_safety.proofs.runs.every_run_of_one_call_is_good.Goals as goal

pub returns : goal.returns
returns c = every_run_of_one
