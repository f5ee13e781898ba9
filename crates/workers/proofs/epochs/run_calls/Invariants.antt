-- The run is of this script and this plan.
use Rattle.workers.proofs.epochs.run_calls.Given as goal

abbrev pub ghosts-go : goal.ghosts-go
ghosts-go g a = record { script = a.checked.now.table; calls = a.plan.now.calls; count = a.plan.now.shards }
