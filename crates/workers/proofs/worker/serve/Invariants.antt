-- The place is still the worker's at the queue of the same shard, and what is done with there has no step left, if it had none before.
use Rattle.std.proofs.Common.{◌≡◌}
use Rattle.call_queues.specs.Passing.{AllPass, IsWorkers}
use Rattle.workers.specs.PlanSteps.{item_is_over}
use Rattle.workers.proofs.worker.serve.Given as goal

abbrev pub invariant-loop : goal.invariant-loop
invariant-loop g l = record {
  shard : l.worker_queue.shard ≡ l.fn.worker_queue.shard;
  workers : IsWorkers l.queue l.worker_queue;
  over : AllPass (item_is_over l.workplace.plan.now.calls l.workplace.epoch) l.fn.worker_queue
      → AllPass (item_is_over l.workplace.plan.now.calls l.workplace.epoch) l.worker_queue;
}
