-- All places are the worker's, those that it was at too, and what is done with there has no step left, if it had none before.
use Rattle.std.specs.List.{All}
use Rattle.call_queues.specs.Passing.{IsWorkersAt, WorkersPass}
use Rattle.workers.specs.PlanSteps.{item_is_over}
use Rattle.workers.proofs.worker.serve_all.Given as goal

abbrev pub invariant-loop-worker_queue : goal.invariant-loop-worker_queue
invariant-loop-worker_queue g l = record {
  workers : All (λ s. IsWorkersAt l.queues s) l.worker_queues;
  over : WorkersPass (item_is_over l.workplace.plan.now.calls l.workplace.epoch) l.fn.worker_queues
      → WorkersPass (item_is_over l.workplace.plan.now.calls l.workplace.epoch) l.worker_queues;
}
