-- What each worker leaves is of the queues that its job had, which are those of the epoch, and what it is done with has no step of the epoch left.
use Rattle.std.proofs.Common.{◌∙◌, ◌<◌, List, [], length, sym, ap, subst, arith}
use Rattle.std.specs.Prelude.{◌≡◌, slice_index_or}
use Rattle.std.specs.List.{All}
use Rattle.handover.specs.declared.queue.Queue.{Queue}
use Rattle.call_queues.specs.Passing.{IsWorkersAt, OwnersPass}
use Rattle.call_queues.specs.declared.worker_queue.WorkerQueue.{WorkerQueue}
use Rattle.run_shards.proofs.TakenCounts.{on_ok}
use Rattle.workers.specs.PlannedCall.{PlannedCall}
use Rattle.workers.specs.PlanSteps.{item_is_over}
use Rattle.workers.specs.Working.{PassesOn, PassesUntroubled}
use Rattle.workers.specs.declared.worker.Job.{Job}
use Rattle.workers.specs.declared.workplace.Workplace.{Workplace}
use Rattle.workers.proofs.OverLemmas.{workers_none_pass}
use Rattle.workers.proofs.epoch.served.Goals as goal

pub gather-requires-clause-workers : goal.gather-requires-clause-workers
gather-requires-clause-workers g c = λ k d below.
    let jobs = c.in_ok-jobs.jobs in
    let within : k < length jobs.items = omega (arith, below, c.in_ok-all.ensures.len, c.in_ok-all.all.ok.0, jobs.ok.0) in
    let given = (c.in_ok-all.ensures.each k d within).1 in
    let ready = c.in_ok-jobs.ensures.ready k given.job within in
    subst (λ (queues : List (Queue PlannedCall)). All (IsWorkersAt queues) (slice_index_or c.in_ok-all.all.items k d).worker_queues.items)
    (ap (λ job. job.queues.now) given.job_read ∙ ready.0) given.call.met.0

pub returns-clause-over : goal.returns-clause-over
returns-clause-over g c =
    let test = item_is_over c.args.workplace.now.plan.now.calls c.args.workplace.now.epoch in
    let jobs = c.in_ok-jobs.jobs in
    let leave : All (PassesUntroubled test) c.in_ok-all.all.items =
    λ k d below.
    let within : k < length jobs.items = omega (arith, below, c.in_ok-all.ensures.len, c.in_ok-all.all.ok.0, jobs.ok.0) in
    let given = (c.in_ok-all.ensures.each k d within).1 in
    let none =
    subst (λ (job : Job g.row.G.Denot g.row.B.Denot). All (λ (s : WorkerQueue PlannedCall). s.done.items ≡ []) job.worker_queues.items) (sym given.job_read)
    (c.in_ok-jobs.ensures.none k given.job within) in
    subst (λ (w : Workplace g.row.G.Denot g.row.B.Denot). PassesUntroubled (item_is_over w.plan.now.calls w.epoch) (slice_index_or c.in_ok-all.all.items k d))
    (ap (λ job. job.workplace.now) given.job_read ∙ c.in_ok-jobs.ensures.workplace k given.job within)
    (given.call.met.1 (workers_none_pass (item_is_over given.job.workplace.now.plan.now.calls given.job.workplace.now.epoch) given.job.worker_queues.items none))
    in
    on_ok c.gather.result (PassesOn c.jobs.new.owners.items c.in_ok-all.all.items c.gather.new.owners.items)
    (OwnersPass test c.args.owners.now.items → OwnersPass test c.gather.new.owners.items)
    (λ back before. back test (c.in_ok-jobs.ensures.back test before) leave) c.gather.ensures.back
