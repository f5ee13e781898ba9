-- A call that was taken is held; once it is put back or done with, the share accounts for what the worker is done with.
use Rattle.std.proofs.Common.{◌≡◌, true, refl}
use Rattle.handover.specs.Queues.{hand_of}
use Rattle.call_queues.proofs.AccountLemmas.{holds_taken}
use Rattle.call_queues.proofs.ServedLemmas.{finished_with, handed_back}
use Rattle.call_queues.specs.declared.worker_queue.WorkerQueue.{WorkerQueue}
use Rattle.workers.specs.PlannedCall.{PlannedCall}
use Rattle.workers.specs.PlanSteps.{item_is_over}
use Rattle.workers.specs.Working.{StaysOver}
use Rattle.workers.proofs.OverLemmas.{done_over, pass_more}
use Rattle.workers.proofs.worker.serve_one.Goals as goal

pub put-requires-clause-held : goal.put-requires-clause-held
put-requires-clause-held g c =
    holds_taken (hand_of c.args.worker_queue.now.share) c.args.worker_queue.now.done.items c.requires.accounts (hand_of c.take.new.share) c.in-Some.item.number
    c.turned-item.result.0.number c.in-Some.ensures.taken c.turned-item.ensures.number

pub returns-then-goes_on-clause-workers : goal.returns-then-goes_on-clause-workers
returns-then-goes_on-clause-workers g c =
    handed_back c.args.queue.now c.args.worker_queue.now c.requires c.take.new.share c.take.ensures.of c.in-Some.item.number c.in-Some.ensures.taken
    c.turned-item.result.0.number c.turned-item.ensures.number _ c.put.ensures.of c.put.ensures.put c.reserve.ensures.items

pub returns-clause-workers : goal.returns-clause-workers
returns-clause-workers g c =
    finished_with c.args.queue.now c.args.worker_queue.now c.requires c.take.new.share c.take.ensures.of c.in-Some.item.number c.in-Some.ensures.taken
    c.turned-item.result.0 c.turned-item.ensures.number c.reserve.new.self.items c.reserve.ensures.items _ refl c.push_reserved.ensures.items

pub returns-clause-over : goal.returns-clause-over
returns-clause-over g c =
    let calls = c.args.workplace.now.plan.now.calls in
    let epoch = c.args.workplace.now.epoch in
    let item = c.turned-item.result.0 in
    let old = c.args.worker_queue.now in
    let new : WorkerQueue PlannedCall = record { shard = old.shard; share = c.take.new.share; done = c.push_reserved.new.self } in
    done_over c.turned-item.result.1 (item_is_over calls epoch item ≡ true) (StaysOver calls epoch old new) c.turned-item.ensures.over
    (c.goes_on.ensures.no c.if-goes_on.false)
    (λ over before. pass_more (item_is_over calls epoch) old new c.reserve.new.self.items item c.reserve.ensures.items c.push_reserved.ensures.items over before)
