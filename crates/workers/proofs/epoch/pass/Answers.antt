-- The run's places are at the queues that were opened; all calls went into them, and what came back has no step of the epoch left.
use Rattle.std.proofs.Common.{◌≡◌, List, [], length, subst, sym, nat_lt}
use Rattle.std.specs.List.{All}
use Rattle.handover.specs.declared.queue.Queue.{Queue}
use Rattle.call_queues.specs.Passing.{IsOwner}
use Rattle.call_queues.specs.Seating.{AreSeated, all_done}
use Rattle.call_queues.specs.Standing.{AreLeft}
use Rattle.call_queues.specs.declared.queue_owner.QueueOwner.{QueueOwner}
use Rattle.workers.specs.PlannedCall.{PlannedCall}
use Rattle.workers.specs.PlanSteps.{item_is_over}
use Rattle.workers.proofs.GivenValues.{given_ok}
use Rattle.workers.proofs.OverLemmas.{all_over, owners_none_pass}
use Rattle.workers.proofs.epoch.pass.Goals as goal

pub served-requires-after_bounds : goal.served-requires-after_bounds
served-requires-after_bounds g c κs within =
    subst (λ (queues : List (Queue PlannedCall)). All (IsOwner queues) c.in_ok-queues.owners.items) (sym c.as_slice-queues.ensures.value)
    (given_ok (λ opened. All (λ o. IsOwner opened.0.items o) opened.1.items) c.open_queues.result (c.in_ok-queues.queues, c.in_ok-queues.owners)
    c.in_ok-queues.ensures c.open_queues.ensures.owners)

pub returns-clause-over : goal.returns-clause-over
returns-clause-over g c =
    let test = item_is_over c.args.workplace.now.plan.now.calls c.args.workplace.now.epoch in
    let none =
    given_ok (λ opened. All (λ (o : QueueOwner PlannedCall). o.worker_queue.done.items ≡ []) opened.1.items) c.open_queues.result
    (c.in_ok-queues.queues, c.in_ok-queues.owners) c.in_ok-queues.ensures c.open_queues.ensures.none in
    let over = c.in_ok-served.ensures.over (owners_none_pass test c.in_ok-queues.owners.items none) in
    let left =
    given_ok (λ opened. AreLeft (λ number. nat_lt 0 (length c.args.workplace.now.shards.now)) _ c.open_queues.new.places.items) c.open_queues.result
    (c.in_ok-queues.queues, c.in_ok-queues.owners) c.in_ok-queues.ensures c.open_queues.ensures.left in
    all_over c.args.workplace.now.plan.now.calls c.args.workplace.now.epoch (length c.args.workplace.now.shards.now) c.served.new.owners.items _
    c.open_queues.new.places.items c.settle.new.places.items c.requires.some left
    (given_ok (λ (value : Unit {0}). AreSeated (all_done c.served.new.owners.items) c.open_queues.new.places.items c.settle.new.places.items) c.settle.result
    c.in_ok-given.field-0 c.in_ok-given.ensures c.settle.ensures.seated) over
