-- One place more is back.
use Rattle.std.proofs.Common.{◌∷◌, sym}
use Rattle.std.proofs.lemmas.List.Elements.{All-head, All-rest, All-same, All-set}
use Rattle.std.specs.Vec.Iter.{into_iter_items}
use Rattle.call_queues.specs.Passing.{AllPass, IsOwner, IsWorkersAt}
use Rattle.call_queues.proofs.PassLemmas.{owner_absorbs}
use Rattle.call_queues.proofs.WorkerQueueLemmas.{all_at}
use Rattle.call_queues.proofs.owners.absorb_all.Goals as goal

pub absorb-requires-clause-own : goal.absorb-requires-clause-own
absorb-requires-clause-own g c =
    let found = c.in-Some-get_mut.ensures.item in
    all_at (IsOwner c.args.queues.now) c.loop-worker_queue.owners.items c.in-Some.worker_queue.shard c.in-Some-get_mut.owner.now found.3.0
    (found.3.1 c.in-Some-get_mut.owner.now) c.loop-worker_queue.invariant.owners

pub absorb-requires-clause-theirs : goal.absorb-requires-clause-theirs
absorb-requires-clause-theirs g c =
    let before = into_iter_items c.loop-worker_queue.worker_queue-iterator in
    let after = into_iter_items c.next.new.self in
    let worker_queue = c.in-Some.worker_queue in
    All-head (IsWorkersAt c.args.queues.now) worker_queue after
    (All-same (IsWorkersAt c.args.queues.now) (worker_queue ∷ after) before (sym c.in-Some.ensures.steps.0) c.loop-worker_queue.invariant.left)

pub loop-worker_queue-init : goal.loop-worker_queue-init
loop-worker_queue-init g c = record {
  owners = c.requires.owners;
  left = All-same (IsWorkersAt c.args.queues.now) _ c.args.worker_queues.items c.into_iter-worker_queue-iterator.ensures.into_iter_gives.0 c.requires.workers;
  back = λ test before workers. (before, All-same (AllPass test) _ c.args.worker_queues.items c.into_iter-worker_queue-iterator.ensures.into_iter_gives.0 workers);
}

pub loop-worker_queue-preserved : goal.loop-worker_queue-preserved
loop-worker_queue-preserved g c =
    let found = c.in-Some-get_mut.ensures.item in record {
      owners = All-set (IsOwner c.args.queues.now) c.loop-worker_queue.owners.items c.in-Some.worker_queue.shard c.absorb.new.self
          c.in_ok-absorb.ensures.own c.loop-worker_queue.invariant.owners;
      left = All-rest (IsWorkersAt c.args.queues.now) c.in-Some.worker_queue (into_iter_items c.next.new.self)
          (into_iter_items c.loop-worker_queue.worker_queue-iterator) c.in-Some.ensures.steps.0 c.loop-worker_queue.invariant.left;
      back = λ test before workers.
          owner_absorbs test c.loop-worker_queue.owners.items c.in-Some.worker_queue.shard c.in-Some-get_mut.owner.now c.absorb.new.self found.3.0
          (found.3.1 c.in-Some-get_mut.owner.now) c.in-Some.worker_queue (into_iter_items c.loop-worker_queue.worker_queue-iterator)
          (into_iter_items c.next.new.self) c.in-Some.ensures.steps.0 c.in_ok-absorb.ensures.done (c.loop-worker_queue.invariant.back test before workers);
    }
