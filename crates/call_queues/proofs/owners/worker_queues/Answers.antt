-- One place more, of the queue of the shard whose turn it is.
use Rattle.std.proofs.Common.{◌≡◌, ◌%◌, ◌++◌, [], ◌∷◌}
use Rattle.std.proofs.lemmas.List.Elements.{All-push, All-same, All-set}
use Rattle.call_queues.specs.Passing.{IsOwner, IsWorkersAt}
use Rattle.call_queues.specs.declared.worker_queue.WorkerQueue.{WorkerQueue}
use Rattle.call_queues.proofs.PassLemmas.{owner_stays}
use Rattle.call_queues.proofs.WorkerQueueLemmas.{all_at}
use Rattle.call_queues.proofs.owners.worker_queues.Goals as goal

pub another-requires : goal.another-requires
another-requires g c =
    let found = c.in-Some.ensures.item in
    all_at (IsOwner c.args.queues.now) c.loop-turn.owners.items (c.saturating_add.result % c.len-count.result) c.in-Some.owner.now found.3.0
    (found.3.1 c.in-Some.owner.now) c.loop-turn.invariant.owners

pub returns-in_err-worker_queue-clause-owners : goal.returns-in_err-worker_queue-clause-owners
returns-in_err-worker_queue-clause-owners g c =
    All-set (IsOwner c.args.queues.now) c.loop-turn.owners.items (c.saturating_add.result % c.len-count.result) c.another.new.self c.another.ensures.own
    c.loop-turn.invariant.owners

pub returns-in_err-push-clause-owners : goal.returns-in_err-push-clause-owners
returns-in_err-push-clause-owners g c =
    All-set (IsOwner c.args.queues.now) c.loop-turn.owners.items (c.saturating_add.result % c.len-count.result) c.another.new.self c.another.ensures.own
    c.loop-turn.invariant.owners

pub loop-turn-preserved : goal.loop-turn-preserved
loop-turn-preserved g c =
    let found = c.in-Some.ensures.item in
    let none = λ (s : WorkerQueue g.row.T.Denot). s.done.items ≡ [] in record {
      owners = All-set (IsOwner c.args.queues.now) c.loop-turn.owners.items (c.saturating_add.result % c.len-count.result) c.another.new.self
          c.another.ensures.own c.loop-turn.invariant.owners;
      worker_queues = All-same (IsWorkersAt c.args.queues.now) c.push.new.self.items (c.loop-turn.worker_queues.items ++ c.in_ok-worker_queue.worker_queue ∷ []) c.in_ok-push.ensures.items
          (All-push (IsWorkersAt c.args.queues.now) c.loop-turn.worker_queues.items c.in_ok-worker_queue.worker_queue c.loop-turn.invariant.worker_queues c.in_ok-worker_queue.ensures.new);
      none = All-same none c.push.new.self.items (c.loop-turn.worker_queues.items ++ c.in_ok-worker_queue.worker_queue ∷ []) c.in_ok-push.ensures.items
          (All-push none c.loop-turn.worker_queues.items c.in_ok-worker_queue.worker_queue c.loop-turn.invariant.none c.in_ok-worker_queue.ensures.none);
      back = λ test before. owner_stays test c.loop-turn.owners.items (c.saturating_add.result % c.len-count.result) c.in-Some.owner.now c.another.new.self found.3.0
          (found.3.1 c.in-Some.owner.now) c.another.ensures.done (c.loop-turn.invariant.back test before);
    }
