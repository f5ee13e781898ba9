-- One queue more, and the run's place at it, whose share has all parts.
use Rattle.std.proofs.Common.{◌≡◌, ◌∙◌, ◌++◌, ℕ, List, [], ◌∷◌, length, refl, sym, ap, subst, arith}
use Rattle.std.specs.Prelude.{Some, slice_get}
use Rattle.std.specs.List.{All}
use Rattle.std.proofs.lemmas.List.{length-append}
use Rattle.std.proofs.lemmas.List.Elements.{All-nil, All-push, All-same}
use Rattle.handover.specs.Queues.{hand_of}
use Rattle.handover.specs.declared.queue.Queue.{Queue}
use Rattle.call_queues.specs.Passing.{IsOwner}
use Rattle.call_queues.specs.declared.queue_owner.QueueOwner.{QueueOwner}
use Rattle.call_queues.proofs.AccountLemmas.{for_nothing}
use Rattle.call_queues.proofs.FillLemmas.{none_left_before, shard_left, shards_left}
use Rattle.call_queues.proofs.WorkerQueueLemmas.{owners_more, slice_get_last}
use Rattle.call_queues.proofs.filling.open_queues.Goals as goal

pub loop-shard-init : goal.loop-shard-init
loop-shard-init g c =
    let queues = c.new-queues.result.items in
    let nothing = λ (o : QueueOwner g.row.T.Denot). o.worker_queue.done.items ≡ [] in record {
      places = refl;
      count = ap (λ (ls : List (Queue g.row.T.Denot)). length ls) c.new-queues.ensures.items;
      owners = All-same (IsOwner queues) c.new-owners.result.items [] c.new-owners.ensures.items (All-nil (IsOwner queues));
      none = All-same nothing c.new-owners.result.items [] c.new-owners.ensures.items (All-nil nothing);
      left = none_left_before c.args.shards c.args.places.now.items;
    }

pub loop-shard-preserved : goal.loop-shard-preserved
loop-shard-preserved g c =
    let before = c.loop-shard.queues.items in
    let queue = c.in_ok-queue.queue in
    let share = c.in_ok-queue.share in
    let shard = c.loop-shard.shard in
    let was = c.loop-shard.invariant in
    let queues = c.push.new.self.items in
    let pushed : queues ≡ before ++ queue ∷ [] = c.in_ok-push.ensures.items in
    let at : slice_get queues shard ≡ Some queue =
    subst (λ (ls : List (Queue g.row.T.Denot)). slice_get ls shard ≡ Some queue) (sym pushed)
    (subst (λ (n : ℕ). slice_get (before ++ queue ∷ []) n ≡ Some queue) was.count (slice_get_last before queue)) in
    let owner : QueueOwner g.row.T.Denot = record { worker_queue = record { shard = shard; share = share; done = c.new.result }; away = 0 } in
    let own : IsOwner queues owner = record {
      queue = queue;
      at = at;
      share = c.in_ok-queue.ensures.share;
      parts = omega (arith, c.in_ok-queue.ensures.parts);
      accounts = for_nothing (hand_of share) c.new.result.items c.new.ensures.items c.in_ok-queue.ensures.nothing;
    } in
    let none = λ (o : QueueOwner g.row.T.Denot). o.worker_queue.done.items ≡ [] in
    let others : All (IsOwner queues) c.loop-shard.owners.items =
    subst (λ (ls : List (Queue g.row.T.Denot)). All (IsOwner ls) c.loop-shard.owners.items) (sym pushed)
    (owners_more before (queue ∷ []) c.loop-shard.owners.items was.owners) in
    record {
      places = c.open_queue.ensures.len ∙ was.places;
      count = omega (arith, ap (λ (ls : List (Queue g.row.T.Denot)). length ls) pushed, length-append before (queue ∷ []), was.count);
      owners = All-same (IsOwner queues) c.push-in-loop-shard.new.self.items (c.loop-shard.owners.items ++ owner ∷ []) c.in_ok-push-2.ensures.items
          (All-push (IsOwner queues) c.loop-shard.owners.items owner others own);
      none = All-same none c.push-in-loop-shard.new.self.items (c.loop-shard.owners.items ++ owner ∷ []) c.in_ok-push-2.ensures.items
          (All-push none c.loop-shard.owners.items owner was.none c.new.ensures.items);
      left = shard_left c.args.shards shard c.args.places.now.items c.loop-shard.places.items c.open_queue.new.places.items was.left c.in_ok-queue.ensures.left;
    }

pub returns-clause-left : goal.returns-clause-left
returns-clause-left g c =
    shards_left c.args.shards c.loop-shard.shard c.args.places.now.items c.loop-shard.places.items (omega (arith, c.loop-shard-test.false)) c.loop-shard.invariant.left
