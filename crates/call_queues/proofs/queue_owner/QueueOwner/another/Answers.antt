-- The new share has the part that the run's gives away, of the same queue.
use Rattle.std.proofs.Common.{◌≡◌, sym, ap, subst, arith}
use Rattle.handover.specs.Queues.{IsShareOf, hand_of}
use Rattle.handover.specs.declared.hand.Hand.{Hand}
use Rattle.handover.specs.declared.queue.Queue.{Queue}
use Rattle.call_queues.proofs.AccountLemmas.{for_nothing, still_share}
use Rattle.call_queues.proofs.WorkerQueueLemmas.{lends, new_holds_nothing, same_line}
use Rattle.call_queues.proofs.queue_owner.QueueOwner.another.Goals as goal

pub returns-clause-own : goal.returns-clause-own
returns-clause-own g c =
    let own = c.args.self.now.worker_queue in record {
      queue = c.requires.queue;
      at = c.requires.at;
      share = still_share c.requires.queue own.share c.another.new.share c.another.ensures.of.0 c.requires.share;
      parts = omega (arith, ap (λ (v : Hand). v.parts) c.another.ensures.left, c.requires.parts, c.if-self-ge-MOST_AWAY.false);
      accounts = lends (hand_of own.share) (hand_of c.another.new.share) own.done.items c.requires.accounts c.another.ensures.left;
    }

pub returns-clause-new : goal.returns-clause-new
returns-clause-new g c =
    let right = c.another.ensures.right in
    let found = c.in-Some.ensures.lookup in
    let same : c.requires.queue ≡ c.in-Some.queue.now =
    same_line c.args.queues.now c.args.self.now.worker_queue.shard c.in-Some.queue.now c.requires.queue found.3.0 (found.3.1 c.in-Some.queue.now) c.requires.at in
    record {
      queue = c.requires.queue;
      at = c.requires.at;
      workers = record {
        share = subst (λ (queue : Queue g.row.T.Denot). IsShareOf queue c.another.result) (sym same) c.another.ensures.of.1;
        part = ap (λ (v : Hand). v.parts) right;
        begun = ap (λ (v : Hand). v.begun) right;
        accounts = for_nothing (hand_of c.another.result) c.new.result.items c.new.ensures.items (new_holds_nothing (hand_of c.another.result) right);
      };
    }
