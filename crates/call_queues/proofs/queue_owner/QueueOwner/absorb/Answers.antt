-- The part that was away is back, with what its share accounts for.
use Rattle.std.proofs.Common.{ap, arith}
use Rattle.handover.specs.Queues.{hand_of}
use Rattle.handover.specs.declared.hand.Hand.{Hand}
use Rattle.call_queues.proofs.AccountLemmas.{absorbed, still_share}
use Rattle.call_queues.proofs.queue_owner.QueueOwner.absorb.Goals as goal

pub returns-clause-own : goal.returns-clause-own
returns-clause-own g c =
    let own = c.args.self.now.worker_queue in
    let was = c.requires.own in
    let theirs = c.requires.theirs.workers in
    let both = c.absorb.ensures.both in record {
      queue = was.queue;
      at = was.at;
      share = still_share was.queue own.share c.absorb.new.share c.absorb.ensures.of was.share;
      parts = omega (arith, ap (λ (v : Hand). v.parts) both, theirs.part, was.parts, c.in-Some.ensures.1);
      accounts = absorbed (hand_of own.share) own.done.items was.accounts (hand_of c.args.worker_queue.share) (hand_of c.absorb.new.share)
          c.args.worker_queue.done.items c.append.new.self.items theirs.accounts both c.in_ok-append.ensures.items;
    }
