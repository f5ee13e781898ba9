-- Where nothing stands in the queue, all that were begun are back.
use Rattle.std.proofs.Common.{arith}
use Rattle.handover.specs.Queues.{hand_of}
use Rattle.call_queues.specs.Passing.{IsAllBack}
use Rattle.call_queues.proofs.AccountLemmas.{all_back}
use Rattle.call_queues.proofs.SeatLemmas.{whatever}
use Rattle.call_queues.proofs.settling.settle_one.Goals as goal

pub returns-clause-all : goal.returns-clause-all
returns-clause-all g c =
    whatever c.seat.result (IsAllBack c.args.owner)
    (all_back (hand_of c.args.owner.worker_queue.share) c.args.owner.worker_queue.done.items c.requires.accounts (c.in-None.ensures.empty (omega (arith, c.requires.parts))))
