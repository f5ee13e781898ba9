-- The thing is still the one that was to be put, and the share knows what it knew.
use Rattle.std.proofs.Common.{◌≡◌}
use Rattle.handover.specs.Queues.{IsSameShare, IsShareOf, hand_of}
use Rattle.handover.proofs.queue.Queue.put.Given as goal

abbrev pub invariant-loop : goal.invariant-loop
invariant-loop g l = record {
  of : IsShareOf l.self l.share;
  same : IsSameShare l.fn.share l.share;
  knows : hand_of l.share ≡ hand_of l.fn.share;
  thing : l.thing ≡ l.fn.thing;
}
