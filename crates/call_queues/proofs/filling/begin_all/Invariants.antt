-- The calls of the shard at the places so far were begun, each once, and their places are left empty.
use Rattle.std.proofs.Common.{◌≡◌}
use Rattle.handover.specs.Queues.{IsShareOf, hand_of}
use Rattle.call_queues.proofs.BeginLemmas.{Begins}
use Rattle.call_queues.proofs.FillLemmas.{IsLeftUpTo}
use Rattle.call_queues.proofs.filling.begin_all.Given as goal

abbrev pub invariant-loop-place : goal.invariant-loop-place
invariant-loop-place g l = record {
  number : l.number ≡ l.place-index;
  share : IsShareOf l.queue l.share;
  begins : Begins (hand_of l.share) l.number;
  left : IsLeftUpTo l.shards l.shard l.number l.fn.places l.places;
}
