-- There is a queue for each shard so far with its calls, and a place of the run's at each of them, where none is back; and as many places as at first.
use Rattle.std.proofs.Common.{◌≡◌, []}
use Rattle.std.specs.Prelude.{length, vec_len}
use Rattle.std.specs.List.{All}
use Rattle.call_queues.specs.Passing.{IsOwner}
use Rattle.call_queues.specs.Standing.{AreLeft}
use Rattle.call_queues.proofs.FillLemmas.{stands_before}
use Rattle.call_queues.proofs.filling.open_queues.Given as goal

abbrev pub invariant-loop-shard : goal.invariant-loop-shard
invariant-loop-shard g l = record {
  places : vec_len l.places ≡ vec_len l.fn.places;
  count : length l.queues.items ≡ l.shard;
  owners : All (λ o. IsOwner l.queues.items o) l.owners.items;
  none : All (λ o. o.worker_queue.done.items ≡ []) l.owners.items;
  left : AreLeft (stands_before l.shards l.shard) l.fn.places.items l.places.items;
}
