-- So many calls are there, and so many places are left; the calls and what is left are all that was there.
use Rattle.std.proofs.Common.{◌≡◌, ◌+◌, ◌++◌, Some, map}
use Rattle.std.specs.Prelude.{vec_len}
use Rattle.std.specs.Vec.Iter.{into_iter_items, into_iter_len}
use Rattle.run_shards.proofs.joined.all_planned.Given as goal

abbrev pub invariant-loop-place : goal.invariant-loop-place
invariant-loop-place l = record {
  len : vec_len l.planned_calls + into_iter_len l.place-iterator ≡ vec_len l.fn.places;
  same : map (λ planned. Some planned) l.planned_calls.items ++ into_iter_items l.place-iterator ≡ l.fn.places.items;
}
