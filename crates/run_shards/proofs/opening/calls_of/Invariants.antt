-- The calls so far, and what is left of the plan, are all calls of the shard.
use Rattle.std.proofs.Common.{◌≡◌, ◌++◌, drop, map}
use Rattle.planned_calls.specs.Shards.{opened_as}
use Rattle.planned_calls.specs.Parts.{opened_in}
use Rattle.run_shards.proofs.opening.calls_of.Given as goal

abbrev pub invariant-loop-call : goal.invariant-loop-call
invariant-loop-call l = record {
  number : l.number ≡ l.call-index;
  opened : map opened_as l.opened.items ++ opened_in l.count l.shard l.number (drop l.call-index l.calls) ≡ opened_in l.count l.shard 0 l.calls;
}
