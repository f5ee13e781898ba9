-- As many as were counted.
use Rattle.std.proofs.Common.{◌≡◌}
use Rattle.std.specs.Prelude.{vec_len}
use Rattle.run_shards.proofs.places.empty.Given as goal

abbrev pub invariant-loop : goal.invariant-loop
invariant-loop l = vec_len l.places ≡ l.counter
