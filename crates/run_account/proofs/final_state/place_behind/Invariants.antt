-- All so far happened to the call, and the place is behind them.
use Rattle.std.proofs.Common.{◌≡◌, ◌+◌}
use Rattle.run_shards.specs.Taking.{trail_of}
use Rattle.run_account.specs.FinalStates.{AreAllOf}
use Rattle.run_account.proofs.final_state.place_behind.Given as goal

abbrev pub invariant-loop : goal.invariant-loop
invariant-loop l = record {
  all : AreAllOf (trail_of l.planned) l.number.0 l.from l.counter l.place;
  next : l.place ≡ l.from + l.counter;
}
