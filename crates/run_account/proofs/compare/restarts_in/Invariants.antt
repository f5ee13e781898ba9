-- The restarts so far, no more than the events.
use Rattle.std.proofs.Common.{◌≡◌, ◌≤◌, take}
use Rattle.mg_model.specs.Shards.{restarts_in}
use Rattle.run_account.proofs.compare.restarts_in.Given as goal

abbrev pub invariant-loop-event : goal.invariant-loop-event
invariant-loop-event l = (l.restarts ≡ restarts_in (take l.event-index l.history)) × (l.restarts ≤ l.event-index)
