-- The executes so far, no more than the events.
use Rattle.std.proofs.Common.{◌≡◌, ◌≤◌, take}
use Rattle.mg_merge.specs.Identifiers.{executes_in}
use Rattle.run_account.proofs.compare.executes_in.Given as goal

abbrev pub invariant-loop-event : goal.invariant-loop-event
invariant-loop-event l = (l.executes ≡ executes_in (take l.event-index l.history)) × (l.executes ≤ l.event-index)
