-- The events of the call so far.
use Rattle.std.proofs.Common.{◌≡◌, ◌++◌, take}
use Rattle.run_shards.specs.Parts.{of_call}
use Rattle.run_account.proofs.compare.push_of.Given as goal

abbrev pub invariant-loop-event : goal.invariant-loop-event
invariant-loop-event l = l.events.items ≡ l.initial.events.items ++ of_call l.call.0 (take l.event-index l.from)
