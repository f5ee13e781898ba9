-- The events so far are gone along.
use Rattle.std.proofs.Common.{take}
use Rattle.run_account.specs.Comparing.{Follows, trails_of}
use Rattle.run_account.proofs.compare.follow.Given as goal

abbrev pub invariant-loop-event : goal.invariant-loop-event
invariant-loop-event l = Follows l.count l.shard (take l.event-index l.history) (trails_of l.planned_calls) l.fn.places l.places
