-- The event at this place strays.
use Rattle.std.proofs.Common.{rules}
use Rattle.run_account.specs.Comparing.{trails_of}
use Rattle.run_account.proofs.DifferingTrails.{stray_at}
use Rattle.run_account.proofs.compare.follow.Goals as goal

pub returns-then-not-follow_event-clause-strays : goal.returns-then-not-follow_event-clause-strays
returns-then-not-follow_event-clause-strays c told =
    stray_at c.args.count c.args.shard c.args.history.now (trails_of c.args.planned_calls.now) c.args.places.now c.loop-event.places c.loop-event.event-index _
    c.loop-event-test.true c.loop-event.invariant (c.if-not-follow_event.ensures.strays (search rules))
