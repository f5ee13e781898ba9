-- An event of a call is one more that is pushed; a restart, or the end, ends the part.
use Rattle.std.proofs.Common.{List, sym, subst, drop, ◌+◌}
use Rattle.mg_model.specs.declared.events.Event.{Event}
use Rattle.run_account.proofs.MergedPlaces.{IsPushing, one_pushed, pushed_to_end, pushed_to_restart}
use Rattle.run_account.proofs.merge.push_part.Goals as goal

pub loop-next-preserved : goal.loop-next-preserved
loop-next-preserved c =
    let before = c.args.events.now.items in
    let history = drop c.args.place c.args.history.now in
    subst (λ (events : List Event). IsPushing before history events (drop (c.loop-next.next + 1) c.args.history.now)) (sym c.in_ok-push.ensures.items)
    (one_pushed before history c.loop-next.events.items c.args.history.now c.loop-next.next _ c.loop-next-test.true c.in_default.not-Restart
    c.loop-next.invariant)

pub returns-after-loop-next : goal.returns-after-loop-next
returns-after-loop-next c =
    pushed_to_end c.args.events.now.items (drop c.args.place c.args.history.now) c.loop-next.events.items c.args.history.now c.loop-next.next
    c.loop-next-test.false c.loop-next.invariant

pub returns-in-Restart : goal.returns-in-Restart
returns-in-Restart c =
    pushed_to_restart c.args.events.now.items (drop c.args.place c.args.history.now) c.loop-next.events.items c.args.history.now c.loop-next.next
    _ c.loop-next-test.true c.in-Restart.is c.loop-next.invariant
