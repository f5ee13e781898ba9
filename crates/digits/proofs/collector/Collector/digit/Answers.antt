use Rattle.std.proofs.Common.{subst, sym}
use Rattle.digits.specs.Progress.{Follows, FollowsBy, digits_of}
use Rattle.digits.proofs.Remaining.{follows_more}
use Rattle.digits.proofs.collector.Collector.digit.Goals as goal

pub returns-in_default-clause-follows : goal.returns-in_default-clause-follows
returns-in_default-clause-follows c =
    let follows : FollowsBy c.args.map.now (digits_of c.self.inside.is_done c.self.inside.dialled) c.self.inside.remaining = subst (Follows c.args.map.now) (sym c.self.view_is) c.requires in
    rw c.push.ensures
    (follows_more c.args.map.now c.self.inside.is_done c.self.inside.dialled c.self.inside.remaining c.narrowed-remaining.result c.args.symbol c.if-self.false follows
    c.narrowed-remaining.ensures
    (sym (c.if-none_remains.ensures.value _ c.narrowed-remaining.ensures))
    (rw (← c.push.ensures) (sym c.in_default.ensures)))
