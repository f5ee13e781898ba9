-- Each call has a number that is new, and goes in once; a place without one of the shard leaves all as it is.
use Rattle.std.proofs.Common.{◌+◌, ◌∙◌, sym, ap, subst, arith}
use Rattle.handover.specs.Queues.{IsShareOf, hand_of}
use Rattle.handover.specs.declared.queue.Share.{Share}
use Rattle.call_queues.specs.Standing.{left_at, stands_in}
use Rattle.call_queues.proofs.AccountLemmas.{still_share}
use Rattle.call_queues.proofs.BeginLemmas.{Begins, none_begun, one_begun, one_missing}
use Rattle.call_queues.proofs.FillLemmas.{all_left, none_left_yet, one_left_at}
use Rattle.call_queues.proofs.filling.begin_all.Goals as goal
use Rattle.call_queues.proofs.filling.begin_all.Goals.{in-Some, in_default}

pub loop-place-init : goal.loop-place-init
loop-place-init g c = record {
  number = omega arith;
  share = c.requires.share;
  begins = none_begun (hand_of c.args.share.now) c.requires.fresh;
  left = none_left_yet c.args.shards c.args.shard c.args.places.now;
}

pub loop-place-preserved : goal.loop-place-preserved
loop-place-preserved g c = record {
  number = omega (arith, c.loop-place.invariant.number);
  share = elim c.match-called.branch [
    | in-Some w ↦ subst (λ (share : Share g.row.T.Denot). IsShareOf c.args.queue.now share) (sym w.share-is)
        (still_share c.args.queue.now c.loop-place.share w.begin.new.share w.begin.ensures.of c.loop-place.invariant.share)
    | in_default w ↦ subst (λ (share : Share g.row.T.Denot). IsShareOf c.args.queue.now share) (sym w.share-is) c.loop-place.invariant.share
  ];
  begins = elim c.match-called.branch [
    | in-Some w ↦ subst (λ (share : Share g.row.T.Denot). Begins (hand_of share) (c.loop-place.number + 1)) (sym w.share-is)
        (one_begun (hand_of c.loop-place.share) (hand_of w.begin.new.share) c.loop-place.number c.loop-place.invariant.begins w.begin.ensures.begun)
    | in_default w ↦ subst (λ (share : Share g.row.T.Denot). Begins (hand_of share) (c.loop-place.number + 1)) (sym w.share-is)
        (one_missing (hand_of c.loop-place.share) c.loop-place.number c.loop-place.invariant.begins)
  ];
  left = one_left_at c.args.shards c.args.shard c.loop-place.number c.loop-place.place-index c.args.places.now c.loop-place.places c.place-item.result
      c.called.new.place c.loop-place.invariant.number (omega (arith, c.loop-place-test.true)) c.place-item.is
      (c.called.ensures.left ∙ ap (left_at (stands_in c.args.shards c.args.shard c.loop-place.number)) (sym c.place-item.is)) c.loop-place.invariant.left;
}

pub returns-clause-left : goal.returns-clause-left
returns-clause-left g c =
    all_left c.args.shards c.args.shard c.loop-place.number c.args.places.now c.loop-place.places
    (omega (arith, c.loop-place-test.false, c.loop-place.invariant.number)) c.loop-place.invariant.left
