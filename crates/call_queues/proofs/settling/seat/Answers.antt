-- One item more stands at its number, or has no place.
use Rattle.std.proofs.Common.{refl, arith}
use Rattle.std.proofs.lemmas.List.{nil_from_length}
use Rattle.std.specs.Vec.Iter.{into_iter_items}
use Rattle.call_queues.proofs.SeatLemmas.{all_so_far, none_so_far, one_so_far, past_last}
use Rattle.call_queues.proofs.settling.seat.Goals as goal

pub loop-item-init : goal.loop-item-init
loop-item-init g c = record {
  len = refl;
  seated = none_so_far c.args.items.items _ c.args.places.now.items c.into_iter-item-iterator.ensures.into_iter_gives.0;
}

pub loop-item-preserved : goal.loop-item-preserved
loop-item-preserved g c = record {
  len = c.loop-item.invariant.len;
  seated = one_so_far c.args.items.items (into_iter_items c.loop-item.item-iterator) (into_iter_items c.next.new.self) c.args.places.now.items
      c.loop-item.places.items c.in-Some.item c.in-Some-get_mut.ensures.item.3.0 c.in-Some.ensures.steps.0 c.loop-item.invariant.seated;
}

pub loop-item-preserved-in-Some-get_mut : goal.loop-item-preserved-in-Some-get_mut
loop-item-preserved-in-Some-get_mut g c = record {
  len = c.loop-item.invariant.len;
  seated = one_so_far c.args.items.items (into_iter_items c.loop-item.item-iterator) (into_iter_items c.next.new.self) c.args.places.now.items
      c.loop-item.places.items c.in-Some.item c.in-Some-get_mut.ensures.item.3.0 c.in-Some.ensures.steps.0 c.loop-item.invariant.seated;
}

pub returns-in_default-clause-past : goal.returns-in_default-clause-past
returns-in_default-clause-past g c = (
  refl,
  past_last c.args.items.items (into_iter_items c.loop-item.item-iterator) (into_iter_items c.next.new.self) c.args.places.now.items
      c.loop-item.places.items c.in-Some.item (omega (arith, c.in_default.ensures.item, c.loop-item.invariant.len)) c.in-Some.ensures.steps.0 c.loop-item.invariant.seated,
)

pub returns-clause-seated : goal.returns-clause-seated
returns-clause-seated g c =
    all_so_far c.args.items.items (into_iter_items c.loop-item.item-iterator) c.args.places.now.items c.loop-item.places.items
    (nil_from_length (into_iter_items c.loop-item.item-iterator) (omega (arith, c.in-None.ensures.steps.0))) c.loop-item.invariant.seated
