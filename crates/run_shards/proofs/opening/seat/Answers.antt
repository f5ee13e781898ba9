-- One call more stands at its number.
use Rattle.std.proofs.Common.{refl, arith}
use Rattle.std.proofs.lemmas.List.{nil_from_length}
use Rattle.std.specs.Vec.Iter.{into_iter_items}
use Rattle.run_shards.proofs.OpenLemmas.{all_so_far, none_so_far, one_so_far}
use Rattle.run_shards.proofs.opening.seat.Goals as goal

pub loop-next-init : goal.loop-next-init
loop-next-init c = record {
  len = refl;
  seated = none_so_far c.args.nexts.items _ c.args.places.now.items c.into_iter-next-iterator.ensures.into_iter_gives.0;
}

pub loop-next-preserved : goal.loop-next-preserved
loop-next-preserved c = record {
  len = c.loop-next.invariant.len;
  seated = one_so_far c.args.nexts.items (into_iter_items c.loop-next.next-iterator) (into_iter_items c.next.new.self) c.args.places.now.items
      c.loop-next.places.items c.in-Some.next c.started-planned.result c.started-planned.ensures c.in-Some-get_mut.ensures.item.3.0 c.in-Some.ensures.steps.0
      c.loop-next.invariant.seated;
}

pub loop-next-preserved-in-Some-get_mut : goal.loop-next-preserved-in-Some-get_mut
loop-next-preserved-in-Some-get_mut c = record {
  len = c.loop-next.invariant.len;
  seated = one_so_far c.args.nexts.items (into_iter_items c.loop-next.next-iterator) (into_iter_items c.next.new.self) c.args.places.now.items
      c.loop-next.places.items c.in-Some.next c.started-planned.result c.started-planned.ensures c.in-Some-get_mut.ensures.item.3.0 c.in-Some.ensures.steps.0
      c.loop-next.invariant.seated;
}

pub returns-clause-seated : goal.returns-clause-seated
returns-clause-seated c =
    all_so_far c.args.nexts.items (into_iter_items c.loop-next.next-iterator) c.args.places.now.items c.loop-next.places.items
    (nil_from_length (into_iter_items c.loop-next.next-iterator) (omega (arith, c.in-None.ensures.steps.0))) c.loop-next.invariant.seated
