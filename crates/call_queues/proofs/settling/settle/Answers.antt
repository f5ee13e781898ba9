-- The place of one queue less is left, and what it has back is settled.
use Rattle.std.proofs.Common.{◌∙◌, ◌∷◌, refl, sym, arith}
use Rattle.std.proofs.lemmas.List.{nil_from_length}
use Rattle.std.proofs.lemmas.List.Elements.{All-head, All-rest, All-same}
use Rattle.std.specs.Vec.Iter.{into_iter_items}
use Rattle.call_queues.specs.Passing.{IsOwner}
use Rattle.call_queues.proofs.SeatLemmas.{all_are_back, all_settled, none_settled, one_settled}
use Rattle.call_queues.proofs.settling.settle.Goals as goal

pub settle_one-requires : goal.settle_one-requires
settle_one-requires g c =
    let before = into_iter_items c.loop-owner.owner-iterator in
    let after = into_iter_items c.next.new.self in
    All-head (IsOwner c.args.queues.now) c.in-Some.owner after
    (All-same (IsOwner c.args.queues.now) (c.in-Some.owner ∷ after) before (sym c.in-Some.ensures.steps.0) c.loop-owner.invariant.left)

pub loop-owner-preserved : goal.loop-owner-preserved
loop-owner-preserved g c = record {
  places = c.settle_one.ensures.len ∙ c.loop-owner.invariant.places;
  left = All-rest (IsOwner c.args.queues.now) c.in-Some.owner (into_iter_items c.next.new.self) (into_iter_items c.loop-owner.owner-iterator)
      c.in-Some.ensures.steps.0 c.loop-owner.invariant.left;
  settled = one_settled c.args.owners.items (into_iter_items c.loop-owner.owner-iterator) (into_iter_items c.next.new.self) c.args.places.now.items
      c.loop-owner.places.items c.settle_one.new.places.items c.in-Some.owner c.in-Some.ensures.steps.0 c.in_ok-settle_one.ensures.all
      c.in_ok-settle_one.ensures.seated c.loop-owner.invariant.settled;
}

pub loop-owner-init : goal.loop-owner-init
loop-owner-init g c = record {
  places = refl;
  left = All-same (IsOwner c.args.queues.now) _ c.args.owners.items c.into_iter-owner-iterator.ensures.into_iter_gives.0 c.requires;
  settled = none_settled c.args.owners.items _ c.args.places.now.items c.into_iter-owner-iterator.ensures.into_iter_gives.0;
}

pub returns-clause-all : goal.returns-clause-all
returns-clause-all g c =
    all_are_back c.args.owners.items (into_iter_items c.loop-owner.owner-iterator) c.args.places.now.items c.loop-owner.places.items
    (nil_from_length (into_iter_items c.loop-owner.owner-iterator) (omega (arith, c.in-None.ensures.steps.0))) c.loop-owner.invariant.settled

pub returns-clause-seated : goal.returns-clause-seated
returns-clause-seated g c =
    all_settled c.args.owners.items (into_iter_items c.loop-owner.owner-iterator) c.args.places.now.items c.loop-owner.places.items
    (nil_from_length (into_iter_items c.loop-owner.owner-iterator) (omega (arith, c.in-None.ensures.steps.0))) c.loop-owner.invariant.settled
