-- The calls of one shard more stand at their numbers.
use Rattle.std.proofs.Common.{◌≡◌, ◌∙◌, length, arith}
use Rattle.std.proofs.lemmas.Grind.{common_steps}
use Rattle.std.proofs.lemmas.List.{nil_from_length}
use Rattle.std.specs.Prelude.{vec_len}
use Rattle.std.specs.Vec.Iter.{into_iter_items}
use Rattle.run_shards.proofs.OpenLemmas.{all_left, first_left, none_left, none_opened, shard_opened, shards_opened}
use Rattle.run_shards.proofs.opening.open_all.Goals as goal

pub loop-opened-init : goal.loop-opened-init
loop-opened-init g c =
    let script = c.args.checked.now.table in
    let calls = c.args.plan.now.calls in
    let count = c.args.plan.now.shards in
    let none = c.new-shards.ensures.len in
    let places : vec_len c.in_ok-places.places ≡ length calls = grind (arith, common_steps) in record {
      places = places;
      left = all_left script calls count (vec_len c.new-shards.result) (into_iter_items c.into_iter-opened-iterator.result) c.in_ok-all.all.items none
          c.into_iter-opened-iterator.ensures.into_iter_gives.0 c.in_ok-all.ensures;
      opened = none_opened script calls count (vec_len c.new-shards.result) c.in_ok-places.places.items none;
    }

pub loop-opened-preserved : goal.loop-opened-preserved
loop-opened-preserved g c =
    let script = c.args.checked.now.table in
    let calls = c.args.plan.now.calls in
    let count = c.args.plan.now.shards in
    let shard = vec_len c.loop-opened.shards in
    let next = vec_len c.push.new.self in
    let one_more = c.in_ok-push.ensures.len in
    let first = first_left script calls count shard next (into_iter_items c.loop-opened.opened-iterator) (into_iter_items c.next.new.self) c.in-Some.opened
    (c.in_ok-kept.kept, c.in_ok-kept.nexts) one_more c.in-Some.ensures.steps.0 c.in_ok-kept.was c.loop-opened.invariant.left in record {
      places = c.seat.ensures.len ∙ c.loop-opened.invariant.places;
      left = first.1;
      opened = shard_opened script calls count shard next c.in_ok-kept.nexts.items c.loop-opened.places.items c.seat.new.places.items one_more first.0
          c.in_ok-seat.ensures.seated c.loop-opened.invariant.opened;
    }

pub returns-clause-shards : goal.returns-clause-shards
returns-clause-shards g c =
    let left = into_iter_items c.loop-opened.opened-iterator in
    none_left c.args.checked.now.table c.args.plan.now.calls c.args.plan.now.shards (vec_len c.loop-opened.shards) left
    (nil_from_length left (omega (arith, c.in-None.ensures.steps.0))) c.loop-opened.invariant.left

pub returns-clause-opened : goal.returns-clause-opened
returns-clause-opened g c = λ some.
    let script = c.args.checked.now.table in
    let calls = c.args.plan.now.calls in
    let count = c.args.plan.now.shards in
    let left = into_iter_items c.loop-opened.opened-iterator in
    let none = nil_from_length left (omega (arith, c.in-None.ensures.steps.0)) in
    let all = none_left script calls count (vec_len c.loop-opened.shards) left none c.loop-opened.invariant.left in
    shards_opened script calls count (vec_len c.loop-opened.shards) c.loop-opened.places.items (omega (arith, all)) some c.loop-opened.invariant.opened
