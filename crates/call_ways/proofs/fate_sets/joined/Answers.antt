-- One set more; at the end there is none more, and no fate.
use Rattle.std.proofs.Common.{◌≤◌, List, length, arith, subst, sym}
use Rattle.call_ways.specs.declared.fate_sets.FateSet.{FateSet}
use Rattle.call_ways.proofs.FateSets.{AreMade, all_made, none_made, one_made}
use Rattle.call_ways.proofs.fate_sets.joined.Goals as goal

pub loop-place-init : goal.loop-place-init
loop-place-init c =
    subst (λ (made : List FateSet). AreMade c.args.sets.now c.args.fates.now made 0) (sym c.new-joined.ensures.items)
    (none_made c.args.sets.now c.args.fates.now)

pub loop-place-preserved : goal.loop-place-preserved
loop-place-preserved c =
    one_made c.args.sets.now c.args.fates.now c.loop-place.joined.items c.push_set.new.sets.items c.joined_at.result c.loop-place.place
    c.loop-place.invariant c.joined_at.ensures c.in_ok-push_set.ensures

pub returns : goal.returns
returns c =
    let sets : length c.args.sets.now ≤ c.loop-place.place = omega (arith, c.larger-count.ensures.one, c.loop-place-test.false) in
    let fates : length c.args.fates.now ≤ c.loop-place.place = omega (arith, c.larger-count.ensures.other, c.loop-place-test.false) in
    all_made c.args.sets.now c.args.fates.now c.loop-place.joined.items c.loop-place.place sets fates c.loop-place.invariant
