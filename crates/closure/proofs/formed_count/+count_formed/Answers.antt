-- The one number is a point or none; or the points of each value of the first component are counted in turn, or once for all.
use Rattle.std.proofs.Common.{◌<◌, List, length, subst, arith}
use Rattle.mg_model.specs.Configuration.{Configuration}
use Rattle.mg_model.specs.Entries.{Component, choices_of}
use Rattle.configuration.specs.Config.{configuration_of}
use Rattle.entry_table.specs.Shown.{shown, shown_all}
use Rattle.closure.specs.Counting.{AreAllCounted}
use Rattle.closure.proofs.FormedCounts.{all_counted, counted_here, free_counted, more_counted, none_counted}
use Rattle.closure.proofs.formed_count.+count_formed.Goals as goal

pub returns-in_default-clause-counted : goal.returns-in_default-clause-counted
returns-in_default-clause-counted t c script entries =
    counted_here script entries c.args.components.now (configuration_of c.args.config.now) c.is_well_formed.result c.from.result c.in_default.ensures.cases
    c.from.ensures c.is_well_formed.ensures

pub returns-then-keeps_wellformedness-clause-counted : goal.returns-then-keeps_wellformedness-clause-counted
returns-then-keeps_wellformedness-clause-counted t c script entries =
    free_counted script entries c.args.components.now c.in-Some.first.now c.in-Some.rest.now c.in-Some.ensures.cases.0 (configuration_of c.args.config.now)
    c.count-then-keeps_wellformedness.result c.count-then-keeps_wellformedness.ensures c.count_formed.result (c.keeps_wellformedness.ensures c.if-keeps_wellformedness.true)
    (subst (λ (d : Configuration). AreAllCounted (shown_all c.in-Some.rest.now) d script entries c.count_formed.result) c.choose.ensures
    (c.count_formed.ensures.counted script entries))

pub loop-place-init : goal.loop-place-init
loop-place-init t c = record {
  few = omega arith;
  counted = λ script entries.
      none_counted script entries (shown c.in-Some.first.now) (shown_all c.in-Some.rest.now) (configuration_of c.args.config.now);
}

pub loop-place-preserved : goal.loop-place-preserved
loop-place-preserved t c =
    let first : Component = shown c.in-Some.first.now in
    let rest : List Component = shown_all c.in-Some.rest.now in
    let config : Configuration = configuration_of c.args.config.now in
    let lt : c.loop-place.place < length (choices_of first) = rw c.count-place-end.ensures at c.loop-place-test.true in
    record {
      few = omega (arith, c.loop-place.invariant.few, c.count_formed-points.ensures.few);
      counted = λ script entries.
          more_counted script entries first rest config c.loop-place.place c.loop-place.points c.count_formed-points.result lt
          (c.loop-place.invariant.counted script entries)
          (subst (λ (d : Configuration). AreAllCounted rest d script entries c.count_formed-points.result) c.choose-in-loop-place.ensures
          (c.count_formed-points.ensures.counted script entries));
    }

pub returns-clause-counted : goal.returns-clause-counted
returns-clause-counted t c script entries =
    all_counted script entries c.args.components.now c.in-Some.first.now c.in-Some.rest.now c.in-Some.ensures.cases.0 (configuration_of c.args.config.now)
    c.count-place-end.result c.count-place-end.ensures c.loop-place.place c.loop-place.points c.loop-place.auto.place-end c.loop-place-test.false
    (c.loop-place.invariant.counted script entries)
