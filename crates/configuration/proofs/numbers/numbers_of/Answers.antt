-- Each value's bit is set in its turn.
use Rattle.std.proofs.Common.{◌+◌, drop, subst, arith}
use Rattle.std.proofs.lemmas.List.{drop_all}
use Rattle.configuration.proofs.NumberLemmas.{IsNumbered, at, none_numbered, one_numbered, all_numbered}
use Rattle.configuration.proofs.numbers.numbers_of.Goals as goal

pub loop-value-init : goal.loop-value-init
loop-value-init g c = none_numbered g.N.Numbers.code g.N.Numbers.value_at c.args.values.now

pub loop-value-preserved : goal.loop-value-preserved
loop-value-preserved g c =
    let values = c.args.values.now in
    let i = c.loop-value.value-index in
    let here = at values i c.value-item.result c.loop-value-test.true c.value-item.is in
    one_numbered g.N.Numbers.code g.N.Numbers.value_at values (drop (i + 1) values) c.loop-value.bits c.value-item.result c.number.result
    c.number.ensures.value (omega (arith, c.number.ensures.small)) c.number.ensures.back
    (subst (λ left. IsNumbered g.N.Numbers.code g.N.Numbers.value_at values c.loop-value.bits left) here c.loop-value.invariant)

pub returns : goal.returns
returns g c n l e =
    all_numbered g.N.Numbers.code g.N.Numbers.value_at c.args.values.now _ c.loop-value.bits
    (drop_all c.loop-value.value-index c.args.values.now c.loop-value-test.false) c.loop-value.invariant n l e
