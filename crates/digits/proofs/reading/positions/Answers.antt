use Rattle.std.proofs.Common.{◌≡◌, ◌<◌, ◌≤◌, length, arith}
use Rattle.std.proofs.lemmas.Result.{err_from_is_err_and}
use Rattle.digits.specs.Reading.{all_of, position_at}
use Rattle.digits.proofs.Values.{goes_on, ends, is_done, smaller}
use Rattle.digits.proofs.Steps.{position_at-shrinks}
use Rattle.digits.proofs.reading.positions.Goals as goal

pub returns-in_err-position : goal.returns-in_err-position
returns-in_err-position c =
    let p = err_from_is_err_and c.from_residual.result c.from_residual.ensures.1 in
    let some : 0 < length c.loop-rest.rest.now = grind (arith, c.loop-rest-test.true) in
    rw (p.1, p.2) (ends (position_at c.args.end) c.in_err-position.field-0.0 c.loop-rest.found.items c.loop-rest.rest.now (all_of (position_at c.args.end) c.args.text.now) some c.in_err-position.ensures c.loop-rest.invariant.1)

pub loop-rest-smaller : goal.loop-rest-smaller
loop-rest-smaller c =
    let some : 0 < length c.loop-rest.rest.now = grind (arith, c.loop-rest-test.true) in
    smaller (position_at c.args.end) (position_at-shrinks c.args.end) c.loop-rest.rest.now c.in_ok-position.position c.in_ok-position.after.now some c.in_ok-position.ensures

pub loop-rest-preserved : goal.loop-rest-preserved
loop-rest-preserved c =
    let some : 0 < length c.loop-rest.rest.now = grind (arith, c.loop-rest-test.true) in
    let less = smaller (position_at c.args.end) (position_at-shrinks c.args.end) c.loop-rest.rest.now c.in_ok-position.position c.in_ok-position.after.now some c.in_ok-position.ensures in
    let shorter : length c.in_ok-position.after.now ≤ c.args.end = omega (arith, less, c.loop-rest.invariant.0) in
    (shorter, rw c.in_ok-push.ensures.items (goes_on (position_at c.args.end) (position_at-shrinks c.args.end) c.loop-rest.found.items c.loop-rest.rest.now c.in_ok-position.position c.in_ok-position.after.now (all_of (position_at c.args.end) c.args.text.now) some c.in_ok-position.ensures c.loop-rest.invariant.1))

pub returns : goal.returns
returns c =
    let none : length c.loop-rest.rest.now ≡ 0 = grind (arith, c.loop-rest-test.false) in
    is_done (position_at c.args.end) c.loop-rest.found.items c.loop-rest.rest.now (all_of (position_at c.args.end) c.args.text.now) none c.loop-rest.invariant.1
