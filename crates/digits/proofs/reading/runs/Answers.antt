use Rattle.std.proofs.Common.{◌≡◌, ◌<◌, length, arith}
use Rattle.std.proofs.lemmas.Result.{err_from_is_err_and}
use Rattle.digits.specs.Reading.{all_of, run_at}
use Rattle.digits.proofs.Values.{goes_on, ends, is_done, smaller}
use Rattle.digits.proofs.Steps.{run_at-shrinks}
use Rattle.digits.proofs.reading.runs.Goals as goal

pub returns-in_err-span : goal.returns-in_err-span
returns-in_err-span c =
    let p = err_from_is_err_and c.from_residual.result c.from_residual.ensures.1 in
    let some : 0 < length c.loop-rest.rest.now = grind (arith, c.loop-rest-test.true) in
    rw (p.1, p.2) (ends (run_at c.args.start) c.in_err-span.field-0.0 c.loop-rest.found.items c.loop-rest.rest.now (all_of (run_at c.args.start) c.args.content.now) some c.in_err-span.ensures c.loop-rest.invariant)

pub loop-rest-smaller : goal.loop-rest-smaller
loop-rest-smaller c =
    let some : 0 < length c.loop-rest.rest.now = grind (arith, c.loop-rest-test.true) in
    smaller (run_at c.args.start) (run_at-shrinks c.args.start) c.loop-rest.rest.now c.in_ok-span.span c.in_ok-span.after.now some c.in_ok-span.ensures

pub loop-rest-preserved : goal.loop-rest-preserved
loop-rest-preserved c =
    let some : 0 < length c.loop-rest.rest.now = grind (arith, c.loop-rest-test.true) in
    rw c.in_ok-push.ensures.items (goes_on (run_at c.args.start) (run_at-shrinks c.args.start) c.loop-rest.found.items c.loop-rest.rest.now c.in_ok-span.span c.in_ok-span.after.now (all_of (run_at c.args.start) c.args.content.now) some c.in_ok-span.ensures c.loop-rest.invariant)

pub returns : goal.returns
returns c =
    let none : length c.loop-rest.rest.now ≡ 0 = grind (arith, c.loop-rest-test.false) in
    is_done (run_at c.args.start) c.loop-rest.found.items c.loop-rest.rest.now (all_of (run_at c.args.start) c.args.content.now) none c.loop-rest.invariant
