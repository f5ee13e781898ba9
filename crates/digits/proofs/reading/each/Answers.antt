use Rattle.std.proofs.Common.{◌+◌, [], map, arith}
use Rattle.std.proofs.lemmas.Result.{err_from_is_err_and}
use Rattle.std.proofs.lemmas.List.{map_push}
use Rattle.digits.specs.Reading.{bar_before}
use Rattle.digits.proofs.Parts.{bar_after, part_at, part_fits, part_goes_on, part_ends, parts_done, parts_over}
use Rattle.digits.proofs.reading.each.Goals as goal

pub overflow_add-first : goal.overflow_add-first
overflow_add-first c =
    let at = part_at c.args.parts.now c.loop-index.index record { ref_ptr = (0, 0); now = [] } c.loop-index-test.true in
    let fits = part_fits c.loop-index.place c.args.start c.loop-index.index _ _ _ at c.loop-index.invariant.bytes in
    rw c.bars_before.ensures (omega (arith, fits, c.requires))

pub alternative-requires : goal.alternative-requires
alternative-requires c =
    let at = part_at c.args.parts.now c.loop-index.index record { ref_ptr = (0, 0); now = [] } c.loop-index-test.true in
    let fits = part_fits c.loop-index.place c.args.start c.loop-index.index _ _ _ at c.loop-index.invariant.bytes in
    rw c.bars_before.ensures (omega (arith, fits, c.requires))

pub overflow_add-place : goal.overflow_add-place
overflow_add-place c =
    let at = part_at c.args.parts.now c.loop-index.index record { ref_ptr = (0, 0); now = [] } c.loop-index-test.true in
    let fits = part_fits c.loop-index.place c.args.start c.loop-index.index _ _ _ at c.loop-index.invariant.bytes in
    rw c.bars_before.ensures (omega (arith, fits, c.requires))

pub returns-in_err-positions : goal.returns-in_err-positions
returns-in_err-positions c =
    let p = err_from_is_err_and c.from_residual.result c.from_residual.ensures.1 in
    let at = part_at c.args.parts.now c.loop-index.index record { ref_ptr = (0, 0); now = [] } c.loop-index-test.true in
    let so = rw at at c.loop-index.invariant.so_far in
    let fails = rw c.bars_before.ensures at c.in_err-positions.ensures in
    rw (p.1, p.2) (part_ends c.in_err-positions.field-0.0 (map (λ a. a.items) c.loop-index.found.items) (c.loop-index.place + bar_before c.loop-index.index) _ _ _ fails so)

pub loop-index-preserved : goal.loop-index-preserved
loop-index-preserved c =
    let at = part_at c.args.parts.now c.loop-index.index record { ref_ptr = (0, 0); now = [] } c.loop-index-test.true in
    let fits = part_fits c.loop-index.place c.args.start c.loop-index.index _ _ _ at c.loop-index.invariant.bytes in
    let so = rw at at c.loop-index.invariant.so_far in
    let gives = rw c.bars_before.ensures at c.in_ok-positions.ensures in
    record {
      bytes = rw (c.bars_before.ensures, bar_after c.loop-index.index) (omega (arith, fits));
      so_far = rw (c.in_ok-push.ensures.items, map_push _ c.loop-index.found.items c.in_ok-positions.positions, c.bars_before.ensures, bar_after c.loop-index.index)
          (part_goes_on (map (λ a. a.items) c.loop-index.found.items) (c.loop-index.place + bar_before c.loop-index.index) _ _ _ _ gives so);
    }

pub returns : goal.returns
returns c = parts_done (map (λ a. a.items) c.loop-index.found.items) (c.loop-index.place + bar_before c.loop-index.index) _ _ (parts_over c.args.parts.now c.loop-index.index c.loop-index-test.false) c.loop-index.invariant.so_far
