-- Each lot is joined to what was found before it.
use Rattle.std.proofs.Common.{refl, arith}
use Rattle.parcheck.proofs.PieceLemmas.{none_of_none}
use Rattle.parcheck.proofs.walked.walk_piece.Goals as goal

pub loop-last-init : goal.loop-last-init
loop-last-init c = record {
  rises = omega arith;
  within = λ rise. rise;
  found = none_of_none c.args.script.now c.args.cert.now c.args.piece.now.first c.args.piece.now.first refl;
}

pub loop-last-preserved : goal.loop-last-preserved
loop-last-preserved c =
    let script = c.args.script.now in
    let entries = c.args.cert.now in
    let first = c.args.piece.now.first in
    let next = c.lot_end-next.result in
    record {
      rises = omega (arith, c.loop-last.invariant.rises, c.lot_end-next.ensures.more);
      within = λ rise. c.lot_end-next.ensures.within;
      found = c.joined-found.ensures script entries first c.loop-last.last next c.loop-last.invariant.rises
          (omega (arith, c.lot_end-next.ensures.more)) (omega (arith, c.lot_end-next.type_inv)) c.loop-last.invariant.found c.check_run-more.ensures;
    }
