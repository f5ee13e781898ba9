-- Each piece goes on where the one before it ends, and the last one to the end.
use Rattle.std.proofs.Common.{ℕ, ◌≤◌, List, refl, sym, subst, arith}
use Rattle.parcheck.specs.declared.pieces.Piece.{Piece}
use Rattle.parcheck.specs.Pieces.{AreRuns}
use Rattle.parcheck.proofs.PieceLemmas.{one_more_run}
use Rattle.parcheck.proofs.pieces.pieces_of.Goals as goal

pub loop-number-preserved : goal.loop-number-preserved
loop-number-preserved c = record {
  runs = subst (λ (pieces : List Piece). AreRuns 0 pieces c.end_of-last.result) (sym c.in_ok-push.ensures.items)
      (one_more_run 0 c.loop-number.pieces.items c.loop-number.first (record { first = c.loop-number.first; last = c.end_of-last.result })
      c.loop-number.invariant.runs refl c.end_of-last.ensures.from);
  within = omega (arith, c.end_of-last.ensures.within, c.entries_of-entries.ensures);
}

pub returns : goal.returns
returns c =
    let last = c.entries_of-entries.result in
    let within : c.loop-number.first ≤ last = omega (arith, c.entries_of-entries.ensures, c.loop-number.invariant.within) in (
      subst (λ (end : ℕ). AreRuns 0 c.push-2.new.self.items end) c.entries_of-entries.ensures
          (subst (λ (pieces : List Piece). AreRuns 0 pieces last) (sym c.in_ok-push-2.ensures.items)
          (one_more_run 0 c.loop-number.pieces.items c.loop-number.first (record { first = c.loop-number.first; last = last })
          c.loop-number.invariant.runs refl within)),
      omega (arith, c.entries_of-entries.ensures, c.entries_of-entries.type_inv),
    )
