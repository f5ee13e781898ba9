-- What is walked over of all pieces stands in their order, so what is found is that of the whole, and that is one.
use Rattle.std.proofs.Common.{◌∙◌, List, length, ap, arith, subst, sym}
use Rattle.std.specs.List.{AllZip}
use Rattle.closure.specs.declared.first_fault.Finding.TheVariants as finding
use Rattle.parcheck.specs.declared.pieces.Piece.{Piece}
use Rattle.closure.proofs.OneFinding.{one_finding}
use Rattle.closure.proofs.RunLemmas.{run_answer}
use Rattle.rayon.specs.Lists.{min_len_base}
use Rattle.rayon.specs.declared.iter.min_len.MinLen.{MinLen}
use Rattle.rayon.specs.declared.slice.Iter.{Iter}
use Rattle.rayon.proofs.ToStd.{slice-AllZip}
use Rattle.parcheck.specs.Pieces.{IsOfPiece}
use Rattle.parcheck.proofs.PieceLemmas.{all_walked}
use Rattle.parcheck.proofs.first_fault.check_par.Goals as goal

pub returns-in-Some-clause-same : goal.returns-in-Some-clause-same
returns-in-Some-clause-same g c other is =
    one_finding c.args.script.now c.args.cert.now (finding.Broken c.in-Some.fault) other c.in-Some.ensures is

pub in_order-requires : goal.in_order-requires
in_order-requires g c =
    let script = c.args.script.now in
    let entries = c.args.cert.now in
    let pieces = c.in_ok-pieces.pieces.items in
    let slice =
    ap (λ (it : MinLen (Iter Piece)). (min_len_base it).slice.now) c.map.ensures.base
    ∙ ap (λ (it : Iter Piece). it.slice.now) c.with_min_len.ensures.base
    ∙ c.par_iter.ensures in
    let collected = c.in_ok-walked.ensures in
    let chain = collected.1 in
    let each = slice-AllZip chain.0 c.as_slice.result.now (chain.1 ∙ slice)
    (IsOfPiece c.map.result.f.0.now c.map.result.f.1.now) collected.0 chain.2 in
    let same = subst (λ f. AllZip (IsOfPiece f.0.now f.1.now) c.as_slice.result.now collected.0) c.map.ensures.f each in
    let found = subst (λ (ones : List Piece). AllZip (IsOfPiece script entries) ones collected.0) c.as_slice.ensures.value same in
    let all = subst (AllZip (IsOfPiece script entries) pieces) (sym (c.as_slice-2.ensures.value ∙ collected.2)) found in
    all_walked script entries 0 0 pieces (length entries) c.as_slice-2.result.now (omega arith) c.in_ok-pieces.ensures.0 all

pub returns-clause-finding : goal.returns-clause-finding
returns-clause-finding g c =
    run_answer c.args.script.now c.args.cert.now c.in_order.result c.in_default.ensures.0 c.in_default.ensures.1 c.in_order.ensures

pub returns-clause-same : goal.returns-clause-same
returns-clause-same g c other is =
    one_finding c.args.script.now c.args.cert.now c.in_order.result other (returns-clause-finding g c) is
