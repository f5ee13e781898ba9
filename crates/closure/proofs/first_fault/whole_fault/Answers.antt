-- The opening is asked before the restart.
use Rattle.std.proofs.Common.{sym, subst}
use Rattle.mg_model.specs.Entries.{IsCovered}
use Rattle.mg_model.specs.Obligations.{IsFirstFault}
use Rattle.closure.proofs.FindingLemmas.{refuted}
use Rattle.closure.proofs.ObligationOrder.{opening_broken, reset_broken}
use Rattle.closure.proofs.first_fault.whole_fault.Goals as goal

pub returns-then-not-covers : goal.returns-then-not-covers
returns-then-not-covers c =
    let script = c.args.script.now in
    let entries = c.args.cert.now in
    subst (IsFirstFault script entries) (sym c.fault_of.ensures)
    (opening_broken script entries
    (λ covered. refuted c.covers.result c.if-not-covers.true (c.covers.ensures.1 (subst (IsCovered entries) (sym c.opening.ensures) covered))))

pub returns-then-not-covers-2 : goal.returns-then-not-covers-2
returns-then-not-covers-2 c =
    let script = c.args.script.now in
    let entries = c.args.cert.now in
    let opened = subst (IsCovered entries) c.opening.ensures (c.covers.ensures.0 c.if-not-covers.false) in
    subst (IsFirstFault script entries) (sym c.fault_of-then-not-covers-2.ensures)
    (reset_broken script entries opened
    (λ covered. refuted c.covers-2.result c.if-not-covers-2.true
    (c.covers-2.ensures.1 (subst (IsCovered entries) (sym c.reset.ensures) covered))))

pub returns : goal.returns
returns c =
    let entries = c.args.cert.now in (
      subst (IsCovered entries) c.opening.ensures (c.covers.ensures.0 c.if-not-covers.false),
      subst (IsCovered entries) c.reset.ensures (c.covers-2.ensures.0 c.if-not-covers-2.false),
    )
