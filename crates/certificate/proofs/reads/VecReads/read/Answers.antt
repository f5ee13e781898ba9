-- An item that is bad makes the array bad, and at the end all items are read.
use Rattle.std.proofs.Common.{◌∙◌, ap, Some}
use Rattle.std.proofs.lemmas.Result.{err_from_is_err_and}
use Rattle.serde_json.specs.View.{view, items_view}
use Rattle.certificate.proofs.Each.{read_none, read_end}
use Rattle.certificate.proofs.Passing.{bad_key_passes}
use Rattle.certificate.proofs.Trees.{list_read}
use Rattle.certificate.proofs.reads.VecReads.read.Goals as goal

pub returns-in_err-read : goal.returns-in_err-read
returns-in_err-read g c =
    let vs = c.deref-item-items.result.now in
    let p = err_from_is_err_and c.from_residual-in_err-read.result c.from_residual-in_err-read.ensures.1 in
    rw (p.1, p.2) (bad_key_passes _ _ _ (λ none.
    list_read g.T.Reads.meaning (view c.args.value.now) vs _ (ap (λ xs. Some (items_view xs)) c.deref-item-items.ensures.value ∙ c.in-Some.ensures)
    (read_none (λ v. g.T.Reads.meaning (view v)) vs c.loop-item.item-index c.item-item.result _ c.loop-item-test.true c.item-item.is none c.loop-item.invariant))
    c.in_err-read.ensures)

pub returns : goal.returns
returns g c =
    let vs = c.deref-item-items.result.now in
    list_read g.T.Reads.meaning (view c.args.value.now) vs _ (ap (λ xs. Some (items_view xs)) c.deref-item-items.ensures.value ∙ c.in-Some.ensures)
    (read_end (λ v. g.T.Reads.meaning (view v)) vs c.loop-item.item-index _ c.loop-item-test.false c.loop-item.invariant)
