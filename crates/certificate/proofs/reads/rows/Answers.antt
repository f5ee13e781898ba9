-- A member that is bad makes the object bad, and at the end all members are read.
use Rattle.std.proofs.Common.{◌∙◌, ap, sym, map}
use Rattle.std.proofs.lemmas.Result.{err_from_is_err_and}
use Rattle.std.proofs.lemmas.List.{map-append}
use Rattle.std.specs.Map.Iter.{deref_pair}
use Rattle.serde_json.specs.View.{view}
use Rattle.certificate.specs.Keys.{row_of}
use Rattle.certificate.proofs.Each.{read_next, read_none, read_end}
use Rattle.certificate.proofs.Passing.{bad_key_passes}
use Rattle.certificate.proofs.Trees.{member_seen, table_read}
use Rattle.certificate.proofs.reads.rows.Goals as goal

pub returns-in_err-read_row : goal.returns-in_err-read_row
returns-in_err-read_row g c =
    let ps = c.deref-name-items.result.now in
    let p = err_from_is_err_and c.from_residual-in_err-read_row.result c.from_residual-in_err-read_row.ensures.1 in
    rw (p.1, p.2) (bad_key_passes _ _ _ (λ none.
    table_read g.T.Reads.meaning (view c.args.value.now) _ ps _ c.in_ok-object.ensures (ap (map deref_pair) c.deref-name-items.ensures.value ∙ c.in_ok-members.ensures)
    (read_none (λ p. row_of g.T.Reads.meaning (member_seen (deref_pair p))) ps c.loop-name.name-index c.loop-name-item.result _ c.loop-name-test.true c.loop-name-item.is
    (ap (λ name. row_of g.T.Reads.meaning (name, view c.loop-name-item.result.1.now)) (sym c.as_str.ensures.value) ∙ none) c.loop-name.invariant))
    c.in_err-read_row.ensures)

pub loop-name-preserved : goal.loop-name-preserved
loop-name-preserved g c =
    let ps = c.deref-name-items.result.now in
    let next = read_next (λ p. row_of g.T.Reads.meaning (member_seen (deref_pair p))) ps c.loop-name.name-index c.loop-name-item.result _ _ c.loop-name-test.true c.loop-name-item.is
    (ap (λ name. row_of g.T.Reads.meaning (name, view c.loop-name-item.result.1.now)) (sym c.as_str.ensures.value) ∙ c.in_ok-read_row.ensures) c.loop-name.invariant in
    rw (c.in_ok-push.ensures.items, map-append) next

pub returns : goal.returns
returns g c =
    let ps = c.deref-name-items.result.now in
    table_read g.T.Reads.meaning (view c.args.value.now) _ ps _ c.in_ok-object.ensures (ap (map deref_pair) c.deref-name-items.ensures.value ∙ c.in_ok-members.ensures)
    (read_end (λ p. row_of g.T.Reads.meaning (member_seen (deref_pair p))) ps c.loop-name.name-index _ c.loop-name-test.false c.loop-name.invariant)
