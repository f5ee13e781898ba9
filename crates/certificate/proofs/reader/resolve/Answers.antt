-- What the outlines of the entries say is what the entries say.
use Rattle.std.proofs.Common.{◌∙◌, sym, ap, subst, Ok}
use Rattle.certificate.specs.Certificate.{checked_or, listed_meant}
use Rattle.certificate.specs.Outlines.{limit_passed}
use Rattle.typed_values.specs.Shape.{Misses, each}
use Rattle.certificate.proofs.OutlineLemmas.{each_outlined, refused, unknown, unlisted, within}
use Rattle.certificate.proofs.reader.resolve.Goals as goal

pub returns-in-Err : goal.returns-in-Err
returns-in-Err c =
    let script = c.args.script.now in
    let written = c.args.written.now in
    rw c.unread_by.ensures (unknown script (each (listed_meant script) written) c.in-Err.missing
    (subst (Misses c.in-Err.missing) (each_outlined script written) c.in-Err.ensures))

pub returns-in-Some : goal.returns-in-Some
returns-in-Some c =
    let script = c.args.script.now in
    let written = c.args.written.now in
    refused script (each (listed_meant script) written) c.in-Ok.outlines.items c.in-Some.fault
    (sym (each_outlined script written) ∙ c.in-Ok.ensures)
    (ap (limit_passed script) (sym c.as_slice-2.ensures.value) ∙ sym c.limit_passed.ensures ∙ c.in-Some.is)

pub entries-requires-clause-some : goal.entries-requires-clause-some
entries-requires-clause-some c =
    let script = c.args.script.now in
    let written = c.args.written.now in
    (within script (each (listed_meant script) written) c.in-Ok.outlines.items c.in-Ok-drafts.drafts.items
    (sym (each_outlined script written) ∙ c.in-Ok.ensures)
    (ap (limit_passed script) (sym c.as_slice-2.ensures.value) ∙ sym c.limit_passed.ensures ∙ c.in_default.is) c.in-Ok-drafts.ensures).0

pub entries-requires-clause-within : goal.entries-requires-clause-within
entries-requires-clause-within c =
    let script = c.args.script.now in
    let written = c.args.written.now in
    (within script (each (listed_meant script) written) c.in-Ok.outlines.items c.in-Ok-drafts.drafts.items
    (sym (each_outlined script written) ∙ c.in-Ok.ensures)
    (ap (limit_passed script) (sym c.as_slice-2.ensures.value) ∙ sym c.limit_passed.ensures ∙ c.in_default.is) c.in-Ok-drafts.ensures).1

pub returns-in-Ok-drafts : goal.returns-in-Ok-drafts
returns-in-Ok-drafts c =
    let script = c.args.script.now in
    let written = c.args.written.now in
    let meant = each (listed_meant script) written in
    let listed = c.in-Ok-drafts.drafts.items in
    ap (checked_or script) c.in-Ok-drafts.ensures
    ∙ (within script meant c.in-Ok.outlines.items listed (sym (each_outlined script written) ∙ c.in-Ok.ensures)
    (ap (limit_passed script) (sym c.as_slice-2.ensures.value) ∙ sym c.limit_passed.ensures ∙ c.in_default.is) c.in-Ok-drafts.ensures).2
    ∙ ap (λ entries. Ok entries) (sym c.in_ok-entries-in-Ok-drafts.ensures)

pub returns : goal.returns
returns c =
    let script = c.args.script.now in
    rw c.unread_by-in-Err-drafts.ensures (unlisted script (each (listed_meant script) c.args.written.now) c.in-Err-drafts.missing c.in-Err-drafts.ensures)
