-- The rows are those of the entry.
use Rattle.std.proofs.Common.{◌∙◌, ap, subst}
use Rattle.script_table.specs.Table.{place_of}
use Rattle.certificate.specs.FoundRows.{FindsSlots, none_found, with_rows}
use Rattle.certificate.proofs.SlotLemmas.{finds_slots}
use Rattle.certificate.proofs.entry_rows.named_lines.Goals as goal

pub returns : goal.returns
returns c =
    let names = c.args.script.now.lines in
    subst (λ e. FindsSlots names e.lines c.by_slot.result) c.entry.view_is
    (finds_slots names c.entry.inside.lines.items c.by_slot.result
    (c.by_slot.ensures ∙ ap (with_rows (λ name. place_of name names) none_found) c.as_slice.ensures.value))
