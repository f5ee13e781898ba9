-- What the components of other numbers of values say is what all the components say.
use Rattle.std.proofs.Common.{◌≡◌, ◌∙◌, sym, subst, Some}
use Rattle.entry_table.specs.Shown.{shown_all}
use Rattle.certificate.proofs.VariedLemmas.{outlined, varied_at}
use Rattle.certificate.proofs.outline.read_outline.Goals as goal

pub returns : goal.returns
returns c =
    let script = c.args.script.now in
    let entry = c.args.entry.now in
    let found = shown_all c.in_ok-varied.varied.items in
    rw (c.any_empty.ensures, c.are_large.ensures, c.as_slice.ensures.value, c.as_slice-2.ensures.value)
    (outlined script entry c.in-Some.state found c.in_ok-rows.ensures.0 (sym c.state_of.ensures ∙ c.in-Some.is)
    (subst (λ keys. varied_at script entry keys ≡ Some found) c.requires c.in_ok-varied.ensures))
