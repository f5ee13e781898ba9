-- A state with too many entries was found.
use Rattle.std.proofs.Common.{◌∙◌, ap, sym, length, lt-ltb, nat_lt}
use Rattle.certificate.specs.Outlines.{outlined_for}
use Rattle.certificate.proofs.Limits.{some_below_at}
use Rattle.certificate.proofs.outline.has_crowd.Goals as goal

pub returns-then-entries_for-gt-MOST_ENTRIES : goal.returns-then-entries_for-gt-MOST_ENTRIES
returns-then-entries_for-gt-MOST_ENTRIES c =
    let outlines = c.args.outlines.now in
    let inside = rw c.states-state-end.ensures.value at c.loop-state-test.true in
    some_below_at (λ state. nat_lt 256 (outlined_for outlines state)) c.loop-state.state (length c.args.script.now.states) inside
    (ap (λ n. nat_lt 256 n) (sym c.entries_for.ensures) ∙ lt-ltb 256 c.entries_for.result c.if-entries_for-gt-MOST_ENTRIES.true)
