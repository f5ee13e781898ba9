-- A line that is not marked with this one refutes it.
use Rattle.std.proofs.Common.{◌≡◌, ℕ, ◌<◌, slice_index_or, rules, sym, subst, ◌∙◌}
use Rattle.configuration.proofs.PathLemmas.{slot_at}
use Rattle.closure.proofs.obligations.line_is_marked.Goals as goal

pub returns-then-not-pair_below_is_marked : goal.returns-then-not-pair_below_is_marked
returns-then-not-pair_below_is_marked c =
    let slot : slice_index_or c.all-others.result c.loop-other.other-index c.other-item.result ≡ c.loop-other.other-index =
    rw c.all-others.ensures (slot_at c.loop-other.other-index c.other-item.result c.loop-other-test.true) in
    let small : slice_index_or c.all-others.result c.loop-other.other-index c.other-item.result < 4 =
    subst (λ (k : ℕ). k < 4) (sym slot) c.loop-other-test.true in
    (λ bad. absurd (search rules), λ all. sym c.if-not-pair_below_is_marked.true ∙ c.pair_below_is_marked.ensures.1 (all _ small))
