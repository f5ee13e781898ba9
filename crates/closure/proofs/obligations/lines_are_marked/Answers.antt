-- One more line is marked.
use Rattle.std.proofs.Common.{◌≡◌, ℕ, ◌<◌, slice_index_or, rules, sym, subst, ◌∙◌, below_more}
use Rattle.configuration.specs.Config.{configuration_of}
use Rattle.configuration.proofs.PathLemmas.{slot_at}
use Rattle.closure.specs.Tests.{PairBelowIsMarked}
use Rattle.closure.proofs.obligations.lines_are_marked.Goals as goal

pub loop-one-preserved : goal.loop-one-preserved
loop-one-preserved c =
    let slot : slice_index_or c.all-slots.result c.loop-one.one-index c.one-item.result ≡ c.loop-one.one-index =
    rw c.all-slots.ensures (slot_at c.loop-one.one-index c.one-item.result c.loop-one-test.true) in
    let P = λ (i : ℕ). (j : ℕ) → j < 4 → PairBelowIsMarked c.args.script.now (configuration_of c.args.config.now) c.args.lines i j in (
      c.loop-one.invariant.0,
      below_more P c.loop-one.one-index c.loop-one.invariant.1
          (subst P slot (c.line_is_marked.ensures.0 (c.if-not-line_is_marked.false))),
    )

pub returns-then-not-line_is_marked : goal.returns-then-not-line_is_marked
returns-then-not-line_is_marked c =
    let slot : slice_index_or c.all-slots.result c.loop-one.one-index c.one-item.result ≡ c.loop-one.one-index =
    rw c.all-slots.ensures (slot_at c.loop-one.one-index c.one-item.result c.loop-one-test.true) in
    let small : slice_index_or c.all-slots.result c.loop-one.one-index c.one-item.result < 4 =
    subst (λ (k : ℕ). k < 4) (sym slot) c.loop-one-test.true in
    (λ bad. absurd (search rules), λ all. sym c.if-not-line_is_marked.true ∙ c.line_is_marked.ensures.1 (λ j below. all _ small j below))
