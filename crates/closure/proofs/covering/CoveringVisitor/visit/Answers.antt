-- A step is covered where some entry has its result.
use Rattle.std.proofs.Common.{◌∙◌, List, sym, subst}
use Rattle.mg_model.specs.Entries.{Entry, IsCovered}
use Rattle.configuration.specs.Config.{configuration_of}
use Rattle.closure.proofs.CoveringLemmas.{one_more_covered, first_uncovered}
use Rattle.closure.proofs.FindingLemmas.{refuted}
use Rattle.closure.proofs.covering.CoveringVisitor.visit.Goals as goal

pub returns-then-has : goal.returns-then-has
returns-then-has c entries before told =
    let result = configuration_of c.args.leads_to.now in (
      c.has.ensures.same ∙ told.0,
      one_more_covered entries before (c.args.name, result) told.1 (subst (λ (es : List Entry). IsCovered es result) told.0 (c.has.ensures.covered.0 c.if-has.true)),
    )

pub returns-else-has : goal.returns-else-has
returns-else-has c entries before later told =
    let result = configuration_of c.args.leads_to.now in
    first_uncovered entries before (c.args.name, result) later told.1
    (λ covered. refuted c.has.result c.if-has.false (c.has.ensures.covered.1 (subst (λ (es : List Entry). IsCovered es result) (sym told.0) covered)))
