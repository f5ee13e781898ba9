-- A path either way, between two that differ.
use Rattle.std.proofs.Common.{◌∙◌, sym}
use Rattle.configuration.proofs.WayLemmas.{joined_one_way, joined_other_way}
use Rattle.configuration.proofs.config.paths.Ways.join.Goals as goal

pub returns-then-lead : goal.returns-then-lead
returns-then-lead c config ways =
    joined_one_way config c.args.one c.args.other c.lead.result (λ e. c.if-index.false (c.index.ensures.value ∙ e ∙ sym c.index-2.ensures.value))
    (c.lead.ensures config ways) c.if-lead.true

pub returns : goal.returns
returns c config ways =
    joined_other_way config c.args.one c.args.other c.lead.result c.lead-2.result (λ e. c.if-index.false (c.index.ensures.value ∙ e ∙ sym c.index-2.ensures.value))
    (c.lead.ensures config ways) c.if-lead.false (c.lead-2.ensures config ways)
