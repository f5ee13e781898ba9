-- The three tests are the conditions.
use Rattle.std.proofs.Common.{sym, ◌∙◌}
use Rattle.configuration.specs.Config.{configuration_of}
use Rattle.configuration.proofs.SlotLemmas.{inactive_past_four, unset_past_four}
use Rattle.configuration.proofs.WellFormedLemmas.{tests_well_formed, right_cuts, right_ephemeral, at_all_slots}
use Rattle.configuration.specs.Tests.{is_ephemeral_right}
use Rattle.configuration.proofs.well_formed.is_well_formed.Goals as goal

pub returns-then-not-are_contexts_right : goal.returns-then-not-are_contexts_right
returns-then-not-are_contexts_right c = (
  λ bad. absurd (cc),
  λ w. sym c.if-not-are_contexts_right.true ∙ c.are_contexts_right.ensures.1 w.live,
)

pub returns-then-not-are_ephemerals_right : goal.returns-then-not-are_ephemerals_right
returns-then-not-are_ephemerals_right c = (
  λ bad. absurd (cc),
  λ w. sym c.if-not-are_ephemerals_right.true ∙ c.are_ephemerals_right.ensures
      ∙ at_all_slots (is_ephemeral_right (configuration_of c.args.config.now)) (right_ephemeral (configuration_of c.args.config.now) w),
)

pub returns : goal.returns
returns c = (
  λ cuts. tests_well_formed (configuration_of c.args.config.now) (inactive_past_four c.args.config.now) (unset_past_four c.args.config.now)
      (c.are_contexts_right.ensures.0 c.if-not-are_contexts_right.false)
      (sym c.are_ephemerals_right.ensures ∙ c.if-not-are_ephemerals_right.false) (c.are_cuts_right.ensures.0 cuts),
  λ w. c.are_cuts_right.ensures.1 (right_cuts (configuration_of c.args.config.now) w),
)
