-- One configuration more is of the state, or it is not; then all are.
use Rattle.std.proofs.Common.{◌≡◌, ◌∙◌, sym}
use Rattle.std.proofs.lemmas.Bool.{true≢false}
use Rattle.configuration.specs.Config.{configuration_of}
use Rattle.configuration.specs.Packed.{IsPacked, Words}
use Rattle.entry_table.proofs.EachLemmas.{one_more_holds, holds_of_each, is_contained}
use Rattle.entry_table.proofs.cert.are_of_state.Goals as goal

pub loop-config-preserved : goal.loop-config-preserved
loop-config-preserved c =
    let configs = c.args.configs.now in
    let i = c.loop-config.config-index in
    let config = c.config-item.result in
    record {
      state = one_more_holds (λ (w : Words). (configuration_of w).state ≡ c.args.state) configs i config c.config-item.is
          (c.is_of_state.ensures.state.0 c.if-not-is_of_state.false) c.loop-config.invariant.state;
      packed = one_more_holds (λ (w : Words). IsPacked w) configs i config c.config-item.is c.is_of_state.ensures.packed c.loop-config.invariant.packed;
    }

pub returns-then-not-is_of_state-clause-others : goal.returns-then-not-is_of_state-clause-others
returns-then-not-is_of_state-clause-others c refused each =
    true≢false (sym (c.is_of_state.ensures.state.1
    (each c.config-item.result (is_contained c.args.configs.now c.loop-config.config-index c.config-item.result c.loop-config-test.true c.config-item.is)))
    ∙ c.if-not-is_of_state.true)

pub returns-clause-state : goal.returns-clause-state
returns-clause-state c all =
    holds_of_each (λ (w : Words). (configuration_of w).state ≡ c.args.state) c.args.configs.now c.loop-config.config-index c.loop-config-test.false
    c.loop-config.invariant.state

pub returns-clause-packed : goal.returns-clause-packed
returns-clause-packed c all =
    holds_of_each (λ (w : Words). IsPacked w) c.args.configs.now c.loop-config.config-index c.loop-config-test.false c.loop-config.invariant.packed
