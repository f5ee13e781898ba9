-- One configuration more is allowed, or it is not; then all are.
use Rattle.std.proofs.Common.{◌≡◌, ◌∙◌, refl, sym}
use Rattle.std.specs.List.{All}
use Rattle.std.proofs.lemmas.Bool.{true≢false}
use Rattle.configuration.specs.Config.{configuration_of}
use Rattle.configuration.specs.Packed.{Words}
use Rattle.entry_table.specs.Listed.{Allows}
use Rattle.entry_table.proofs.EachLemmas.{one_more_holds, holds_of_each, is_contained}
use Rattle.entry_table.proofs.entry.Entry.allows_each.Goals as goal

pub loop-config-preserved : goal.loop-config-preserved
loop-config-preserved c =
    one_more_holds (λ (w : Words). ((configuration_of w).state ≡ c.args.self.now.state) × All (Allows (configuration_of w)) c.args.self.now.components)
    c.args.configs.now c.loop-config.config-index c.config-item.result c.config-item.is (c.allows.ensures.0 c.if-not-allows.false) c.loop-config.invariant

pub returns-then-not-allows : goal.returns-then-not-allows
returns-then-not-allows c = (
  λ bad. absurd (true≢false (sym bad)),
  λ each. absurd (true≢false (sym (c.allows.ensures.1
      (each c.config-item.result (is_contained c.args.configs.now c.loop-config.config-index c.config-item.result c.loop-config-test.true c.config-item.is)))
      ∙ c.if-not-allows.true)),
)

pub returns : goal.returns
returns c = (
  λ yes.
      holds_of_each (λ (w : Words). ((configuration_of w).state ≡ c.args.self.now.state) × All (Allows (configuration_of w)) c.args.self.now.components)
      c.args.configs.now c.loop-config.config-index c.loop-config-test.false c.loop-config.invariant,
  λ each. refl,
)
