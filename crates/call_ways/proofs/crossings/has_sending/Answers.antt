-- One configuration more.
use Rattle.std.proofs.Common.{List, refl}
use Rattle.closure.proofs.FindingLemmas.{refuted}
use Rattle.configuration.specs.Packed.{Words}
use Rattle.call_ways.specs.Crossed.{values_of}
use Rattle.call_ways.specs.Passing.{IsSending, IsSoIn}
use Rattle.call_ways.proofs.Below.{none_found, none_more}
use Rattle.call_ways.proofs.Passing.{is_here, is_within, not_here}
use Rattle.call_ways.proofs.crossings.has_sending.Goals as goal

pub returns-then-not-is_empty : goal.returns-then-not-is_empty
returns-then-not-is_empty c =
    let configs : List Words = c.args.configs.now in
    let so = is_here IsSending configs c.loop-config.config-index c.config-item.result c.loop-config-test.true c.config-item.is
    (λ empty. refuted c.is_empty.result c.if-not-is_empty.true (c.is_empty.ensures.1 empty)) in
    ((λ _. (c.loop-config.config-index, so)), (λ _. refl))

pub loop-config-preserved : goal.loop-config-preserved
loop-config-preserved c =
    let configs : List Words = c.args.configs.now in
    none_more (IsSoIn IsSending (values_of configs)) c.loop-config.config-index c.loop-config.invariant
    (not_here IsSending configs c.loop-config.config-index c.config-item.result c.loop-config-test.true c.config-item.is
    (λ sending. sending (c.is_empty.ensures.0 c.if-not-is_empty.false)))

pub returns : goal.returns
returns c =
    let configs : List Words = c.args.configs.now in
    none_found (IsSoIn IsSending (values_of configs)) c.loop-config.config-index c.loop-config.invariant
    (λ k so. is_within IsSending configs c.loop-config.config-index k c.loop-config-test.false so)
