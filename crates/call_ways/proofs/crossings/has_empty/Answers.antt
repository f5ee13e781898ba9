-- One configuration more.
use Rattle.std.proofs.Common.{List, refl}
use Rattle.closure.proofs.FindingLemmas.{refuted}
use Rattle.configuration.specs.Packed.{Words}
use Rattle.call_ways.specs.Crossed.{values_of}
use Rattle.call_ways.specs.Passing.{IsEmpty, IsSoIn}
use Rattle.call_ways.proofs.Below.{none_found, none_more}
use Rattle.call_ways.proofs.Passing.{is_here, is_within, not_here}
use Rattle.call_ways.proofs.crossings.has_empty.Goals as goal

pub returns-then-is_empty : goal.returns-then-is_empty
returns-then-is_empty c =
    let configs : List Words = c.args.configs.now in
    let so = is_here IsEmpty configs c.loop-config.config-index c.config-item.result c.loop-config-test.true c.config-item.is
    (c.is_empty.ensures.0 c.if-is_empty.true) in
    ((λ _. (c.loop-config.config-index, so)), (λ _. refl))

pub loop-config-preserved : goal.loop-config-preserved
loop-config-preserved c =
    let configs : List Words = c.args.configs.now in
    none_more (IsSoIn IsEmpty (values_of configs)) c.loop-config.config-index c.loop-config.invariant
    (not_here IsEmpty configs c.loop-config.config-index c.config-item.result c.loop-config-test.true c.config-item.is
    (λ empty. refuted c.is_empty.result c.if-is_empty.false (c.is_empty.ensures.1 empty)))

pub returns : goal.returns
returns c =
    let configs : List Words = c.args.configs.now in
    none_found (IsSoIn IsEmpty (values_of configs)) c.loop-config.config-index c.loop-config.invariant
    (λ k so. is_within IsEmpty configs c.loop-config.config-index k c.loop-config-test.false so)
