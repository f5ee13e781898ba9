-- One configuration more.
use Rattle.closure.proofs.FindingLemmas.{refuted}
use Rattle.call_ways.specs.Seen.{IsSeenAt}
use Rattle.call_ways.proofs.Below.{none_found, none_more}
use Rattle.call_ways.proofs.Seeing.{seen_within, unseen_here}
use Rattle.call_ways.proofs.sights.is_seen.Goals as goal

pub loop-config-preserved : goal.loop-config-preserved
loop-config-preserved c =
    none_more (IsSeenAt c.args.script.now c.args.configs.now c.args.sight.now) c.loop-config.config-index c.loop-config.invariant
    (unseen_here c.args.script.now c.args.configs.now c.args.sight.now c.loop-config.config-index c.config-item.result c.loop-config-test.true
    c.config-item.is (λ shows. refuted c.in_ok-shows.field-0 c.if-branch.false (c.in_ok-shows.ensures.1 shows)))

pub returns : goal.returns
returns c =
    none_found (IsSeenAt c.args.script.now c.args.configs.now c.args.sight.now) c.loop-config.config-index c.loop-config.invariant
    (λ k seen. seen_within c.args.script.now c.args.configs.now c.args.sight.now c.loop-config.config-index k c.loop-config-test.false seen)
