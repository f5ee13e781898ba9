-- One node more.
use Rattle.std.proofs.Common.{refl}
use Rattle.closure.proofs.FindingLemmas.{refuted}
use Rattle.call_ways.proofs.Below.{none_more}
use Rattle.call_ends.specs.Spreading.{IsSilent}
use Rattle.call_ends.proofs.Telling.{SoAt, none_so, not_here, so_here}
use Rattle.call_ends.proofs.at_rest.is_silent_in.Goals as goal

pub returns-then-rests_silent : goal.returns-then-rests_silent
returns-then-rests_silent c = (
  (λ yes. so_here (IsSilent c.args.script.now c.args.line) c.args.nodes.now c.args.state c.loop-node.node-index c.node-item.result c.loop-node-test.true c.node-item.is
      (c.rests_silent.ensures.0 c.if-rests_silent.true)),
  (λ so. refl),
)

pub loop-node-preserved : goal.loop-node-preserved
loop-node-preserved c =
    none_more (SoAt (IsSilent c.args.script.now c.args.line) c.args.nodes.now c.args.state) c.loop-node.node-index c.loop-node.invariant
    (not_here (IsSilent c.args.script.now c.args.line) c.args.nodes.now c.args.state c.loop-node.node-index c.node-item.result c.loop-node-test.true c.node-item.is
    (λ so. refuted c.rests_silent.result c.if-rests_silent.false (c.rests_silent.ensures.1 so)))

pub returns : goal.returns
returns c = none_so (IsSilent c.args.script.now c.args.line) c.args.nodes.now c.args.state c.loop-node.node-index c.loop-node-test.false c.loop-node.invariant
