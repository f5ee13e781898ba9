-- One node more.
use Rattle.std.proofs.Common.{refl}
use Rattle.closure.proofs.FindingLemmas.{refuted}
use Rattle.call_ways.proofs.Below.{none_more}
use Rattle.call_ends.specs.Spreading.{IsLifted}
use Rattle.call_ends.proofs.Telling.{SoAt, none_so, not_here, so_here}
use Rattle.call_ends.proofs.at_rest.is_lifted_in.Goals as goal

pub returns-then-rests_lifted : goal.returns-then-rests_lifted
returns-then-rests_lifted c = (
  (λ yes. so_here IsLifted c.args.nodes.now c.args.state c.loop-node.node-index c.node-item.result c.loop-node-test.true c.node-item.is
      (c.rests_lifted.ensures.0 c.if-rests_lifted.true)),
  (λ so. refl),
)

pub loop-node-preserved : goal.loop-node-preserved
loop-node-preserved c =
    none_more (SoAt IsLifted c.args.nodes.now c.args.state) c.loop-node.node-index c.loop-node.invariant
    (not_here IsLifted c.args.nodes.now c.args.state c.loop-node.node-index c.node-item.result c.loop-node-test.true c.node-item.is
    (λ so. refuted c.rests_lifted.result c.if-rests_lifted.false (c.rests_lifted.ensures.1 so)))

pub returns : goal.returns
returns c = none_so IsLifted c.args.nodes.now c.args.state c.loop-node.node-index c.loop-node-test.false c.loop-node.invariant
