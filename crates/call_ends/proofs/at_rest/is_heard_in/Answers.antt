-- One node more.
use Rattle.std.proofs.Common.{refl}
use Rattle.closure.proofs.FindingLemmas.{refuted}
use Rattle.call_ways.proofs.Below.{none_more}
use Rattle.call_ends.specs.Spreading.{IsHeard}
use Rattle.call_ends.proofs.Telling.{SoAt, none_so, not_here, so_here}
use Rattle.call_ends.proofs.at_rest.is_heard_in.Goals as goal

pub returns-then-rests_heard : goal.returns-then-rests_heard
returns-then-rests_heard c = (
  (λ yes. so_here (IsHeard c.args.script.now c.args.line) c.args.nodes.now c.args.state c.loop-node.node-index c.node-item.result c.loop-node-test.true c.node-item.is
      (c.rests_heard.ensures.0 c.if-rests_heard.true)),
  (λ so. refl),
)

pub loop-node-preserved : goal.loop-node-preserved
loop-node-preserved c =
    none_more (SoAt (IsHeard c.args.script.now c.args.line) c.args.nodes.now c.args.state) c.loop-node.node-index c.loop-node.invariant
    (not_here (IsHeard c.args.script.now c.args.line) c.args.nodes.now c.args.state c.loop-node.node-index c.node-item.result c.loop-node-test.true c.node-item.is
    (λ so. refuted c.rests_heard.result c.if-rests_heard.false (c.rests_heard.ensures.1 so)))

pub returns : goal.returns
returns c = none_so (IsHeard c.args.script.now c.args.line) c.args.nodes.now c.args.state c.loop-node.node-index c.loop-node-test.false c.loop-node.invariant
