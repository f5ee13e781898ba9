-- One node more; at the end, all.
use Rattle.call_ends.proofs.Telling.{all_told, none_told, one_told}
use Rattle.call_ends.proofs.at_rest.told_in.Goals as goal

pub loop-node-init : goal.loop-node-init
loop-node-init c = none_told c.args.nodes.now c.args.state c.new-sets.result.items c.new-sets.ensures.items

pub add_told-requires : goal.add_told-requires
add_told-requires c = record { once = c.loop-node.invariant.once }

pub loop-node-preserved : goal.loop-node-preserved
loop-node-preserved c =
    one_told c.args.nodes.now c.args.state c.loop-node.node-index c.node-item.result c.loop-node.sets.items c.add_told.new.sets.items
    c.loop-node-test.true c.node-item.is c.loop-node.invariant c.in_ok-add_told.ensures.once c.in_ok-add_told.ensures.adds

pub returns-clause-told : goal.returns-clause-told
returns-clause-told c =
    all_told c.args.nodes.now c.args.state c.loop-node.node-index c.loop-node.sets.items c.loop-node-test.false c.loop-node.invariant
