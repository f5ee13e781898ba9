-- The calls so far are open, and each was entered; the lines of all calls are there.
use Rattle.std.proofs.Common.{take}
use Rattle.gateway.specs.GatewayValue.{gateway_of}
use Rattle.shards.proofs.TakenCalls.{AreThere, HaveAllLines}
use Rattle.shards.specs.Opening.{AreEntered, AreOpenedOn}
use Rattle.shards.proofs.opening.open_all.Given as goal

abbrev pub invariant-loop-call : goal.invariant-loop-call
invariant-loop-call l =
    AreOpenedOn l.script (take l.call-index l.calls) l.first l.stride l.gateway l.call_table.entries × AreEntered l.script (take l.call-index l.calls) l.nexts.items
    × HaveAllLines l.script (take l.call-index l.calls) × AreThere l.calls (gateway_of l.gateway)
