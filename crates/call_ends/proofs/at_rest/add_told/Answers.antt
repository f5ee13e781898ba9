-- The set of the node is added where it rests in the state.
use Rattle.std.proofs.Common.{◌≡◌, sym}
use Rattle.mg_model.specs.declared.line_events.SignalSet.{SignalSet}
use Rattle.call_ways.proofs.Moving.{on_ok}
use Rattle.call_ends.specs.Spreading.{IsTold, RestsIn, point_of}
use Rattle.call_ends.proofs.Growing.{adds_so}
use Rattle.call_ends.proofs.at_rest.add_told.Goals as goal

pub returns-clause-adds : goal.returns-clause-adds
returns-clause-adds c =
    on_ok c.add_set.result _ _
    (adds_so (λ (other : SignalSet). other ≡ c.args.node.now.phone.told)
    (λ (set : SignalSet). RestsIn c.args.state (point_of c.args.node.now) × IsTold set (point_of c.args.node.now))
    c.args.sets.now.items c.add_set.new.sets.items
    (λ set same. (c.rests_in.ensures.0 c.if-not-rests_in.false, sym same)) (λ set is. sym is.1))
    c.add_set.ensures.adds
