-- One set more, which wasn't there.
use Rattle.std.proofs.Common.{◌≡◌, List, refl, sym, subst}
use Rattle.mg_model.specs.declared.line_events.SignalSet.{SignalSet}
use Rattle.closure.proofs.FindingLemmas.{refuted}
use Rattle.call_ways.proofs.Moving.{on_ok}
use Rattle.call_ends.specs.Spreading.{IsAmong}
use Rattle.call_ends.proofs.Growing.{adds_one, once_more}
use Rattle.call_ends.proofs.at_rest.add_set.Goals as goal

pub returns-clause-once : goal.returns-clause-once
returns-clause-once c =
    on_ok c.push.result _ _
    (once_more c.args.sets.now.items c.push.new.sets.items c.args.set c.requires.once
    (λ among. refuted c.is_among.result c.if-is_among.false
    (c.is_among.ensures.1 (subst (λ (xs : List SignalSet). IsAmong xs c.args.set) (sym c.as_slice.ensures.value) among))))
    c.push.ensures

pub returns-clause-adds : goal.returns-clause-adds
returns-clause-adds c =
    on_ok c.push.result _ _
    (adds_one (λ (other : SignalSet). other ≡ c.args.set) c.args.sets.now.items c.push.new.sets.items c.args.set refl (λ other same. same))
    c.push.ensures
