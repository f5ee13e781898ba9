-- The names of each slot are alike, and none is bound past the fourth.
use Rattle.std.proofs.Common.{◌∙◌, not, sym, ap, arith}
use Rattle.mg_model.specs.declared.commands.Termination.TheVariants.{Ephemeral}
use Rattle.mg_model.specs.Configuration.{is_free, is_present}
use Rattle.mg_model.specs.Steps.{bound_names}
use Rattle.mg_model.proofs.Built.{same_names}
use Rattle.configuration.specs.Config.{configuration_of}
use Rattle.configuration.proofs.SlotLemmas.{absent_past_eight}
use Rattle.closure.proofs.HullDuties.{same_functions}
use Rattle.closure.proofs.requests.have_same_names.Goals as goal

pub returns : goal.returns
returns c holds =
    let one = configuration_of c.args.one.now in
    let other = configuration_of c.args.other.now in
    same_names (bound_names one) (bound_names other)
    (same_functions (λ j. not (is_free (one.context j))) (λ j. not (is_free (other.context j)))
    (rw c.all.ensures at (c.is_slot_alike.ensures.context c.if-not-is_slot_alike.false))
    (rw c.all.ensures at (c.is_slot_alike-2.ensures.context c.if-not-is_slot_alike-2.false))
    (rw c.all.ensures at (c.is_slot_alike-3.ensures.context c.if-not-is_slot_alike-3.false))
    (rw c.all.ensures at (c.is_slot_alike-4.ensures.context holds))
    c.is_slot_alike.ensures.past)
    (same_functions (λ k. is_present (one.spot (Ephemeral k))) (λ k. is_present (other.spot (Ephemeral k)))
    (rw c.all.ensures at (c.is_slot_alike.ensures.ephemeral c.if-not-is_slot_alike.false))
    (rw c.all.ensures at (c.is_slot_alike-2.ensures.ephemeral c.if-not-is_slot_alike-2.false))
    (rw c.all.ensures at (c.is_slot_alike-3.ensures.ephemeral c.if-not-is_slot_alike-3.false))
    (rw c.all.ensures at (c.is_slot_alike-4.ensures.ephemeral holds))
    (λ k past. ap is_present (absent_past_eight c.args.one.now (Ephemeral k) (omega (arith, past)) ∙ sym (absent_past_eight c.args.other.now (Ephemeral k) (omega (arith, past))))))
