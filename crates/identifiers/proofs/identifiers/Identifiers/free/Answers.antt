use Rattle.std.proofs.Common.{◌≡◌, arith, refl, Some, None, get_or, ap, sym, ◌∙◌, vec_capacity}
use Rattle.slab.proofs.SlabLemmas.{Updates-with_value}
use Rattle.identifiers.specs.Stock.{value_in}
use Rattle.identifiers.proofs.SlotLemmas.{told_changed}
use Rattle.identifiers.proofs.SoundLemmas.{freed_below, sound_freed}
use Rattle.identifiers.proofs.identifiers.Identifiers.free.Goals as goal

pub push_reserved-requires : goal.push_reserved-requires
push_reserved-requires g c =
    let there : get_or c.self.inside.slots.slots c.in_ok-key.key None ≡ Some (Some c.in_ok-value.value) = sym c.in_ok-get_mut.ensures.value ∙ ap Some (sym c.in_ok-value.ensures.value) in
    omega (arith, freed_below c.self.inside.slots.slots c.self.inside.freed.items (vec_capacity c.self.inside.freed) c.self.inside.class c.in_ok-key.key c.in_ok-value.value c.self.invariant there)

pub invariant_of-self-2 : goal.invariant_of-self-2
invariant_of-self-2 g c =
    let there : get_or c.self.inside.slots.slots c.in_ok-key.key None ≡ Some (Some c.in_ok-value.value) = sym c.in_ok-get_mut.ensures.value ∙ ap Some (sym c.in_ok-value.ensures.value) in
    let updates = Updates-with_value c.self.inside.slots c.in_ok-key.key c.take.new.self (rw there refl) in
    rw (c.push_reserved.ensures.items, c.push_reserved.ensures.capacity) (sound_freed c.self.inside.slots.slots _ c.self.inside.freed.items (vec_capacity c.self.inside.freed) c.self.inside.class c.in_ok-key.key c.in_ok-value.value
    there (updates.changed ∙ ap Some c.take.ensures.after) updates.others c.self.invariant)

pub returns-clause-values : goal.returns-clause-values
returns-clause-values g c =
    let there : get_or c.self.inside.slots.slots c.in_ok-key.key None ≡ Some (Some c.in_ok-value.value) = sym c.in_ok-get_mut.ensures.value ∙ ap Some (sym c.in_ok-value.ensures.value) in
    let updates = Updates-with_value c.self.inside.slots c.in_ok-key.key c.take.new.self (rw there refl) in
    rw (← c.self.view_is) (told_changed value_in c.self.inside.class c.self.inside.slots.slots _ c.args.number c.in_ok-key.key (Some None)
    (sym c.in_ok-key.ensures) (updates.changed ∙ ap Some c.take.ensures.after) updates.others)
