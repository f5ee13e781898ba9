use Rattle.std.proofs.Common.{◌≡◌, None, is_some, get_or, true, ap, sym, ◌∙◌, vec_capacity}
use Rattle.identifiers.specs.Stock.{value_in}
use Rattle.identifiers.proofs.SlotLemmas.{told, told_at, told_changed}
use Rattle.identifiers.proofs.SoundLemmas.{is_valued, sound_withdrawn}
use Rattle.identifiers.proofs.identifiers.Identifiers.withdraw.Goals as goal
use Rattle.identifiers.proofs.identifiers.Identifiers.withdraw.Goals.{in-Some+in-Some-try_remove-2, in-Some+in-None-1, in-None-1}

pub invariant_of-self : goal.invariant_of-self
invariant_of-self g c =
    let class = c.self.inside.class in
    let slots = c.self.inside.slots.slots in
    let held : is_some (told value_in class slots c.args.number) ≡ true = rw (← c.self.view_is) at c.requires in
    let was : is_valued (get_or slots c.in-Some.key None) ≡ true = sym (ap is_some (told_at value_in class slots c.args.number c.in-Some.key (sym c.in-Some.ensures))) ∙ held in
    sound_withdrawn slots c.try_remove.new.self.slots c.self.inside.freed.items (vec_capacity c.self.inside.freed) class c.in-Some.key
    was c.try_remove.ensures.updates.changed c.try_remove.ensures.updates.others c.self.invariant

pub returns-in-Some-clause-values : goal.returns-in-Some-clause-values
returns-in-Some-clause-values g c =
    let changed = told_changed value_in c.self.inside.class c.self.inside.slots.slots c.try_remove.new.self.slots c.args.number c.in-Some.key None
    (sym c.in-Some.ensures) c.try_remove.ensures.updates.changed c.try_remove.ensures.updates.others in
    elim c.match-try_remove.branch [
      | in-Some+in-Some-try_remove-2 w ↦ rw (w.self-is, ← c.self.view_is) changed
      | in-Some+in-None-1 w ↦ rw (w.self-is, ← c.self.view_is) changed
      | in-None-1 w ↦ rw (w.self-is, ← c.self.view_is) changed
    ]

pub returns-in-Some-clause-used : goal.returns-in-Some-clause-used
returns-in-Some-clause-used g c =
    let changed = told_changed is_some c.self.inside.class c.self.inside.slots.slots c.try_remove.new.self.slots c.args.number c.in-Some.key None
    (sym c.in-Some.ensures) c.try_remove.ensures.updates.changed c.try_remove.ensures.updates.others in
    elim c.match-try_remove.branch [
      | in-Some+in-Some-try_remove-2 w ↦ rw (w.self-is, ← c.self.view_is) changed
      | in-Some+in-None-1 w ↦ rw (w.self-is, ← c.self.view_is) changed
      | in-None-1 w ↦ rw (w.self-is, ← c.self.view_is) changed
    ]
