use Rattle.std.proofs.Common.{◌≡◌, Some, is_some, ap, sym, ◌∙◌, refl, vec_capacity}
use Rattle.slab.proofs.SlabLemmas.{Updates-with_value}
use Rattle.slab.specs.Slab.{get, with_value}
use Rattle.identifiers.specs.Stock.{value_in, replaced}
use Rattle.identifiers.proofs.SlotLemmas.{told, told_at, told_same, told_changed}
use Rattle.identifiers.proofs.SoundLemmas.{sound_replaced, used_replaced}
use Rattle.identifiers.proofs.identifiers.Identifiers.replace.Goals as goal
use Rattle.identifiers.proofs.identifiers.Identifiers.replace.Goals.{in-Some, in-None}

pub invariant_of-self-2 : goal.invariant_of-self-2
invariant_of-self-2 g c =
    let s = c.self.inside.slots in
    let room = vec_capacity c.self.inside.freed in
    let there : get s c.in_ok-key.key ≡ Some c.in_ok-held.field-0.now = sym c.in_ok-held.ensures.value in
    elim c.match-branch-3.branch [
      | in-Some w ↦ rw w.self-inside-is (sound_replaced s c.self.inside.freed.items room c.self.inside.class c.in_ok-key.key c.in_ok-held.field-0.now (Some w.replace.new.dest) there (rw w.in-Some.is refl) c.self.invariant)
      | in-None w ↦ rw w.self-inside-is (sound_replaced s c.self.inside.freed.items room c.self.inside.class c.in_ok-key.key c.in_ok-held.field-0.now c.in_ok-held.field-0.now there refl c.self.invariant)
    ]

pub returns-clause-values : goal.returns-clause-values
returns-clause-values g c =
    let s = c.self.inside.slots in
    let class = c.self.inside.class in
    let key = c.in_ok-key.key in
    let held = c.in_ok-held.field-0.now in
    let there : get s key ≡ Some held = sym c.in_ok-held.ensures.value in
    let at_number : told value_in class s.slots c.args.number ≡ held = told_at value_in class s.slots c.args.number key (sym c.in_ok-key.ensures) ∙ ap value_in there in
    elim c.match-branch-3.branch [
      | in-Some w ↦
          let updates = Updates-with_value s key (Some w.replace.new.dest) (rw there refl) in
          rw (w.self-inside-is, ← c.self.view_is) (λ n.
          rw (at_number, w.in-Some.is) (told_changed value_in class s.slots (with_value s key (Some w.replace.new.dest)).slots c.args.number key (Some (Some c.args.value)) (sym c.in_ok-key.ensures)
          (updates.changed ∙ ap (λ v. Some (Some v)) w.replace.ensures.after) updates.others n))
      | in-None w ↦
          let updates = Updates-with_value s key held (rw there refl) in
          let stays : replaced c.args.value held ≡ held = rw w.in-None.is refl in
          rw (w.self-inside-is, ← c.self.view_is) (λ n.
          rw (at_number, stays) (told_changed value_in class s.slots (with_value s key held).slots c.args.number key (Some held) (sym c.in_ok-key.ensures) updates.changed updates.others n))
    ]

pub returns-clause-used : goal.returns-clause-used
returns-clause-used g c =
    let s = c.self.inside.slots in
    let class = c.self.inside.class in
    let key = c.in_ok-key.key in
    let held = c.in_ok-held.field-0.now in
    let there : get s key ≡ Some held = sym c.in_ok-held.ensures.value in
    elim c.match-branch-3.branch [
      | in-Some w ↦ rw (w.self-inside-is, ← c.self.view_is) (told_same is_some class s.slots (with_value s key (Some w.replace.new.dest)).slots (used_replaced s key held (Some w.replace.new.dest) there))
      | in-None w ↦ rw (w.self-inside-is, ← c.self.view_is) (told_same is_some class s.slots (with_value s key held).slots (used_replaced s key held held there))
    ]
