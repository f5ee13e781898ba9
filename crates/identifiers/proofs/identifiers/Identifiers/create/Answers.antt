use Rattle.std.proofs.Common.{◌≡◌, Bool, true, false, cond, eqb, ◌||◌, ◌<◌, Some, None, is_some, get_or, ap, sym, ◌∙◌, refl, vec_capacity}
use Rattle.identifiers.specs.Class.{number_at, size, key_in}
use Rattle.identifiers.specs.Stock.{value_in}
use Rattle.identifiers.proofs.ClassLemmas.{within_iff, key_in-number_at}
use Rattle.identifiers.proofs.SlotLemmas.{told, told_changed}
use Rattle.identifiers.proofs.SoundLemmas.{sound_created}
use Rattle.identifiers.proofs.identifiers.Identifiers.create.Goals as goal

pub invariant_of-self-2 : goal.invariant_of-self-2
invariant_of-self-2 g c =
    let class = c.self.inside.class in
    let key = c.insert_reserved.result in
    let given = rw (← c.self.view_is) at c.in_ok-number.ensures.next in
    let same : c.in_ok-number.number ≡ number_at class key = given.next ∙ ap (number_at class) (sym (c.insert_reserved.ensures.key ∙ c.make_room.ensures.vacant)) in
    let below : key < size class = (within_iff class key c.self.invariant.is_class).1 (rw same at given.within) in
    rw c.make_room.ensures.freed (sound_created c.self.inside.slots.slots c.insert_reserved.new.self.slots c.self.inside.freed.items (vec_capacity c.self.inside.freed) (vec_capacity c.make_room.new.freed) class key c.args.value
    below
    (rw c.make_room.ensures.slots at c.insert_reserved.ensures.was_vacant)
    c.insert_reserved.ensures.updates.changed
    (λ other differs. c.insert_reserved.ensures.updates.others other differs ∙ ap (λ xs. get_or xs other None) c.make_room.ensures.slots)
    (rw c.make_room.ensures.slots at c.in-Ok.ensures.freed_room)
    c.self.invariant)

pub returns-clause-values : goal.returns-clause-values
returns-clause-values g c =
    let class = c.self.inside.class in
    let key = c.insert_reserved.result in
    let given = rw (← c.self.view_is) at c.in_ok-number.ensures.next in
    let same : c.in_ok-number.number ≡ number_at class key = given.next ∙ ap (number_at class) (sym (c.insert_reserved.ensures.key ∙ c.make_room.ensures.vacant)) in
    let found : key_in class c.in_ok-number.number ≡ Some key = rw same (key_in-number_at class key c.self.invariant.is_class) in
    rw (← c.self.view_is) (told_changed value_in class c.self.inside.slots.slots c.insert_reserved.new.self.slots c.in_ok-number.number key (Some (Some c.args.value)) found
    c.insert_reserved.ensures.updates.changed
    (λ other differs. c.insert_reserved.ensures.updates.others other differs ∙ ap (λ xs. get_or xs other None) c.make_room.ensures.slots))

either : (a b : Bool) → cond a true b ≡ (a || b)
either true b = refl
either false b = refl

pub returns-clause-used : goal.returns-clause-used
returns-clause-used g c =
    let class = c.self.inside.class in
    let key = c.insert_reserved.result in
    let given = rw (← c.self.view_is) at c.in_ok-number.ensures.next in
    let same : c.in_ok-number.number ≡ number_at class key = given.next ∙ ap (number_at class) (sym (c.insert_reserved.ensures.key ∙ c.make_room.ensures.vacant)) in
    let found : key_in class c.in_ok-number.number ≡ Some key = rw same (key_in-number_at class key c.self.invariant.is_class) in
    rw (← c.self.view_is) (λ n. told_changed is_some class c.self.inside.slots.slots c.insert_reserved.new.self.slots c.in_ok-number.number key (Some (Some c.args.value)) found
    c.insert_reserved.ensures.updates.changed
    (λ other differs. c.insert_reserved.ensures.updates.others other differs ∙ ap (λ xs. get_or xs other None) c.make_room.ensures.slots) n ∙ either (eqb n c.in_ok-number.number) (told is_some class c.self.inside.slots.slots n))
