use Rattle.std.proofs.Common.{None, arith, refl, vec_capacity, rules, is_some}
use Rattle.std.proofs.lemmas.List.Elements.{same_from_all_zip}
use Rattle.identifiers.proofs.CopyLemmas.{slots_kept, told_clone}
use Rattle.identifiers.proofs.CountLemmas.{count_same}
use Rattle.identifiers.proofs.SlotLemmas.{told_same}
use Rattle.identifiers.proofs.SoundLemmas.{sound_same, used_split}
use Rattle.identifiers.proofs.identifiers.Identifiers.copy.Goals as goal

pub overflow_sub-len : goal.overflow_sub-len
overflow_sub-len g c =
    let kept = slots_kept g.T.Clone.is_clone _ (λ value copy h. search rules) _ _ c.in_ok-slots.ensures.cases.slots in
    let used = count_same is_some c.in_ok-slots.slots.slots c.self.inside.slots.slots None refl (λ k. (kept k).used) in
    omega (arith, used, used_split c.self.inside.slots.slots, c.self.invariant.counted, c.in_ok-freed.ensures.cases.1, c.len.ensures, c.len-2.ensures)

pub invariant_of-result : goal.invariant_of-result
invariant_of-result g c =
    let same = same_from_all_zip _ _ _ c.in_ok-freed.ensures.cases.0 (λ x y h. h) in
    let kept = slots_kept g.T.Clone.is_clone _ (λ value copy h. search rules) _ _ c.in_ok-slots.ensures.cases.slots in
    let used = count_same is_some c.in_ok-slots.slots.slots c.self.inside.slots.slots None refl (λ k. (kept k).used) in
    rw (c.in_ok-reserve.ensures.items, same) (sound_same c.self.inside.slots.slots c.in_ok-slots.slots.slots c.self.inside.freed.items (vec_capacity c.self.inside.freed) (vec_capacity c.reserve.new.self) c.self.inside.class
    (λ k. (kept k).used) (λ k. (kept k).freed) (omega (arith, used, used_split c.self.inside.slots.slots, c.self.invariant.counted, c.in_ok-freed.ensures.cases.1, c.len.ensures, c.len-2.ensures, c.in_ok-reserve.ensures.ok, c.in_ok-reserve.ensures.len)) c.self.invariant)

pub returns : goal.returns
returns g c =
    let kept = slots_kept g.T.Clone.is_clone _ (λ value copy h. search rules) _ _ c.in_ok-slots.ensures.cases.slots in
    rw (← c.self.view_is) (record {
      values = told_clone g.T.Clone.is_clone c.self.inside.class c.self.inside.slots.slots c.in_ok-slots.slots.slots kept;
      used = told_same is_some c.self.inside.class c.self.inside.slots.slots c.in_ok-slots.slots.slots (λ k. (kept k).used);
      class = refl;
    })
