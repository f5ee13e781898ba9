use Rattle.std.proofs.Common.{arith}
use Rattle.identifiers.proofs.HeldLemmas.{held, length-held, lists_held}
use Rattle.identifiers.proofs.SoundLemmas.{used_split, freed_within}
use Rattle.identifiers.proofs.identifiers.Identifiers.len.Goals as goal

pub overflow_sub-result : goal.overflow_sub-result
overflow_sub-result g c =
    omega (arith, used_split c.self.inside.slots.slots, c.self.invariant.counted, c.len.ensures, c.len-2.ensures)

pub returns : goal.returns
returns g c =
    let class = c.self.inside.class in
    let slots = c.self.inside.slots.slots in
    let lists = lists_held class slots c.self.invariant.is_class in
    rw (← c.self.view_is) (record {
      numbers = held class 0 slots;
      rising = lists.rising;
      exactly = lists.exactly;
      is = omega (arith, length-held class 0 slots, freed_within slots c.self.inside.freed.items _ class c.self.invariant, c.len.ensures, c.len-2.ensures);
    })
