use Rattle.std.proofs.Common.{◌≡◌, ◌≤◌, refl, sym, ◌∙◌, arith, append_assoc}
use Rattle.std.proofs.lemmas.List.{append-nil}
use Rattle.slab.proofs.SlabLemmas.{Contains-cons, Contains-entries}
use Rattle.identifiers.specs.Class.{size}
use Rattle.identifiers.proofs.HeldLemmas.{held, listed-none, listed-some, lists_held}
use Rattle.identifiers.proofs.identifiers.Identifiers.numbers.Goals as goal

pub loop-key-init : goal.loop-key-init
loop-key-init g c =
    let left = c.into_iter-key-iterator.ensures.into_iter_gives ∙ c.iter-key-items.ensures.rest in (
      tt,
      tt,
      rw (c.new-found.ensures.items, left) refl,
      λ key slot there. c.self.invariant.within key (rw ((Contains-entries c.self.inside.slots key slot).0 (rw left at there)) refl),
    )

pub loop-key-preserved-then-is_none : goal.loop-key-preserved-then-is_none
loop-key-preserved-then-is_none g c =
    let at = c.in-Some.ensures.steps in (
      tt,
      tt,
      rw (at, listed-none c.self.inside.class c.in-Some.key c.in-Some.slot.now c.next.new.self c.if-is_none.ensures) at c.loop-key.invariant.2,
      λ key slot there. c.loop-key.invariant.3 key slot (rw at (Contains-cons _ _ _ there)),
    )

pub loop-key-preserved-in-Continue-1 : goal.loop-key-preserved-in-Continue-1
loop-key-preserved-in-Continue-1 g c =
    let at = c.in-Some.ensures.steps in (
      tt,
      tt,
      rw (c.in_ok-push.ensures.items, append_assoc, c.in-Some-number.ensures.number) (rw (at, listed-some c.self.inside.class c.in-Some.key c.in-Some.slot.now c.next.new.self c.if-is_none.ensures) at c.loop-key.invariant.2),
      λ key slot there. c.loop-key.invariant.3 key slot (rw at (Contains-cons _ _ _ there)),
    )

pub loop-key-preserved : goal.loop-key-preserved
loop-key-preserved g c =
    let at = c.in-Some.ensures.steps in
    let below = c.loop-key.invariant.3 c.in-Some.key c.in-Some.slot.now (rw at (0, omega arith, refl)) in
    let past : size c.self.inside.class ≤ c.in-Some.key = c.in_default.ensures.past refl in
    absurd (omega (arith, below, past))

pub returns : goal.returns
returns g c =
    let all : c.loop-key.found.items ≡ held c.self.inside.class 0 c.self.inside.slots.slots = sym (append-nil c.loop-key.found.items) ∙ rw c.in-None.ensures.steps.0 at c.loop-key.invariant.2 in
    rw (all, ← c.self.view_is) (lists_held c.self.inside.class c.self.inside.slots.slots c.self.invariant.is_class)
