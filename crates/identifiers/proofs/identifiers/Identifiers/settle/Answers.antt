use Rattle.std.proofs.Common.{◌≡◌, [], get_or, None, false, ap, sym, ◌∙◌, vec_capacity}
use Rattle.std.proofs.lemmas.Bool.{both_ways}
use Rattle.std.proofs.lemmas.List.{append-nil}
use Rattle.identifiers.specs.Stock.{value_in, is_freed}
use Rattle.identifiers.proofs.SettleLemmas.{IsSettling, settling_skipped, settling_removed, settled_value, used_settled, sound_settled}
use Rattle.identifiers.proofs.SlotLemmas.{told_same}
use Rattle.identifiers.proofs.SoundLemmas.{freed_is}
use Rattle.identifiers.proofs.identifiers.Identifiers.settle.Goals as goal

pub loop-key-preserved-then-is_freed_at-2 : goal.loop-key-preserved-then-is_freed_at-2
loop-key-preserved-then-is_freed_at-2 g c = (
  c.loop-key.invariant.0,
  c.in-Some.ensures.capacity ∙ c.loop-key.invariant.1,
  settling_removed c.self.inside.slots.slots c.loop-key.self-inside.slots.slots c.try_remove.new.self.slots c.loop-key.self-inside.freed.items c.pop.new.self.items c.in-Some.key
      c.in-Some.ensures.items (freed_is (get_or c.loop-key.self-inside.slots.slots c.in-Some.key None) (sym c.is_freed_at.ensures ∙ c.if-is_freed_at.true))
      c.try_remove.ensures.updates.changed c.try_remove.ensures.updates.others c.loop-key.invariant.2,
)

pub loop-key-preserved : goal.loop-key-preserved
loop-key-preserved g c =
    let not_freed : is_freed (get_or c.loop-key.self-inside.slots.slots c.in-Some.key None) ≡ false = sym c.is_freed_at.ensures ∙ c.if-is_freed_at.false in (
      c.loop-key.invariant.0,
      c.in-Some.ensures.capacity ∙ c.loop-key.invariant.1,
      settling_skipped c.self.inside.slots.slots c.loop-key.self-inside.slots.slots c.loop-key.self-inside.freed.items c.pop.new.self.items c.in-Some.key
          c.in-Some.ensures.items (λ is. both_ways _ not_freed (ap is_freed is)) c.loop-key.invariant.2,
    )

pub invariant_of-self : goal.invariant_of-self
invariant_of-self g c =
    let none : c.pop.new.self.items ≡ [] = rw c.in_default.ensures.cases.0 at c.in_default.ensures.rest in
    let was : c.loop-key.self-inside.freed.items ≡ [] = c.in_default.ensures.items ∙ append-nil _ ∙ none in
    let settled : IsSettling c.self.inside.slots.slots c.loop-key.self-inside.slots.slots [] = rw was at c.loop-key.invariant.2 in
    rw (none, c.in_default.ensures.capacity, c.loop-key.invariant.0, c.loop-key.invariant.1)
    (sound_settled c.self.inside.slots.slots c.loop-key.self-inside.slots.slots c.self.inside.freed.items (vec_capacity c.self.inside.freed) c.self.inside.class settled c.self.invariant)

pub returns-clause-values : goal.returns-clause-values
returns-clause-values g c =
    let none : c.pop.new.self.items ≡ [] = rw c.in_default.ensures.cases.0 at c.in_default.ensures.rest in
    let was : c.loop-key.self-inside.freed.items ≡ [] = c.in_default.ensures.items ∙ append-nil _ ∙ none in
    let settled : IsSettling c.self.inside.slots.slots c.loop-key.self-inside.slots.slots [] = rw was at c.loop-key.invariant.2 in
    rw (← c.self.view_is, c.loop-key.invariant.0) (told_same value_in c.self.inside.class c.self.inside.slots.slots c.loop-key.self-inside.slots.slots (settled_value _ _ settled))

pub returns-clause-used : goal.returns-clause-used
returns-clause-used g c =
    let none : c.pop.new.self.items ≡ [] = rw c.in_default.ensures.cases.0 at c.in_default.ensures.rest in
    let was : c.loop-key.self-inside.freed.items ≡ [] = c.in_default.ensures.items ∙ append-nil _ ∙ none in
    let settled : IsSettling c.self.inside.slots.slots c.loop-key.self-inside.slots.slots [] = rw was at c.loop-key.invariant.2 in
    rw (← c.self.view_is, c.loop-key.invariant.0) (used_settled c.self.inside.class c.self.inside.slots.slots c.loop-key.self-inside.slots.slots settled)
