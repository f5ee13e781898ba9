-- What the search finds is among the numbers, and where it finds nothing none is.
use Rattle.std.proofs.Common.{◌≡◌, ◌∙◌, true, false, sym, subst, List, ℕ}
use Rattle.mg_model.specs.Members.{is_among}
use Rattle.delivery.specs.Rising.{Rises}
use Rattle.delivery.proofs.RisingNumbers.{found_among, lacks}
use Rattle.delivery.proofs.numbers.Numbers.has.Goals as goal

pub returns-in-Ok : goal.returns-in-Ok
returns-in-Ok c =
    sym (subst (λ (xs : List ℕ). is_among xs c.args.number ≡ true) (c.deref.ensures.value ∙ c.self.view_is)
    (found_among c.deref.result.now c.in-Ok.field-0 c.args.number (subst Rises (sym c.deref.ensures.value) c.self.invariant) c.in-Ok.ensures.position))

pub returns-in-Err : goal.returns-in-Err
returns-in-Err c =
    sym (subst (λ (xs : List ℕ). is_among xs c.args.number ≡ false) (c.deref.ensures.value ∙ c.self.view_is)
    (lacks c.deref.result.now c.in-Err.field-0 c.args.number (subst Rises (sym c.deref.ensures.value) c.self.invariant) c.in-Err.ensures.position))
