-- The number goes out where the search finds it; where it finds nothing there is none.
use Rattle.std.proofs.Common.{◌≡◌, ◌∙◌, ◌<◌, ◌==◌, false, Ok, Err, ap, get_or, length, sym, subst, List, ℕ}
use Rattle.std.specs.Prelude.{if◌then◌else◌}
use Rattle.std.specs.List.Sorted.{IsBinarySearchResult}
use Rattle.std.specs.Ordering.{nat_cmp}
use Rattle.mg_model.specs.Members.{is_among}
use Rattle.delivery.specs.Rising.{Rises}
use Rattle.delivery.proofs.RisingNumbers.{found_at, lacking, lacks, rises_without, without}
use Rattle.delivery.proofs.numbers.Numbers.remove.Goals as goal

at : (c : goal.After-remove) → (c.in-Ok.place < length c.self.inside.rising.items) × (get_or c.self.inside.rising.items c.in-Ok.place 0 ≡ c.args.number)
at c =
    found_at c.self.inside.rising.items c.in-Ok.place c.args.number c.self.invariant
    (subst (λ (xs : List ℕ). IsBinarySearchResult (λ y. nat_cmp y c.args.number) xs (Ok c.in-Ok.place)) c.deref.ensures.value c.in-Ok.ensures.position)

pub invariant_of-self : goal.invariant_of-self
invariant_of-self c = subst Rises (sym c.remove.ensures.items) (rises_without c.self.inside.rising.items c.in-Ok.place c.self.invariant (at c).0)

pub returns-in-Ok : goal.returns-in-Ok
returns-in-Ok c = λ n.
    ap (λ (xs : List ℕ). is_among xs n) c.remove.ensures.items
    ∙ without c.self.inside.rising.items c.in-Ok.place c.args.number n c.self.invariant (at c).0 (at c).1
    ∙ ap (λ (xs : List ℕ). if n == c.args.number then false else is_among xs n) c.self.view_is

pub returns-in_default : goal.returns-in_default
returns-in_default c = λ n.
    lacking c.args.self.now c.args.number n
    (subst (λ (xs : List ℕ). is_among xs c.args.number ≡ false) (c.deref.ensures.value ∙ c.self.view_is)
    (lacks c.deref.result.now c.in_default.field-0 c.args.number (subst Rises (sym c.deref.ensures.value) c.self.invariant) c.in_default.ensures.position))
