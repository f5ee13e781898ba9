-- The number is put at the place that the search tells, where it finds none.
use Rattle.std.proofs.Common.{◌≡◌, ◌∙◌, ◌<◌, ◌≤◌, ◌==◌, true, false, Result, Ok, Err, OnErr, ap, get_or, length, sym, subst, List, ℕ}
use Rattle.std.specs.Prelude.{if◌then◌else◌, not}
use Rattle.std.specs.List.Sorted.{IsBinarySearchResult}
use Rattle.std.specs.Ordering.{nat_cmp}
use Rattle.mg_model.specs.Members.{is_among}
use Rattle.delivery.specs.Rising.{Rises}
use Rattle.delivery.proofs.RisingNumbers.{found_among, lacks, place_for, rises_with, with_one_more, with_same}
use Rattle.delivery.proofs.numbers.Numbers.add.Goals as goal

on_err : {A E : Type 0} {P : Type 0} (r : Result A E) → P → OnErr r P
on_err (Ok a) p = tt
on_err (Err e) p = p

-- what a search tells of what the numbers were
there : (xs now : List ℕ) (place number : ℕ) → xs ≡ now → Rises xs → IsBinarySearchResult (λ y. nat_cmp y number) xs (Ok place) → is_among now number ≡ true
there xs now place number same rises position =
    subst (λ (ys : List ℕ). is_among ys number ≡ true) same (found_among xs place number rises position)

none : (xs now : List ℕ) (place number : ℕ) → xs ≡ now → Rises xs → IsBinarySearchResult (λ y. nat_cmp y number) xs (Err place) → is_among now number ≡ false
none xs now place number same rises position =
    subst (λ (ys : List ℕ). is_among ys number ≡ false) same (lacks xs place number rises position)

pub returns-in_err-insert-in-Err-clause-only_new : goal.returns-in_err-insert-in-Err-clause-only_new
returns-in_err-insert-in-Err-clause-only_new c =
    on_err c.from_residual.result
    (none c.deref.result.now c.args.self.now c.in-Err.place c.args.number (c.deref.ensures.value ∙ c.self.view_is)
    (subst Rises (sym c.deref.ensures.value) c.self.invariant) c.in-Err.ensures.position)

pub invariant_of-self-in-Err : goal.invariant_of-self-in-Err
invariant_of-self-in-Err c =
    let place = place_for c.self.inside.rising.items c.in-Err.place c.args.number c.self.invariant
    (subst (λ (xs : List ℕ). IsBinarySearchResult (λ y. nat_cmp y c.args.number) xs (Err c.in-Err.place)) c.deref.ensures.value c.in-Err.ensures.position) in
    subst Rises (sym c.in_ok-insert-in-Err.ensures.items)
    (rises_with c.self.inside.rising.items c.in-Err.place c.args.number c.self.invariant place.0 place.1 place.2)

pub returns-in-Ok-clause-answer : goal.returns-in-Ok-clause-answer
returns-in-Ok-clause-answer c =
    ap not (sym (there c.deref.result.now c.args.self.now c.in-Ok.field-0 c.args.number (c.deref.ensures.value ∙ c.self.view_is)
    (subst Rises (sym c.deref.ensures.value) c.self.invariant) c.in-Ok.ensures.position))

pub returns-in-Ok-clause-added : goal.returns-in-Ok-clause-added
returns-in-Ok-clause-added c = λ n.
    with_same c.args.self.now c.args.number n
    (there c.deref.result.now c.args.self.now c.in-Ok.field-0 c.args.number (c.deref.ensures.value ∙ c.self.view_is)
    (subst Rises (sym c.deref.ensures.value) c.self.invariant) c.in-Ok.ensures.position)

pub returns-in_ok-insert-in-Err-clause-answer : goal.returns-in_ok-insert-in-Err-clause-answer
returns-in_ok-insert-in-Err-clause-answer c =
    ap not (sym (none c.deref.result.now c.args.self.now c.in-Err.place c.args.number (c.deref.ensures.value ∙ c.self.view_is)
    (subst Rises (sym c.deref.ensures.value) c.self.invariant) c.in-Err.ensures.position))

pub returns-in_ok-insert-in-Err-clause-added : goal.returns-in_ok-insert-in-Err-clause-added
returns-in_ok-insert-in-Err-clause-added c = λ n.
    ap (λ (xs : List ℕ). is_among xs n) c.in_ok-insert-in-Err.ensures.items
    ∙ with_one_more c.self.inside.rising.items c.in-Err.place c.args.number n
    ∙ ap (λ (xs : List ℕ). if n == c.args.number then true else is_among xs n) c.self.view_is
