-- Two lists of events that compare alike are one list.
use lib.Pointwise.{pointwise}
use Rattle.std.proofs.Common.{◌≡◌, ◌∙◌, Bool, true, false, true≢false, List, [], ◌∷◌, refl, sym, ap}
use Rattle.std.specs.Prelude.{not}
use Rattle.std.proofs.lemmas.Bool.{and_parts}
use Rattle.mg_model.specs.contracts.events.EventPartialEq.TheImpl.{eq-value as events}
use Rattle.mg_model.specs.declared.events.Event.{Event}
use Rattle.run_account.proofs.SameEvents.{same_event}

alike_so : (test : Bool) → false ≡ not test → test ≡ true
alike_so true told = refl
alike_so false told = absurd (true≢false (sym told))

each_same : (xs ys : List Event) → pointwise events.it xs ys ≡ true → xs ≡ ys
each_same [] [] alike = refl
each_same [] (y ∷ ys) alike = absurd (true≢false (sym alike))
each_same (x ∷ xs) [] alike = absurd (true≢false (sym alike))
each_same (x ∷ xs) (y ∷ ys) alike =
    let parts = and_parts (events.it x y) (pointwise events.it xs ys) alike in
    ap (λ (e : Event). e ∷ xs) (same_event x y parts.0) ∙ ap (λ (es : List Event). y ∷ es) (each_same xs ys parts.1)

pub same_events : (xs ys : List Event) → false ≡ not (pointwise events.it xs ys) → xs ≡ ys
same_events xs ys told = each_same xs ys (alike_so (pointwise events.it xs ys) told)
