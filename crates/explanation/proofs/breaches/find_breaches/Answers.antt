-- One more is picked, if it is a breach; at the end none is left.
use Rattle.std.proofs.Common.{◌≡◌, ◌∙◌, ◌∷◌, [], ◌+◌, ℕ, List, drop, sym, ap, subst, refl}
use Rattle.std.proofs.lemmas.List.{append-nil}
use Rattle.configuration.specs.Config.{configuration_of}
use Rattle.closure.proofs.VisitLemmas.{next_of}
use Rattle.explanation.specs.Breaches.{ArePicked}
use Rattle.explanation.specs.declared.breach.Breach.{Breach}
use Rattle.explanation.proofs.Lacks.{drop_past}
use Rattle.explanation.proofs.Picked.{ArePickedWith, picked_more}
use Rattle.explanation.proofs.breaches.find_breaches.Goals as goal

pub loop-breach-preserved : goal.loop-breach-preserved
loop-breach-preserved c =
    let script = c.args.script.now in
    let C = configuration_of c.args.config.now in
    let xs : List Breach = c.as_slice-breach-items.result.now in
    let i : ℕ = c.loop-breach.breach-index in
    let x : Breach = c.breach-item.result in
    let found : List Breach = c.loop-breach.found.items in
    let next : drop i xs ≡ x ∷ drop (i + 1) xs = next_of xs i x c.loop-breach-test.true ∙ ap (λ (y : Breach). y ∷ drop (i + 1) xs) (sym c.breach-item.is) in
    let so_far = subst (λ (left : List Breach). ArePickedWith script C xs left found) next c.loop-breach.invariant in
    subst (ArePickedWith script C xs (drop (i + 1) xs)) (sym c.in_ok-add_if.ensures)
    (picked_more script C xs found x (drop (i + 1) xs) c.is_breach-holds.result c.is_breach-holds.ensures so_far)

pub returns : goal.returns
returns c =
    let script = c.args.script.now in
    let C = configuration_of c.args.config.now in
    let xs : List Breach = c.as_slice-breach-items.result.now in
    let none : drop c.loop-breach.breach-index xs ≡ [] = drop_past xs c.loop-breach.breach-index c.loop-breach-test.false in
    let picked = c.loop-breach.invariant [] (subst (λ (left : List Breach). ArePicked script C left []) (sym none) refl) in
    let whole : ArePicked script C xs c.loop-breach.found.items =
    subst (λ (found : List Breach). ArePicked script C xs found) (append-nil c.loop-breach.found.items) picked in
    subst (λ (all : List Breach). ArePicked script C all c.loop-breach.found.items)
    (c.as_slice-breach-items.ensures.value ∙ c.in_ok-candidates.ensures) whole
