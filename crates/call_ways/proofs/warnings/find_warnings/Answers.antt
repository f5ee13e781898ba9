-- One more is picked, if it is so; at the end none is left.
use Rattle.std.proofs.Common.{◌≡◌, ◌∙◌, ◌∷◌, [], ◌+◌, ℕ, List, drop, sym, ap, subst, refl}
use Rattle.std.proofs.lemmas.List.{append-nil, drop_all}
use Rattle.mg_model.specs.Entries.{Entry as Listed}
use Rattle.closure.proofs.VisitLemmas.{next_of}
use Rattle.call_ways.specs.declared.warning.Warning.{Warning}
use Rattle.call_ways.specs.Warnings.{ArePicked}
use Rattle.call_ways.proofs.Picked.{ArePickedWith, picked_more}
use Rattle.call_ways.proofs.warnings.find_warnings.Goals as goal

pub loop-warning-preserved : goal.loop-warning-preserved
loop-warning-preserved c =
    let script = c.args.script.now in
    let entries : List Listed = c.args.cert.now in
    let xs : List Warning = c.as_slice-warning-items.result.now in
    let i : ℕ = c.loop-warning.warning-index in
    let x : Warning = c.warning-item.result in
    let found : List Warning = c.loop-warning.found.items in
    let next : drop i xs ≡ x ∷ drop (i + 1) xs = next_of xs i x c.loop-warning-test.true ∙ ap (λ (y : Warning). y ∷ drop (i + 1) xs) (sym c.warning-item.is) in
    let so_far = subst (λ (left : List Warning). ArePickedWith script entries xs left found) next c.loop-warning.invariant in
    subst (ArePickedWith script entries xs (drop (i + 1) xs)) (sym c.in_ok-add_if.ensures)
    (picked_more script entries xs found x (drop (i + 1) xs) c.in_ok-holds.holds c.in_ok-holds.ensures so_far)

pub returns : goal.returns
returns c =
    let script = c.args.script.now in
    let entries : List Listed = c.args.cert.now in
    let xs : List Warning = c.as_slice-warning-items.result.now in
    let none : drop c.loop-warning.warning-index xs ≡ [] = drop_all c.loop-warning.warning-index xs c.loop-warning-test.false in
    let picked = c.loop-warning.invariant [] (subst (λ (left : List Warning). ArePicked script entries left []) (sym none) refl) in
    let whole : ArePicked script entries xs c.loop-warning.found.items =
    subst (λ (found : List Warning). ArePicked script entries xs found) (append-nil c.loop-warning.found.items) picked in
    subst (λ (all : List Warning). ArePicked script entries all c.loop-warning.found.items)
    (c.as_slice-warning-items.ensures.value ∙ c.in_ok-all.ensures) whole
