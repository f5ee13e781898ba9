-- The list of the state is longer by the place.
use Rattle.std.proofs.Common.{◌∙◌, ◌<◌, ◌++◌, ◌∷◌, [], ℕ, List, Vec, Global, length, sym, ap, arith}
use Rattle.entry_table.proofs.ListsAt.{as_many, set_here, set_elsewhere, was_here}
use Rattle.entry_table.proofs.cert.add_place.Goals as goal

pub returns-in_err-push-clause-others : goal.returns-in_err-push-clause-others
returns-in_err-push-clause-others c other none apart =
    set_elsewhere (λ (list : Vec ℕ Global). list.items) c.push.new.self none c.args.places.now.items c.args.state other apart

pub returns-clause-here : goal.returns-clause-here
returns-clause-here c none =
    let within : c.args.state < length c.args.places.now.items = omega (arith, c.requires, as_many (λ (list : Vec ℕ Global). list.items) c.push.new.self none c.args.places.now.items, c.ranges.state.fits) in
    set_here (λ (list : Vec ℕ Global). list.items) c.push.new.self none c.args.places.now.items c.args.state within
    ∙ c.in_ok-push.ensures.items
    ∙ ap (λ (xs : List ℕ). xs ++ c.args.place ∷ [])
    (sym (was_here (λ (list : Vec ℕ Global). list.items) c.push.new.self none c.args.places.now.items c.args.state c.index_mut-list.result.now within
    c.index_mut-list.ensures.value))

pub returns-clause-others : goal.returns-clause-others
returns-clause-others c other none apart =
    set_elsewhere (λ (list : Vec ℕ Global). list.items) c.push.new.self none c.args.places.now.items c.args.state other apart
