-- What is left of the state's entries has it, and only that.
use Rattle.std.proofs.Common.{◌≡◌, ◌<◌, ℕ, Some, length, subst, sym}
use Rattle.std.specs.List.{slice_get}
use Rattle.entry_table.specs.Index.{places_of}
use Rattle.entry_table.specs.Sieved.{AreSieved}
use Rattle.entry_table.proofs.SievedLemmas.{left_within, left_includes, first_includes, none_includes}
use Rattle.entry_table.proofs.cert.Cert.place_of.Goals as goal

pub first_in_turn-requires : goal.first_in_turn-requires
first_in_turn-requires c = record { formed = c.requires.formed; state = c.state-state.ensures }

pub place_at-requires : goal.place_at-requires
place_at-requires c =
    let entries = c.args.self.now in
    let number = c.in-Some.number in
    let sieves = c.sieves_of.result.now in
    let are = subst (λ (state : ℕ). AreSieved entries (places_of state entries) sieves) c.state-state.ensures c.sieves_of.ensures in
    subst (λ (state : ℕ). number < length (places_of state entries)) (sym c.state-state.ensures)
    (left_within entries sieves c.args.config.now c.first_left.ensures.packed c.requires.formed are number c.in-Some.ensures.first.left)

pub returns-in-Some-clause-has : goal.returns-in-Some-clause-has
returns-in-Some-clause-has c =
    let entries = c.args.self.now in
    let w = c.args.config.now in
    let sieves = c.sieves_of.result.now in
    let number = c.in-Some.number in
    let are = subst (λ (state : ℕ). AreSieved entries (places_of state entries) sieves) c.state-state.ensures c.sieves_of.ensures in
    left_includes entries sieves w c.first_left.ensures.packed c.requires.formed are number c.place_at.result c.in-Some.ensures.first.left
    (subst (λ (state : ℕ). slice_get (places_of state entries) number ≡ Some c.place_at.result) c.state-state.ensures c.place_at.ensures)

pub returns-in-Some-clause-first : goal.returns-in-Some-clause-first
returns-in-Some-clause-first c =
    let entries = c.args.self.now in
    let w = c.args.config.now in
    let sieves = c.sieves_of.result.now in
    let number = c.in-Some.number in
    let are = subst (λ (state : ℕ). AreSieved entries (places_of state entries) sieves) c.state-state.ensures c.sieves_of.ensures in
    first_includes entries sieves w c.first_left.ensures.packed c.requires.formed are number c.place_at.result c.in-Some.ensures.first
    (subst (λ (state : ℕ). slice_get (places_of state entries) number ≡ Some c.place_at.result) c.state-state.ensures c.place_at.ensures)

pub returns-in-None-clause-none : goal.returns-in-None-clause-none
returns-in-None-clause-none c =
    let entries = c.args.self.now in
    let sieves = c.sieves_of.result.now in
    let are = subst (λ (state : ℕ). AreSieved entries (places_of state entries) sieves) c.state-state.ensures c.sieves_of.ensures in
    none_includes entries sieves c.args.config.now c.first_left.ensures.packed c.requires.formed are c.in-None.ensures.none
