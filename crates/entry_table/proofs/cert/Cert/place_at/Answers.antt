-- The state's list is at its place in the index, and the place there.
use Rattle.std.proofs.Common.{◌≡◌, ◌∙◌, ◌<◌, ℕ, List, [], ap, sym, length, refl, arith}
use Rattle.std.specs.List.{slice_get}
use Rattle.std.proofs.lemmas.List.{length-map}
use Rattle.std.proofs.lemmas.Option.{slice_get_read}
use Rattle.entry_table.specs.Index.{places_of}
use Rattle.entry_table.proofs.Products.{choice_at}
use Rattle.entry_table.proofs.cert.Cert.place_at.Goals as goal

pub index-requires : goal.index-requires
index-requires c =
    let lists = c.self.inside.places.items in
    let small : c.args.state < 256 = omega (arith, c.ranges.state.fits) in
    let many = sym (length-map lists (λ v. v.items)) ∙ c.self.invariant.0.0 in
    let inside : c.args.state < length lists = omega (arith, many) in
    let is : c.index-places.result.now.items ≡ places_of c.args.state c.args.self.now =
    sym (choice_at (λ v. v.items) lists c.args.state c.index-places.result.now [] inside c.index-places.ensures)
    ∙ c.self.invariant.0.1 c.args.state [] small ∙ ap (places_of c.args.state) c.self.view_is in
    omega (arith, c.requires, ap length is, c.index-places.result.now.ok.0)

pub returns : goal.returns
returns c =
    let lists = c.self.inside.places.items in
    let small : c.args.state < 256 = omega (arith, c.ranges.state.fits) in
    let many = sym (length-map lists (λ v. v.items)) ∙ c.self.invariant.0.0 in
    let inside : c.args.state < length lists = omega (arith, many) in
    let is : c.index-places.result.now.items ≡ places_of c.args.state c.args.self.now =
    sym (choice_at (λ v. v.items) lists c.args.state c.index-places.result.now [] inside c.index-places.ensures)
    ∙ c.self.invariant.0.1 c.args.state [] small ∙ ap (places_of c.args.state) c.self.view_is in
    let items = c.index-places.result.now.items in
    let within : c.args.number < length items = omega (arith, c.requires, ap length is) in
    ap (λ (xs : List ℕ). slice_get xs c.args.number) (sym is) ∙ slice_get_read items (length items) c.args.number c.index.result.now refl within c.index.ensures
