-- The state's list is at its place in the index.
use Rattle.std.proofs.Common.{◌∙◌, ◌<◌, [], ap, sym, length, arith}
use Rattle.std.proofs.lemmas.List.{length-map}
use Rattle.entry_table.specs.Index.{places_of}
use Rattle.entry_table.proofs.Products.{choice_at}
use Rattle.entry_table.proofs.cert.Cert.of_state.Goals as goal

pub returns : goal.returns
returns c =
    let lists = c.self.inside.places.items in
    let small : c.args.state < 256 = omega (arith, c.ranges.state.fits) in
    let many = sym (length-map lists (λ v. v.items)) ∙ c.self.invariant.0.0 in
    let inside : c.args.state < length lists = omega (arith, many) in
    c.as_slice.ensures.value
    ∙ sym (choice_at (λ v. v.items) lists c.args.state c.index-places.result.now [] inside c.index-places.ensures)
    ∙ c.self.invariant.0.1 c.args.state [] small ∙ ap (places_of c.args.state) c.self.view_is
