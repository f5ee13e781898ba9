-- The state's sieves are at its place in the index.
use Rattle.std.proofs.Common.{◌<◌, List, subst, sym, arith}
use Rattle.entry_table.specs.Sieves.{Sieves}
use Rattle.entry_table.specs.Index.{places_of}
use Rattle.entry_table.specs.Listed.{Listed}
use Rattle.entry_table.specs.Sieved.{AreSieved}
use Rattle.entry_table.proofs.cert.Cert.sieves_of.Goals as goal

pub returns : goal.returns
returns c =
    let small : c.args.state < 256 = omega (arith, c.ranges.state.fits) in
    subst (λ (entries : List Listed). AreSieved entries (places_of c.args.state entries) c.index.result.now) c.self.view_is
    (subst (λ (sieves : Sieves). AreSieved c.self.inside.entries.items (places_of c.args.state c.self.inside.entries.items) sieves) (sym c.index.ensures)
    (c.self.invariant.1.1 c.args.state c.index.result.now small))
