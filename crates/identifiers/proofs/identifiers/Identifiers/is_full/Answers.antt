use Rattle.std.proofs.Common.{arith}
use Rattle.std.proofs.lemmas.Bool.{leb-true, le-leb}
use Rattle.identifiers.proofs.FullLemmas.{full_iff}
use Rattle.identifiers.specs.Stock.{Stock}
use Rattle.identifiers.proofs.identifiers.Identifiers.is_full.Goals as goal

pub returns : goal.returns
returns g c =
    let s : Stock g.row.T.Denot = record { slots = c.self.inside.slots.slots; vacant = c.self.inside.slots.vacant_key; class = c.self.inside.class } in
    let iff = full_iff s c.self.inside.freed.items _ c.self.invariant in
    rw (← c.self.view_is) (
      λ full. iff.0 (omega (arith, leb-true _ _ full, c.len.ensures, c.size.ensures)),
      λ used. le-leb _ _ (omega (arith, iff.1 used, c.len.ensures, c.size.ensures)),
    )
