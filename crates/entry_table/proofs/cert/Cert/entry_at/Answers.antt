-- The entry stands at its place.
use Rattle.std.proofs.Common.{◌≡◌, ◌<◌, List, Some, length, refl, subst, sym}
use Rattle.std.specs.List.{slice_get}
use Rattle.std.proofs.lemmas.Option.{slice_get_read}
use Rattle.entry_table.specs.Listed.{Listed}
use Rattle.entry_table.proofs.cert.Cert.entry_at.Goals as goal

pub returns : goal.returns
returns c =
    let entries = c.self.inside.entries.items in
    let within = subst (λ (xs : List Listed). c.args.place < length xs) (sym c.self.view_is) c.requires in
    subst (λ (xs : List Listed). slice_get xs c.args.place ≡ Some c.index.result.now) c.self.view_is
    (slice_get_read entries (length entries) c.args.place c.index.result.now refl within c.index.ensures)
