-- The entry at the place is the one that was widened.
use Rattle.std.proofs.Common.{◌≡◌, List, Some, length, refl, subst}
use Rattle.std.specs.List.{slice_get}
use Rattle.std.proofs.lemmas.Option.{slice_get_read}
use Rattle.mg_model.specs.Entries.{Entry}
use Rattle.explanation.proofs.mended.widened_at.Goals as goal

pub returns-clause-mends : goal.returns-clause-mends
returns-clause-mends c =
    let entries : List Entry = c.entries.result.now in
    let entry : Entry = c.in-Some.entry.now in
    let there = c.in-Some.ensures.lookup in
    let at : slice_get c.args.cert.now c.args.place ≡ Some entry =
    subst (λ (es : List Entry). slice_get es c.args.place ≡ Some entry) c.entries.ensures
    (slice_get_read entries (length entries) c.args.place entry refl there.3.0 there.1) in
    let includes = rw c.in-Some-2.is at c.in_ok-wide.ensures.includes in
    let keeps = rw c.in-Some-2.is at c.in_ok-wide.ensures.keeps in
    (includes, (entry, (at, keeps)))
