-- What calls come to is among the configurations that were found, and the part has those of the entry.
use Rattle.std.proofs.Common.{◌≡◌, List, Some, None, length, refl, sym, subst}
use Rattle.std.specs.List.{slice_get}
use Rattle.std.proofs.lemmas.Option.{slice_get_read}
use Rattle.mg_model.specs.Entries.{Entry as Listed}
use Rattle.call_ways.specs.Ways.{AreAll}
use Rattle.explanation.proofs.Narrowing.{holds_come}
use Rattle.explanation.proofs.part.part_of.Goals as goal

pub returns-in-Some-2-clause-part : goal.returns-in-Some-2-clause-part
returns-in-Some-2-clause-part c =
    let script = c.args.script.now in
    let entries : List Listed = c.args.cert.now in
    let one : Listed = c.in-Some.entry.now in
    let there : slice_get entries c.args.place ≡ Some one =
    slice_get_read entries (length entries) c.args.place one refl (rw c.entries.ensures at c.in-Some.ensures.lookup.3.0)
    (rw c.entries.ensures at c.in-Some.ensures.lookup.1) in
    holds_come one c.configs.result.now script entries c.args.place (Some c.in-Some-2.narrow) there
    (subst (AreAll script entries) (sym c.configs.ensures) c.requires.all) (rw c.in-Some-2.is at c.in_ok-narrow.ensures)

pub returns-in-None-clause-part : goal.returns-in-None-clause-part
returns-in-None-clause-part c =
    let script = c.args.script.now in
    let entries : List Listed = c.args.cert.now in
    let one : Listed = c.in-Some.entry.now in
    let there : slice_get entries c.args.place ≡ Some one =
    slice_get_read entries (length entries) c.args.place one refl (rw c.entries.ensures at c.in-Some.ensures.lookup.3.0)
    (rw c.entries.ensures at c.in-Some.ensures.lookup.1) in
    holds_come one c.configs.result.now script entries c.args.place None there
    (subst (AreAll script entries) (sym c.configs.ensures) c.requires.all) (rw c.in-None.is at c.in_ok-narrow.ensures)
