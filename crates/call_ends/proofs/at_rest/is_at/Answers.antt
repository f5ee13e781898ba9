-- What compares alike is one set; past the last there is none.
use Rattle.std.proofs.Common.{◌≡◌, Some, length, refl}
use Rattle.std.specs.List.{slice_get}
use Rattle.std.proofs.lemmas.Option.{slice_get_read}
use Rattle.call_ends.proofs.Telling.{is_it, is_past}
use Rattle.call_ends.proofs.at_rest.is_at.Goals as goal

pub returns-in_default : goal.returns-in_default
returns-in_default c = is_past c.args.sets.now c.args.place c.args.set c.in_default.ensures.lookup.3

pub returns : goal.returns
returns c =
    let there : slice_get c.args.sets.now c.args.place ≡ Some c.in-Some.other.now =
    slice_get_read c.args.sets.now (length c.args.sets.now) c.args.place c.in-Some.other.now refl c.in-Some.ensures.lookup.3.0 c.in-Some.ensures.lookup.1 in
    is_it c.args.sets.now c.args.place c.in-Some.other.now c.args.set c.eq.result there c.eq.ensures
