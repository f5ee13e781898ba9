use Rattle.std.proofs.Common.{sym, refl}
use Rattle.std.proofs.lemmas.Bool.{ltb-true}
use Rattle.std.proofs.lemmas.Option.{slice_get_read, slice_get_past}
use Rattle.digits.proofs.Remaining.{accepts_there, accepts_nowhere}
use Rattle.digits.proofs.alternatives.accepts_at.Goals as goal

pub returns-in-Some : goal.returns-in-Some
returns-in-Some c =
    let at = slice_get_read c.args.alternative.now _ c.args.at c.in-Some.position.now refl (ltb-true _ _ (sym c.in-Some.ensures.lookup.0)) c.in-Some.ensures.lookup.1 in
    rw c.place.ensures.value (sym (accepts_there c.args.alternative.now c.args.at c.args.symbol c.in-Some.position.now at))

pub returns-in-None : goal.returns-in-None
returns-in-None c = sym (accepts_nowhere c.args.alternative.now c.args.at c.args.symbol (slice_get_past c.args.alternative.now c.args.at c.in-None.ensures.lookup.3))
