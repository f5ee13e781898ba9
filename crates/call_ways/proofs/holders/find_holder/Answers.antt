-- Past the last entry there is none.
use Rattle.std.proofs.Common.{◌<◌, length, ap, arith}
use Rattle.std.proofs.lemmas.Option.{slice_get_within}
use Rattle.call_ways.specs.Warnings.{IsHeldBy}
use Rattle.call_ways.proofs.Below.{none_at_all}
use Rattle.call_ways.proofs.holders.find_holder.Goals as goal

pub returns-clause-none : goal.returns-clause-none
returns-clause-none c =
    none_at_all (IsHeldBy c.args.cert.now c.args.place) c.loop-other.other c.loop-other.invariant
    (λ o held.
    let within : o < length c.args.cert.now = slice_get_within c.args.cert.now o held.other held.other_place in
    omega (arith, within, c.loop-other-test.false, ap length c.entries-other-end.ensures))
