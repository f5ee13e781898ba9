-- One place more.
use Rattle.std.proofs.Common.{◌≡◌, ℕ, Some, arith, refl}
use Rattle.std.specs.List.{slice_get}
use Rattle.std.proofs.lemmas.Option.{slice_get_within}
use Rattle.closure.proofs.FindingLemmas.{refuted}
use Rattle.call_ways.proofs.Below.{none_found, none_more}
use Rattle.call_ends.proofs.at_rest.is_among.Goals as goal

pub returns-then-is_at : goal.returns-then-is_at
returns-then-is_at c = ((λ yes. (c.loop-place.place, c.is_at.ensures.0 c.if-is_at.true)), (λ is. refl))

pub loop-place-preserved : goal.loop-place-preserved
loop-place-preserved c =
    none_more (λ (k : ℕ). slice_get c.args.sets.now k ≡ Some c.args.set) c.loop-place.place c.loop-place.invariant
    (λ is. refuted c.is_at.result c.if-is_at.false (c.is_at.ensures.1 is))

pub returns : goal.returns
returns c =
    none_found (λ (k : ℕ). slice_get c.args.sets.now k ≡ Some c.args.set) c.loop-place.place c.loop-place.invariant
    (λ k is. omega (arith, slice_get_within c.args.sets.now k c.args.set is, c.loop-place-test.false))
