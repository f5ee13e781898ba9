-- None of those so far is the set.
use Rattle.std.proofs.Common.{◌≡◌, Some}
use Rattle.std.specs.List.{slice_get}
use Rattle.call_ways.proofs.Below.{NoneBelow}
use Rattle.call_ends.proofs.at_rest.is_among.Given as goal

abbrev pub invariant-loop-place : goal.invariant-loop-place
invariant-loop-place l = NoneBelow (λ k. slice_get l.sets k ≡ Some l.set) l.place
