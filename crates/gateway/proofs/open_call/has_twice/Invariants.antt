use Rattle.std.proofs.Common.{◌≡◌, drop}
use Rattle.gateway.specs.Openings.{has_twice}
use Rattle.gateway.proofs.open_call.has_twice.Given as goal

abbrev pub invariant-loop-place : goal.invariant-loop-place
invariant-loop-place l = has_twice (drop l.place l.lines) ≡ has_twice l.lines
