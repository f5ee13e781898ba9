-- No state so far has too many entries.
use Rattle.std.proofs.Common.{◌≡◌, false, nat_lt}
use Rattle.certificate.specs.Certificate.{some_below}
use Rattle.certificate.specs.Outlines.{outlined_for}
use Rattle.certificate.proofs.outline.has_crowd.Given as goal

abbrev pub invariant-loop-state : goal.invariant-loop-state
invariant-loop-state l = some_below l.state (λ state. nat_lt 256 (outlined_for l.outlines state)) ≡ false
