-- It is well formed as the one before, or was tested.
use Rattle.std.proofs.Common.{refl, sym, ◌∙◌}
use Rattle.configuration.proofs.formed.Formed.take_up.Goals as goal

pub returns-then-is_like : goal.returns-then-is_like
returns-then-is_like c = (λ yes. c.is_like.ensures c.if-is_like.true c.self.invariant, λ formed. refl)

pub returns-then-not-is_well_formed : goal.returns-then-not-is_well_formed
returns-then-not-is_well_formed c = (λ bad. absurd (cc), λ formed. sym c.if-not-is_well_formed.true ∙ c.is_well_formed.ensures.1 formed)

pub invariant_of-self : goal.invariant_of-self
invariant_of-self c = c.is_well_formed.ensures.0 c.if-not-is_well_formed.false

pub returns : goal.returns
returns c = (λ yes. c.is_well_formed.ensures.0 c.if-not-is_well_formed.false, λ formed. refl)
