-- Where none lacks one value alone, there is nothing to widen.
use Rattle.explanation.proofs.mended.nearest_widened.Goals as goal

pub returns-in_default-clause-none : goal.returns-in_default-clause-none
returns-in_default-clause-none c = λ place entry at is. absurd (c.in_default.ensures.none place is)
