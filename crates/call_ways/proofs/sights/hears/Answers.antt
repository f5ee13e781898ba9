-- What is said of resting, and of the path between the two lines.
use Rattle.std.proofs.Common.{rules}
use Rattle.closure.proofs.FindingLemmas.{refuted}
use Rattle.call_ways.proofs.sights.hears.Goals as goal

pub returns-then-not-rests_in : goal.returns-then-not-rests_in
returns-then-not-rests_in c = λ script.
    ((λ bad. absurd (search rules)), (λ is. absurd (refuted c.rests_in.result c.if-not-rests_in.true (c.rests_in.ensures.1 is.0))))

pub returns : goal.returns
returns c = λ script.
    ((λ told. (c.rests_in.ensures.0 c.if-not-rests_in.false, c.has_path.ensures.0 told)), (λ is. c.has_path.ensures.1 is.1))
