-- Two runs come to what the first comes to where it is broken, else to the second, with the points of both.
use Rattle.std.proofs.Common.{sym, subst}
use Rattle.closure.specs.Runs.{IsOfRun}
use Rattle.parcheck.proofs.PieceLemmas.{both_of_kept, second_broken}
use Rattle.parcheck.proofs.in_order.joined.Goals as goal

pub returns-in-Broken-second : goal.returns-in-Broken-second
returns-in-Broken-second c script entries a b end rise more small one another =
    let kept = subst (IsOfRun script entries a b) c.in-Kept.is one in
    let broken = subst (IsOfRun script entries b end) c.in-Broken-second.is another in
    subst (IsOfRun script entries a end) (sym c.in-Broken-second.is)
    (second_broken script entries a b end rise c.in-Broken-second.field-0 kept.0 broken)

pub returns-in-Kept-second : goal.returns-in-Kept-second
returns-in-Kept-second c script entries a b end rise more small one another =
    let kept = subst (IsOfRun script entries a b) c.in-Kept.is one in
    let also = subst (IsOfRun script entries b end) c.in-Kept-second.is another in
    both_of_kept script entries a b end c.in-Kept.points c.in-Kept-second.more c.saturating_add.result c.saturating_add.ensures rise more
    small kept also
