-- A certificate that breaks no obligation is one of an accepted script, with entries that list what the script declares: so every run
-- of the script is good.
use Rattle.std.proofs.Common.{refl, subst}
use Rattle.closure.specs.Answer.{IsFinding}
use Rattle.composition.proofs.verdict.verdict_of.Goals as goal

pub invariant_of-result : goal.invariant_of-result
invariant_of-result c =
    let documents = c.args.documents in
    let kept = subst (IsFinding documents.script documents.cert) c.in-Kept.is c.requires.found in
    let accepted = c.requires.accepted in
    record {
      accepted = accepted.0;
      few_commands = accepted.1;
      listed = accepted.2;
      none_broken = kept.0;
      safe = c.every_run_is_good.ensures documents.script documents.cert accepted.0 accepted.2 kept.0;
      counted = kept.1;
    }

pub returns-in-Kept : goal.returns-in-Kept
returns-in-Kept c = (refl, refl, invariant_of-result c)
