-- Reasons of faults, handed on.
use Rattle.std.proofs.Common.{Result, Ok, Err, sym, subst}
use Rattle.std.specs.Prelude.{IfErr, ◌≡◌}
use Rattle.std.specs.Result.{IsErrAnd}
use Rattle.planned_calls.specs.Disagreements.{IsBecause}
use Rattle.planned_calls.specs.declared.fault.RunFault.{RunFault}
use Rattle.planned_calls.specs.declared.fault.RunFault.TheVariants.{BadWorkers, TooManyCalls, Disagree, NoMemory}

-- for another reason, where the one leads to it
pub because : (P Q : Type 0) (fault : RunFault) → (P → Q) → IsBecause P fault → IsBecause Q fault
because P Q Disagree on is = on is
because P Q NoMemory on is = tt
because P Q BadWorkers on is = absurd is
because P Q TooManyCalls on is = absurd is

-- a fault that `?` hands on
pub handed_on : {T : Type 0} (P Q : Type 0) (r : Result T RunFault) (fault : RunFault) → IsErrAnd r (λ f. f ≡ fault) → (P → Q) → IsBecause P fault
    → IfErr r (IsBecause Q)
handed_on P Q (Ok x) fault never on is = tt
handed_on P Q (Err f) fault same on is = because P Q f on (subst (IsBecause P) (sym same) is)

-- that of a result
pub weaker : {T : Type 0} (P Q : Type 0) (r : Result T RunFault) → (P → Q) → IfErr r (IsBecause P) → IfErr r (IsBecause Q)
weaker P Q (Ok x) on is = tt
weaker P Q (Err f) on is = because P Q f on is
