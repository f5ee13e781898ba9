-- What is known of what the queues gave, once it is taken out.
use Rattle.std.proofs.Common.{◌≡◌, Result, Ok, subst}
use Rattle.std.specs.Prelude.{IfOk}

pub given_ok : {A F : Type 0} (P : A → Type 0) (gave : Result A F) (value : A) → gave ≡ Ok value → IfOk gave P → P value
given_ok {A} {F} P gave value is holds = subst (λ (one : Result A F). IfOk one P) is holds
