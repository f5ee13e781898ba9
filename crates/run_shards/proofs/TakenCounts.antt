-- What is done and what is counted of it, together.
use Rattle.std.proofs.Common.{Result, Ok, Err}
use Rattle.std.specs.Prelude.{IfOk, OnOk}
use Rattle.planned_calls.specs.declared.fault.RunFault.{RunFault}

pub on_ok : (r : Result (Unit {0}) RunFault) (P Q : Type 0) → (P → Q) → OnOk r P → OnOk r Q
on_ok (Ok x) P Q on is = on is
on_ok (Err e) P Q on is = tt

pub both_ok : (r : Result (Unit {0}) RunFault) (P Q R : Type 0) → (P → Q → R) → OnOk r P → OnOk r Q → IfOk r (λ _. R)
both_ok (Ok x) P Q R on is also = on is also
both_ok (Err e) P Q R on is also = tt
