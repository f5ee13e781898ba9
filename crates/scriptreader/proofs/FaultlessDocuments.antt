-- What holds of a document without a fault.
use Rattle.std.proofs.Common.{◌≡◌, ◌≤◌, ℕ, List, length, Bool, true, false, not, refl, nat_lt, Option, Some, None}
use Rattle.std.specs.Prelude.{if◌then◌else◌}
use Rattle.std.specs.List.{list_any}
use Rattle.std.proofs.lemmas.Bool.{ltb-false}
use Rattle.scriptreader.specs.declared.fault.ScriptFault.{ScriptFault}
use Rattle.scriptreader.specs.declared.fault.ScriptFault.TheVariants as fault
use Rattle.scriptreader.specs.Written.{State, Document}
use Rattle.scriptreader.specs.Limits.{is_too_large}
use Rattle.scriptreader.specs.Faults.{fault_of, name_fault_of, use_fault_of, state_fault_of, has_bad_name, has_duplicate, has_unknown, has_bad_map, names_state, lacks_fault, has_outcome_without_commands, is_end_that_goes_on, makes_and_subtracts}
use Rattle.scriptreader.proofs.BooleanTests.{or_left, or_right, holds}

passed : (b : Bool) (fault : ScriptFault) (rest : Option ScriptFault) → (if b then Some fault else rest) ≡ None → (b ≡ false) × (rest ≡ None)
passed true fault rest e = absurd cc
passed false fault rest e = (refl, e)

first_of_two : (b c : Bool) (one other found : ScriptFault) (rest : Option ScriptFault) → (if b then Some one else if c then Some other else None) ≡ Some found → (if b then Some one else if c then Some other else rest) ≡ Some found
first_of_two true c one other found rest e = e
first_of_two false true one other found rest e = e
first_of_two false false one other found rest e = absurd cc

neither_of_two : (b c : Bool) (one other : ScriptFault) (rest : Option ScriptFault) → (if b then Some one else if c then Some other else None) ≡ None → (if b then Some one else if c then Some other else rest) ≡ rest
neither_of_two true c one other rest e = absurd cc
neither_of_two false true one other rest e = absurd cc
neither_of_two false false one other rest e = refl

-- a fault of the declared names is the lowest of the document
pub names_first : (d : Document) (found : ScriptFault) → name_fault_of d ≡ Some found → fault_of d ≡ Some found
unfolding fault_of name_fault_of
names_first d found e = first_of_two (has_bad_name d) (has_duplicate d) fault.BadName fault.Duplicate found (use_fault_of d) e

-- where they have none, the lowest is one of the uses
pub uses_next : (d : Document) → name_fault_of d ≡ None → fault_of d ≡ use_fault_of d
unfolding fault_of name_fault_of
uses_next d e = neither_of_two (has_bad_name d) (has_duplicate d) fault.BadName fault.Duplicate (use_fault_of d) e

-- and none of them comes twice
pub none_twice : (d : Document) → name_fault_of d ≡ None → has_duplicate d ≡ false
unfolding name_fault_of
none_twice d e = (passed (has_duplicate d) fault.Duplicate None (passed (has_bad_name d) fault.BadName _ e).1).0

pub record IsFaultless (d : Document) : Type 0 where
  pub duplicate : has_duplicate d ≡ false
  pub unknown : has_unknown d ≡ false
  pub maps : has_bad_map d ≡ false
  pub start : names_state d d.start ≡ true
  pub restart : names_state d d.restart ≡ true
  pub large : is_too_large d ≡ false

pub faultless : (d : Document) → fault_of d ≡ None → IsFaultless d
unfolding fault_of use_fault_of state_fault_of
faultless d e =
    let e1 = passed (has_bad_name d) fault.BadName _ e in
    let e2 = passed (has_duplicate d) fault.Duplicate _ e1.1 in
    let e3 = passed (has_unknown d) fault.Unknown _ e2.1 in
    let e4 = passed (has_bad_map d) fault.BadMap _ e3.1 in
    let e5 = passed (not (names_state d d.start)) fault.NoStart _ e4.1 in
    let e6 = passed (not (names_state d d.restart)) fault.NoRestart _ e5.1 in
    let e7 = passed (list_any (λ s. lacks_fault s) d.states) fault.NoFault _ e6.1 in
    let e8 = passed (list_any (λ s. has_outcome_without_commands s) d.states) fault.OkWithoutActions _ e7.1 in
    let e9 = passed (list_any (λ s. is_end_that_goes_on s) d.states) fault.EndWithTransitions _ e8.1 in
    let e10 = passed (list_any (λ s. makes_and_subtracts s) d.states) fault.MadeAndSubtracted _ e9.1 in
    let e11 = passed (is_too_large d) fault.TooMany _ e10.1 in
    record { duplicate = e2.0; unknown = e3.0; maps = e4.0; start = holds _ e5.0; restart = holds _ e6.0; large = e11.0 }
