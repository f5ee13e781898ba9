-- An answer that is the expected one, or says that memory ran out: which of its faults say so is a test on them.
use Rattle.std.specs.Prelude.{◌≡◌, Bool, true, false, Result, Ok, Err}

abbrev pub Unless : Bool → Type 0 → Type 0
Unless true P = Unit {0}
Unless false P = P

-- the fault is the expected one, unless it says that memory ran out
abbrev pub Faults : {Y E : Type 0} → (E → Bool) → E → Result Y E → Type 0
Faults is_memory fault expected = Unless (is_memory fault) (expected ≡ Err fault)

-- what a function returned, seen by view, is the expected answer, unless memory ran out
abbrev pub Answers : {X Y E : Type 0} → (E → Bool) → (X → Y) → Result X E → Result Y E → Type 0
Answers is_memory view (Ok x) expected = expected ≡ Ok (view x)
Answers is_memory view (Err fault) expected = Faults is_memory fault expected

-- the same of an answer that is seen as it is
abbrev pub IsOrNoMemory : {A E : Type 0} → (E → Bool) → Result A E → Result A E → Type 0
IsOrNoMemory is_memory answer expected = Answers is_memory (λ x. x) answer expected
