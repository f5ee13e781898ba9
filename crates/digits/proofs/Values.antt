-- Reading values one after the other, as a loop does.
use Rattle.std.proofs.Common.{◌≡◌, ℕ, zero, suc, ◌≤◌, ◌<◌, List, [], ◌∷◌, ◌++◌, length, Result, Ok, Err, refl, sym, ap, ◌∙◌, append_assoc, arith}
use Rattle.std.proofs.lemmas.List.{append-nil}
use Rattle.std.specs.Prelude.{IfOk}
use Rattle.digits.specs.declared.fault.MapFault.{MapFault}
use Rattle.digits.specs.declared.fault.MapFault.TheVariants as fault
use Rattle.mg_model.specs.Memory.{Faults}
use Rattle.digits.specs.Faults.{is_memory}
use Rattle.digits.specs.Reading.{◌>>=◌, Step, values, all_of}

-- what fails first fails the whole
pub Fails-then : {A B : Type 0} (e : MapFault) (r : Result A MapFault) (f : A → Result B MapFault) (total : Result B MapFault) → Faults is_memory e r → (r >>= f) ≡ total → Faults is_memory e total
Fails-then fault.NoMemory r f total h so = tt
Fails-then fault.Empty r f total h so = sym so ∙ ap (λ x. x >>= f) h
Fails-then (fault.BadSymbol at) r f total h so = sym so ∙ ap (λ x. x >>= f) h
Fails-then (fault.BadRange at) r f total h so = sym so ∙ ap (λ x. x >>= f) h
Fails-then fault.TooLong r f total h so = sym so ∙ ap (λ x. x >>= f) h

-- a value takes a byte at least
abbrev pub Shrinks : {A : Type 0} → Step A → Type 0
Shrinks step = (byte : ℕ) (bytes : List ℕ) → IfOk (step (byte ∷ bytes)) (λ p. length p.1 ≤ length bytes)

-- what was read before, and what is still read
abbrev pub with_front : {A : Type 0} → List A → Result (List A) MapFault → Result (List A) MapFault
with_front front read = read >>= λ xs. Ok (front ++ xs)

abbrev pub with_first : {A : Type 0} → A → Result (List A) MapFault → Result (List A) MapFault
with_first x read = read >>= λ xs. Ok (x ∷ xs)

nothing_left : {A : Type 0} (step : Step A) (n : ℕ) → values step n [] ≡ Ok []
unfolding values
nothing_left step zero = refl
nothing_left step (suc n) = refl

abbrev both_turns : {A : Type 0} (step : Step A) (n m : ℕ) (r : Result (A × List ℕ) MapFault) → Type 0
both_turns step n m r = (r >>= λ p. values step n p.1 >>= λ xs. Ok (p.0 ∷ xs)) ≡ (r >>= λ p. values step m p.1 >>= λ xs. Ok (p.0 ∷ xs))

same_after : {A : Type 0} (step : Step A) (n m : ℕ) (bytes : List ℕ) (r : Result (A × List ℕ) MapFault)
    → ((text : List ℕ) → length text ≤ length bytes → values step n text ≡ values step m text)
    → IfOk r (λ p. length p.1 ≤ length bytes) → both_turns step n m r
same_after step n m bytes (Ok p) same le = ap (with_first p.0) (same p.1 le)
same_after step n m bytes (Err e) same le = refl

-- more turns than bytes make no difference
turns : {A : Type 0} (step : Step A) → Shrinks step → (n m : ℕ) (text : List ℕ) → length text ≤ n → length text ≤ m → values step n text ≡ values step m text
unfolding values
turns step shrinks n m [] a b = nothing_left step n ∙ sym (nothing_left step m)
turns step shrinks zero m (byte ∷ bytes) a b = absurd (omega arith)
turns step shrinks (suc n) zero (byte ∷ bytes) a b = absurd (omega arith)
turns step shrinks (suc n) (suc m) (byte ∷ bytes) a b =
    same_after step n m bytes (step (byte ∷ bytes)) (λ text le. turns step shrinks n m text (omega arith) (omega arith)) (shrinks byte bytes)

first_value : {A : Type 0} (step : Step A) → Shrinks step → (bytes : List ℕ) (r : Result (A × List ℕ) MapFault) (x : A) (rest : List ℕ) → r ≡ Ok (x, rest) → IfOk r (λ p. length p.1 ≤ length bytes)
    → (r >>= λ p. values step (length bytes) p.1 >>= λ xs. Ok (p.0 ∷ xs)) ≡ with_first x (all_of step rest)
first_value {A = A} step shrinks bytes (Ok p) x rest e le =
    let same : p ≡ (x, rest) = cc in
    let q : length rest ≤ length bytes = rw (ap (λ (y : A × List ℕ). y.1) same) at le in
    rw same (ap (with_first x) (turns step shrinks (length bytes) (length rest) rest q (omega arith)))
first_value step shrinks bytes (Err d) x rest e le = absurd cc

-- the values from a text on, where the first is known
pub all_of-first : {A : Type 0} (step : Step A) → Shrinks step → (text : List ℕ) (x : A) (rest : List ℕ) → 0 < length text → step text ≡ Ok (x, rest)
    → all_of step text ≡ (all_of step rest >>= λ xs. Ok (x ∷ xs))
unfolding values
all_of-first step shrinks [] x rest some e = absurd (omega arith)
all_of-first step shrinks (byte ∷ bytes) x rest some e = first_value step shrinks bytes (step (byte ∷ bytes)) x rest e (shrinks byte bytes)

pub regroup : {A : Type 0} (front : List A) (x : A) (read : Result (List A) MapFault) → with_front front (with_first x read) ≡ with_front (front ++ x ∷ []) read
regroup front x (Ok xs) = ap (λ ys. Ok ys) (sym (append_assoc front (x ∷ []) xs))
regroup front x (Err f) = refl

pub goes_on : {A : Type 0} (step : Step A) → Shrinks step → (front : List A) (text : List ℕ) (x : A) (rest : List ℕ) (total : Result (List A) MapFault) → 0 < length text → step text ≡ Ok (x, rest)
    → with_front front (all_of step text) ≡ total → with_front (front ++ x ∷ []) (all_of step rest) ≡ total
goes_on step shrinks front text x rest total some e so_far =
    sym (regroup front x (all_of step rest)) ∙ (ap (with_front front) (sym (all_of-first step shrinks text x rest some e)) ∙ so_far)

first_fails : {A : Type 0} (step : Step A) (e : MapFault) (text : List ℕ) → 0 < length text → Faults is_memory e (step text) → Faults is_memory e (all_of step text)
unfolding values
first_fails step e [] some h = absurd (omega arith)
first_fails step e (byte ∷ bytes) some h =
    Fails-then e (step (byte ∷ bytes)) (λ p. values step (length bytes) p.1 >>= λ xs. Ok (p.0 ∷ xs)) (all_of step (byte ∷ bytes)) h refl

pub ends : {A : Type 0} (step : Step A) (e : MapFault) (front : List A) (text : List ℕ) (total : Result (List A) MapFault) → 0 < length text → Faults is_memory e (step text)
    → with_front front (all_of step text) ≡ total → Faults is_memory e total
ends step e front text total some h so_far = Fails-then e (all_of step text) (λ xs. Ok (front ++ xs)) total (first_fails step e text some h) so_far

pub is_done : {A : Type 0} (step : Step A) (front : List A) (text : List ℕ) (total : Result (List A) MapFault) → length text ≡ 0 → with_front front (all_of step text) ≡ total → total ≡ Ok front
unfolding values
is_done step front [] total none so_far = sym so_far ∙ ap (λ ys. Ok ys) (append-nil front)
is_done step front (byte ∷ bytes) total none so_far = absurd (omega arith)

pub starts : {A : Type 0} (read : Result (List A) MapFault) → with_front [] read ≡ read
starts (Ok xs) = refl
starts (Err e) = refl

smaller_after : {A : Type 0} (bytes : List ℕ) (r : Result (A × List ℕ) MapFault) (x : A) (rest : List ℕ) → r ≡ Ok (x, rest) → IfOk r (λ p. length p.1 ≤ length bytes) → length rest ≤ length bytes
smaller_after {A = A} bytes (Ok p) x rest e le =
    let same : p ≡ (x, rest) = cc in
    rw (ap (λ (y : A × List ℕ). y.1) same) at le
smaller_after bytes (Err d) x rest e le = absurd cc

pub smaller : {A : Type 0} (step : Step A) → Shrinks step → (text : List ℕ) (x : A) (rest : List ℕ) → 0 < length text → step text ≡ Ok (x, rest) → length rest < length text
smaller step shrinks [] x rest some e = absurd (omega arith)
smaller step shrinks (byte ∷ bytes) x rest some e =
    let le : length rest ≤ length bytes = smaller_after bytes (step (byte ∷ bytes)) x rest e (shrinks byte bytes) in omega arith
