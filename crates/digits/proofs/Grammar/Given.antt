-- What is known of the parts of an answer that was given.
use Rattle.std.proofs.Common.{◌≡◌, ℕ, List, Bool, true, false, Option, Some, None, Result, Ok, Err, refl, ap, inl, inr}
use Rattle.std.specs.Prelude.{◌⊎◌, cond}
use Rattle.digits.specs.declared.fault.MapFault.{MapFault}
use Rattle.digits.specs.Reading.{◌>>=◌, or_fault}

-- what is bound gave a value
pub bound : {A B : Type 0} (r : Result A MapFault) (f : A → Result B MapFault) (y : B) → (r >>= f) ≡ Ok y → (x : A) × (r ≡ Ok x) × (f x ≡ Ok y)
bound (Ok x) f y e = (x, refl, e)
bound (Err d) f y e = absurd cc

pub same_answer : {A : Type 0} (x y : A) → ◌≡◌ {A = Result A MapFault} (Ok x) (Ok y) → x ≡ y
same_answer x y e = cc

-- a choice, by its test
pub chosen : {A : Type 0} (b : Bool) (x y z : A) → cond b x y ≡ z → ((b ≡ true) × (x ≡ z)) ⊎ ((b ≡ false) × (y ≡ z))
chosen true x y z e = inl (refl, e)
chosen false x y z e = inr (refl, e)

-- a choice between a fault and an answer was the answer
pub no_fault : {A : Type 0} (b : Bool) (e : MapFault) (r : Result A MapFault) (x : A) → cond b (Err e) r ≡ Ok x → (b ≡ false) × (r ≡ Ok x)
no_fault true e r x so = absurd cc
no_fault false e r x so = (refl, so)

-- an option that isn't a fault has a value
pub given : {A : Type 0} (e : MapFault) (o : Option A) (x : A) → or_fault e o ≡ Ok x → o ≡ Some x
given e None x so = absurd cc
given e (Some y) x so = cc

-- what a value leads to, and the bytes after it
abbrev pub with_rest : {A B : Type 0} → (A → B) → List ℕ → A → Result (B × List ℕ) MapFault
with_rest f rest x = Ok (f x, rest)

-- a value and the bytes after it, each on its own
pub same_read : {A : Type 0} (x y : A) (after rest : List ℕ) → ◌≡◌ {A = Result (A × List ℕ) MapFault} (Ok (x, after)) (Ok (y, rest)) → (x ≡ y) × (after ≡ rest)
same_read {A = A} x y after rest e =
    let pairs : ◌≡◌ {A = A × List ℕ} (x, after) (y, rest) = cc in
    (ap (λ (p : A × List ℕ). p.0) pairs, ap (λ (p : A × List ℕ). p.1) pairs)

-- the value, what it led to, and the bytes after it
pub read_then : {A B : Type 0} (r : Result A MapFault) (f : A → B) (after : List ℕ) (y : B) (rest : List ℕ) → (r >>= with_rest f after) ≡ Ok (y, rest)
    → (x : A) × (r ≡ Ok x) × (f x ≡ y) × (after ≡ rest)
read_then (Err e) f after y rest so = absurd cc
read_then (Ok x) f after y rest so =
    let parts = same_read (f x) y after rest so in
    (x, refl, parts.0, parts.1)

-- the same of an option
pub given_then : {A B : Type 0} (e : MapFault) (o : Option A) (f : A → B) (after : List ℕ) (y : B) (rest : List ℕ) → (or_fault e o >>= with_rest f after) ≡ Ok (y, rest)
    → (x : A) × (o ≡ Some x) × (f x ≡ y) × (after ≡ rest)
given_then e o f after y rest so =
    let read = read_then (or_fault e o) f after y rest so in
    (read.0, given e o read.0 read.1, read.2, read.3)
