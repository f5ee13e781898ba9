-- A run of symbols and a position take a byte at least.
use Rattle.std.proofs.Common.{ℕ, ◌+◌, ◌-◌, ◌≤◌, ◌<◌, lit<, List, ◌∷◌, length, drop, Result, Ok, Err, Bool, true, false, arith}
use Rattle.std.specs.Prelude.{IfOk, ◌==◌, ◌||◌, if◌then◌else◌}
use Rattle.std.proofs.lemmas.List.{length-drop}
use Rattle.digits.specs.declared.fault.MapFault.{MapFault}
use Rattle.std.specs.List.{before_first, after_first, position_or_len}
use Rattle.mg_model.specs.declared.positions.Position.{Position}
use Rattle.digits.specs.declared.fault.MapFault.TheVariants as fault
use Rattle.digits.specs.Symbols.{position_of}
use Rattle.digits.specs.Reading.{◌>>=◌, all_of, is_end, run_at, range_at, position_at}
use Rattle.digits.proofs.Values.{Shrinks}

within_if : {A : Type 0} (bytes : List ℕ) (b : Bool) (x y : Result (A × List ℕ) MapFault) → IfOk x (λ p. length p.1 ≤ length bytes) → IfOk y (λ p. length p.1 ≤ length bytes)
    → IfOk (if b then x else y) (λ p. length p.1 ≤ length bytes)
within_if bytes true x y hx hy = hx
within_if bytes false x y hx hy = hy

within_then : {A B : Type 0} (bytes : List ℕ) (r : Result A MapFault) (g : A → B) (rest : List ℕ) → length rest ≤ length bytes → IfOk {T = B × List ℕ} (r >>= λ x. Ok (g x, rest)) (λ p. length p.1 ≤ length bytes)
within_then bytes (Ok x) g rest le = le
within_then bytes (Err e) g rest le = tt

shorter : (k byte : ℕ) (bytes : List ℕ) → 0 < k → length (drop k (byte ∷ bytes)) ≤ length bytes
shorter k byte bytes some = omega (arith, length-drop k (byte ∷ bytes))

pub run_at-shrinks : (start : ℕ) → Shrinks (run_at start)
unfolding run_at
run_at-shrinks start byte bytes =
    let three : length (drop 3 (byte ∷ bytes)) ≤ length bytes = shorter 3 byte bytes (lit< tt) in
    let one : length (drop 1 (byte ∷ bytes)) ≤ length bytes = shorter 1 byte bytes (lit< tt) in
    search (within_if, within_then, three, one)

pub range_at-shrinks : (start : ℕ) → Shrinks (range_at start)
unfolding range_at
range_at-shrinks start byte bytes =
    let le : length (drop (position_or_len is_end bytes + 1) bytes) ≤ length bytes = omega (arith, length-drop (position_or_len is_end bytes + 1) bytes) in
    within_if {A = Position} bytes (length (before_first is_end bytes) == 0 || length (before_first is_end bytes) == length bytes)
    (Err (fault.BadRange start))
    (all_of (run_at start) (before_first is_end bytes) >>= λ runs. Ok (position_of runs, after_first is_end bytes))
    tt (within_then bytes (all_of (run_at start) (before_first is_end bytes)) position_of (after_first is_end bytes) le)

pub position_at-shrinks : (end : ℕ) → Shrinks (position_at end)
unfolding position_at
position_at-shrinks end byte bytes =
    let one : length (drop 1 (byte ∷ bytes)) ≤ length bytes = shorter 1 byte bytes (lit< tt) in
    let range = range_at-shrinks (end - length (byte ∷ bytes)) byte bytes in
    search (within_if, within_then, one, range)
