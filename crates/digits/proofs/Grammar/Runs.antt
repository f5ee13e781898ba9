-- Runs within a range: what is read there is written there, and what is written is read, where no `-` follows.
use Rattle.std.proofs.Common.{◌≡◌, ℕ, ◌-◌, ◌<◌, ◌≤◌, List, [], ◌∷◌, ◌++◌, length, drop, true, false, Some, None, Ok, refl, sym, ap, ◌∙◌, subst, inl, inr, arith}
use Rattle.std.specs.Prelude.{◌==◌, ◌&&◌, nat_lt, nat_le, slice_index}
use Rattle.std.proofs.lemmas.Bool.{ltb-true, lt-ltb, leb-true, le-leb, eqb-true, and_parts, and_from, and_right, cond-true, cond-false}
use Rattle.std.proofs.lemmas.Option.{cond_some}
use Rattle.digits.specs.declared.fault.MapFault.TheVariants as fault
use Rattle.digits.specs.declared.span.Span.{Span}
use Rattle.digits.specs.Marks.{dash, digit}
use Rattle.digits.specs.Symbols.{is_digit, symbol_of, run}
use Rattle.digits.specs.Grammar.{WritesInRow, WritesRun, one_symbol, from_digit_to_digit}
use Rattle.digits.specs.Reading.{◌>>=◌, all_of, or_fault, rising, run_at}
use Rattle.digits.proofs.Steps.{run_at-shrinks}
use Rattle.digits.proofs.Grammar.Given.{chosen, with_rest, given_then}
use Rattle.digits.proofs.Grammar.Rows.{ReadsWritten, TakesWritten, all_read, all_taken}
use Rattle.digits.proofs.Grammar.Bytes.{digit_byte, digit_number, digit_symbol, symbol_differs}

rising_parts : (low high : ℕ) (span : Span) → rising low high ≡ Some span → (is_digit low ≡ true) × (is_digit high ≡ true) × (low ≤ high) × (run (low - 48) (high - 48) ≡ span)
unfolding rising
rising_parts low high span e =
    let parts = cond_some (is_digit low && is_digit high && nat_le low high) (run (low - 48) (high - 48)) span e in
    let tests = and_parts (is_digit low && is_digit high) (nat_le low high) parts.0 in
    let digits = and_parts (is_digit low) (is_digit high) tests.0 in
    (digits.0, digits.1, leb-true low high tests.1, parts.1)

rising_digits : (low high : ℕ) → low ≤ high → high ≤ 9 → rising (digit low) (digit high) ≡ Some (run low high)
unfolding rising
rising_digits low high le small =
    let first = digit_number low (omega (arith, le, small)) in
    let last = digit_number high small in
    let same : run (digit low - 48) (digit high - 48) ≡ run low high = rw (first.1, last.1) refl in
    cond-true (is_digit (digit low) && is_digit (digit high) && nat_le (digit low) (digit high)) (Some (run (digit low - 48) (digit high - 48))) None
    (and_from (is_digit (digit low) && is_digit (digit high)) (nat_le (digit low) (digit high)) (and_from (is_digit (digit low)) (is_digit (digit high)) first.0 last.0) (le-leb (digit low) (digit high) (omega (arith, le))))
    ∙ ap (λ (found : Span). Some found) same

-- a run whose text this is, with the rest after it
abbrev WrittenRun : List ℕ → Span → List ℕ → Type 0
WrittenRun whole span rest = (text : List ℕ) × WritesRun text span × (text ++ rest ≡ whole)

digits_read : (start byte : ℕ) (bytes : List ℕ) (span : Span) (rest : List ℕ) → (nat_lt 2 (length (byte ∷ bytes)) && slice_index (byte ∷ bytes) 1 == dash) ≡ true
    → (or_fault (fault.BadRange start) (rising (slice_index (byte ∷ bytes) 0) (slice_index (byte ∷ bytes) 2)) >>= with_rest (λ (found : Span). found) (drop 3 (byte ∷ bytes))) ≡ Ok (span, rest)
    → WrittenRun (byte ∷ bytes) span rest
digits_read start byte [] span rest test e =
    absurd (omega (arith, ltb-true 2 1 (and_parts (nat_lt 2 1) (slice_index (byte ∷ []) 1 == dash) test).0))
digits_read start byte (middle ∷ []) span rest test e =
    absurd (omega (arith, ltb-true 2 2 (and_parts (nat_lt 2 2) (middle == dash) test).0))
digits_read start byte (middle ∷ high ∷ bytes) span rest test e =
    let read = given_then (fault.BadRange start) (rising byte high) (λ (found : Span). found) bytes span rest e in
    let parts = rising_parts byte high read.0 read.1 in
    let first = digit_byte byte parts.0 in
    let last = digit_byte high parts.1 in
    let is_dash : dash ≡ middle = sym (eqb-true middle dash (and_parts (nat_lt 2 (length (byte ∷ middle ∷ high ∷ bytes))) (middle == dash) test).1) in
    let text = digit (byte - 48) ∷ dash ∷ digit (high - 48) ∷ [] in
    (text, subst (λ (x : Span). WritesRun text x) (parts.3 ∙ read.2) (from_digit_to_digit (byte - 48) (high - 48) (omega (arith, parts.2)) last.1), rw (first.0, last.0, is_dash, read.3) refl)

symbol_read : (start byte : ℕ) (bytes : List ℕ) (span : Span) (rest : List ℕ)
    → (or_fault (fault.BadRange start) (symbol_of byte) >>= with_rest (λ symbol. run symbol symbol) bytes) ≡ Ok (span, rest) → WrittenRun (byte ∷ bytes) span rest
symbol_read start byte bytes span rest e =
    let read = given_then (fault.BadRange start) (symbol_of byte) (λ symbol. run symbol symbol) bytes span rest e in
    (byte ∷ [], subst (λ (x : Span). WritesRun (byte ∷ []) x) read.2 (one_symbol byte read.0 read.1), ap (λ (bs : List ℕ). byte ∷ bs) (sym read.3))

run_read : (start : ℕ) → ReadsWritten WritesRun (run_at start)
unfolding run_at
run_read start byte bytes span rest e =
    let test = nat_lt 2 (length (byte ∷ bytes)) && slice_index (byte ∷ bytes) 1 == dash in
    elim (chosen test _ _ _ e) [ inl h ↦ digits_read start byte bytes span rest h.0 h.1 | inr h ↦ symbol_read start byte bytes span rest h.1 ]

-- the text doesn't begin with `-`
abbrev pub BeginsWithNoDash : List ℕ → Type 0
BeginsWithNoDash [] = Unit {0}
BeginsWithNoDash (byte ∷ bytes) = (byte == dash) ≡ false

dash_test : (byte : ℕ) (rest : List ℕ) → BeginsWithNoDash rest → (nat_lt 2 (length (byte ∷ rest)) && slice_index (byte ∷ rest) 1 == dash) ≡ false
dash_test byte [] none = refl
dash_test byte (next ∷ rest) none = and_right (nat_lt 2 (length (byte ∷ next ∷ rest))) (next == dash) none

symbol_no_dash : (byte number : ℕ) → symbol_of byte ≡ Some number → (byte == dash) ≡ false
unfolding symbol_of
symbol_no_dash byte number e = symbol_differs dash byte number refl e

run_taken : (start : ℕ) → TakesWritten BeginsWithNoDash WritesRun (run_at start)
unfolding run_at
run_taken start text span rest (one_symbol byte number e) none = (
  omega arith,
  cond-false (nat_lt 2 (length (byte ∷ rest)) && slice_index (byte ∷ rest) 1 == dash) _ _ (dash_test byte rest none) ∙ rw e refl,
  symbol_no_dash byte number e,
)
run_taken start text span rest (from_digit_to_digit low high le small) none =
    let whole = digit low ∷ dash ∷ digit high ∷ rest in
    let long : nat_lt 2 (length whole) ≡ true = lt-ltb 2 (length whole) (omega arith) in
    let first = digit_number low (omega (arith, le, small)) in (
      omega arith,
      cond-true (nat_lt 2 (length whole) && dash == dash) _ _ (and_from (nat_lt 2 (length whole)) (dash == dash) long refl) ∙ rw (rising_digits low high le small) refl,
      symbol_no_dash (digit low) (digit low - 48) (digit_symbol (digit low) first.0),
    )

-- the runs of a range, both ways
pub runs_read : (start : ℕ) (text : List ℕ) (runs : List Span) → 0 < length text → all_of (run_at start) text ≡ Ok runs → WritesInRow WritesRun text runs
runs_read start text runs some e = all_read WritesRun (run_at start) (run_at-shrinks start) (run_read start) text runs some e

pub runs_taken : (start : ℕ) (text : List ℕ) (runs : List Span) → WritesInRow WritesRun text runs → (0 < length text) × (all_of (run_at start) text ≡ Ok runs)
runs_taken start text runs row = all_taken BeginsWithNoDash WritesRun (run_at start) (run_at-shrinks start) (run_taken start) tt text runs row
