-- Positions: what is read as one is written there, and what is written is read, whatever follows.
use Rattle.std.proofs.Common.{◌≡◌, ℕ, suc, ◌-◌, ◌<◌, List, [], ◌∷◌, ◌++◌, length, get_or, true, false, Some, Result, Ok, refl, sym, ap, ◌∙◌, subst, inl, inr, arith, append_assoc}
use Rattle.std.specs.Prelude.{◌==◌, ◌||◌}
use Rattle.std.specs.List.{before_first, after_first, position_or_len}
use Rattle.std.proofs.Math.Seq.{take-append_seam, drop-append-add, get_or-append_seam}
use Rattle.std.proofs.lemmas.List.{length-take, length-append, get_or_append_left}
use Rattle.std.proofs.lemmas.List.Elements.{All-get_or}
use Rattle.std.proofs.lemmas.List.Sums.{position_or_len_is, split_at_first, passes_at_first}
use Rattle.std.proofs.lemmas.Bool.{eqb-true, eqb-false, ne_eqb, or_parts, or_from, cond-true, cond-false}
use Rattle.digits.specs.declared.fault.MapFault.{MapFault}
use Rattle.digits.specs.declared.fault.MapFault.TheVariants as fault
use Rattle.digits.specs.declared.span.Span.{Span}
use Rattle.mg_model.specs.declared.positions.Position.{Position}
use Rattle.digits.specs.Marks.{opening_bracket, closing_bracket, is_x}
use Rattle.digits.specs.Symbols.{symbol_of, run, position_of}
use Rattle.digits.specs.Grammar.{WritesInRow, WritesRun, WritesPosition, symbol, any_digit, range, WritesAlternative}
use Rattle.digits.specs.Reading.{◌>>=◌, all_of, or_fault, is_end, run_at, range_at, position_at}
use Rattle.digits.proofs.Steps.{position_at-shrinks}
use Rattle.digits.proofs.Grammar.Given.{chosen, no_fault, with_rest, same_read, read_then, given_then}
use Rattle.digits.proofs.Grammar.Rows.{ReadsWritten, TakesWritten, all_read, all_taken}
use Rattle.digits.proofs.Grammar.Bytes.{Lacks, no_bracket, symbol_differs, x_differs, runs_lack}
use Rattle.digits.proofs.Grammar.Runs.{runs_read, runs_taken}

-- a position whose text this is, with the rest after it
abbrev WrittenPosition : List ℕ → Position → List ℕ → Type 0
WrittenPosition whole position rest = (text : List ℕ) × WritesPosition text position × (text ++ rest ≡ whole)

-- what stands before the bracket, the bracket, and what stands after it
bracket_parts : (bytes : List ℕ) → position_or_len is_end bytes < length bytes → before_first is_end bytes ++ closing_bracket ∷ after_first is_end bytes ≡ bytes
bracket_parts bytes lt =
    let there : get_or bytes (position_or_len is_end bytes) 0 ≡ closing_bracket = eqb-true (get_or bytes (position_or_len is_end bytes) 0) closing_bracket (passes_at_first is_end bytes 0 lt) in
    ap (λ byte. before_first is_end bytes ++ byte ∷ after_first is_end bytes) (sym there) ∙ sym (split_at_first is_end bytes 0 lt)

bracket_within : (bytes : List ℕ) → (length (before_first is_end bytes) == length bytes) ≡ false → position_or_len is_end bytes < length bytes
bracket_within bytes e =
    let short : length (before_first is_end bytes) ≡ length bytes → ⊥ = eqb-false (length (before_first is_end bytes)) (length bytes) e in
    omega (arith, length-take (position_or_len is_end bytes) bytes, short)

range_read : (start : ℕ) (bytes : List ℕ) (position : Position) (rest : List ℕ) → range_at start (opening_bracket ∷ bytes) ≡ Ok (position, rest) → WrittenPosition (opening_bracket ∷ bytes) position rest
unfolding range_at
range_read start bytes position rest e =
    let inside = before_first is_end bytes in
    let test = no_fault (length inside == 0 || length inside == length bytes) (fault.BadRange start) (all_of (run_at start) inside >>= with_rest position_of (after_first is_end bytes)) (position, rest) e in
    let parts = or_parts (length inside == 0) (length inside == length bytes) test.0 in
    let read = read_then (all_of (run_at start) inside) position_of (after_first is_end bytes) position rest test.1 in
    let none : length inside ≡ 0 → ⊥ = eqb-false (length inside) 0 parts.0 in
    let some : 0 < length inside = omega (arith, none) in
    let whole = bracket_parts bytes (bracket_within bytes parts.1) in (
      opening_bracket ∷ inside ++ closing_bracket ∷ [],
      subst (λ (p : Position). WritesPosition (opening_bracket ∷ inside ++ closing_bracket ∷ []) p) read.2 (range inside read.0 (runs_read start inside read.0 some read.1)),
      ap (λ (bs : List ℕ). opening_bracket ∷ bs) (append_assoc inside (closing_bracket ∷ []) rest ∙ (ap (λ (bs : List ℕ). inside ++ closing_bracket ∷ bs) (sym read.3) ∙ whole)),
    )

bracket_at : (inside rest : List ℕ) → Lacks closing_bracket inside → position_or_len is_end (inside ++ closing_bracket ∷ rest) ≡ length inside
bracket_at inside rest lacks =
    position_or_len_is is_end (inside ++ closing_bracket ∷ rest) (length inside) 0 (omega (arith, length-append inside (closing_bracket ∷ rest)))
    (λ k lt. rw (get_or_append_left inside (closing_bracket ∷ rest) 0 k lt) (All-get_or (λ byte. (byte == closing_bracket) ≡ false) inside k 0 lt lacks))
    (λ lt. rw (get_or-append_seam inside closing_bracket rest 0) refl)

range_taken : (start : ℕ) (inside rest : List ℕ) (runs : List Span) → WritesInRow WritesRun inside runs → range_at start (opening_bracket ∷ (inside ++ closing_bracket ∷ rest)) ≡ Ok (position_of runs, rest)
unfolding range_at
range_taken start inside rest runs row =
    let bytes = inside ++ closing_bracket ∷ rest in
    let taken = runs_taken start inside runs row in
    let at = bracket_at inside rest (runs_lack closing_bracket no_bracket inside runs row) in
    let before : before_first is_end bytes ≡ inside = rw at (take-append_seam inside (closing_bracket ∷ rest)) in
    let after : after_first is_end bytes ≡ rest = rw at (drop-append-add inside (closing_bracket ∷ rest) 1) in
    let none : (length inside == 0) ≡ false = ne_eqb (length inside) 0 (λ e. omega (arith, e, taken.0)) in
    let short : (length inside == length bytes) ≡ false = ne_eqb (length inside) (length bytes) (λ e. omega (arith, e, length-append inside (closing_bracket ∷ rest))) in
    rw (before, after) (cond-false (length inside == 0 || length inside == length bytes) _ _ (or_from (length inside == 0) (length inside == length bytes) none short) ∙ ap (λ r. r >>= with_rest position_of rest) taken.1)

x_read : (byte : ℕ) (bytes : List ℕ) (position : Position) (rest : List ℕ) → (is_x byte) ≡ true → ◌≡◌ {A = Result (Position × List ℕ) MapFault} (Ok (position_of (run 0 9 ∷ []), bytes)) (Ok (position, rest))
    → WrittenPosition (byte ∷ bytes) position rest
x_read byte bytes position rest is e =
    let parts = same_read (position_of (run 0 9 ∷ [])) position bytes rest e in
    (byte ∷ [], subst (λ (p : Position). WritesPosition (byte ∷ []) p) parts.0 (any_digit byte is), ap (λ (bs : List ℕ). byte ∷ bs) (sym parts.1))

symbol_read : (start byte : ℕ) (bytes : List ℕ) (position : Position) (rest : List ℕ)
    → (or_fault (fault.BadSymbol start) (symbol_of byte) >>= with_rest (λ number. position_of (run number number ∷ [])) bytes) ≡ Ok (position, rest) → WrittenPosition (byte ∷ bytes) position rest
symbol_read start byte bytes position rest e =
    let read = given_then (fault.BadSymbol start) (symbol_of byte) (λ number. position_of (run number number ∷ [])) bytes position rest e in
    (byte ∷ [], subst (λ (p : Position). WritesPosition (byte ∷ []) p) read.2 (symbol byte read.0 read.1), ap (λ (bs : List ℕ). byte ∷ bs) (sym read.3))

opening_read : (start byte : ℕ) (bytes : List ℕ) (position : Position) (rest : List ℕ) → (byte == opening_bracket) ≡ true → range_at start (byte ∷ bytes) ≡ Ok (position, rest) → WrittenPosition (byte ∷ bytes) position rest
opening_read start byte bytes position rest is e =
    let opening : byte ≡ opening_bracket = eqb-true byte opening_bracket is in
    subst (λ b. WrittenPosition (b ∷ bytes) position rest) (sym opening) (range_read start bytes position rest (subst (λ b. range_at start (b ∷ bytes) ≡ Ok (position, rest)) opening e))

position_read : (end : ℕ) → ReadsWritten WritesPosition (position_at end)
unfolding position_at
position_read end byte bytes position rest e = elim (chosen (byte == opening_bracket) _ _ _ e) [
  | inl opening ↦ opening_read (end - length (byte ∷ bytes)) byte bytes position rest opening.0 opening.1
  | inr other ↦ elim (chosen (is_x byte) _ _ _ other.1) [
    | inl any ↦ x_read byte bytes position rest any.0 any.1
    | inr plain ↦ symbol_read (end - length (byte ∷ bytes)) byte bytes position rest plain.1
  ]
]

-- neither `[` nor `x` writes a symbol
symbol_tests : (byte number : ℕ) → symbol_of byte ≡ Some number → ((byte == opening_bracket) ≡ false) × ((is_x byte) ≡ false)
unfolding symbol_of
symbol_tests byte number e =
    (symbol_differs opening_bracket byte number refl e, or_from (byte == 120) (byte == 88) (symbol_differs 120 byte number refl e) (symbol_differs 88 byte number refl e))

position_taken : (end : ℕ) → TakesWritten (λ _. Unit {0}) WritesPosition (position_at end)
unfolding position_at
position_taken end text position rest (symbol byte number e) none =
    let tests = symbol_tests byte number e in
    (omega arith, cond-false (byte == opening_bracket) _ _ tests.0 ∙ (cond-false (is_x byte) _ _ tests.1 ∙ rw e refl), tt)
position_taken end text position rest (any_digit byte e) none =
    (omega arith, cond-false (byte == opening_bracket) _ _ (x_differs opening_bracket byte refl refl e) ∙ cond-true (is_x byte) _ _ e, tt)
position_taken end text position rest (range inside runs row) none =
    (omega arith, rw (append_assoc inside (closing_bracket ∷ []) rest) (range_taken (end - suc (length (inside ++ closing_bracket ∷ rest))) inside rest runs row), tt)

-- the positions of an alternative, both ways
pub positions_read : (end : ℕ) (text : List ℕ) (positions : List Position) → 0 < length text → all_of (position_at end) text ≡ Ok positions → WritesAlternative text positions
positions_read end text positions some e = all_read WritesPosition (position_at end) (position_at-shrinks end) (position_read end) text positions some e

pub positions_taken : (end : ℕ) (text : List ℕ) (positions : List Position) → WritesAlternative text positions → (0 < length text) × (all_of (position_at end) text ≡ Ok positions)
positions_taken end text positions row = all_taken (λ _. Unit {0}) WritesPosition (position_at end) (position_at-shrinks end) (position_taken end) tt text positions row
