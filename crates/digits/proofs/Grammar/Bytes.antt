-- The bytes that texts of the grammar don't have: by them a reader finds where a range, an alternative and a map end.
use Rattle.std.proofs.Common.{◌≡◌, ℕ, ◌-◌, ◌≤◌, arith, List, [], ◌∷◌, ◌++◌, true, false, Some, None, refl, subst, inl, inr}
use Rattle.std.specs.Prelude.{◌==◌, nat_le}
use Rattle.std.specs.List.{All, AllZip, AllByRecursion, concat}
use Rattle.std.proofs.lemmas.List.Elements.{All-nil, All-cons, All-append}
use Rattle.std.proofs.lemmas.Bool.{leb-true, le-leb, eqb-true, false_from_ne_true, and_parts, and_from, or_cases, cond-true}
use Rattle.digits.specs.declared.span.Span.{Span}
use Rattle.mg_model.specs.declared.positions.Position.{Position}
use Rattle.digits.specs.Marks.{bar, dash, opening_bracket, closing_bracket, opening_parenthesis, is_x, digit}
use Rattle.digits.specs.Symbols.{is_digit, symbol_of}
use Rattle.digits.specs.Grammar.{WritesInRow, WritesRun, one_symbol, from_digit_to_digit, WritesPosition, symbol, any_digit, range, WritesAlternative}

-- the text doesn't have the byte
abbrev pub Lacks : ℕ → List ℕ → Type 0
Lacks mark text = All (λ byte. (byte == mark) ≡ false) text

-- a digit writes its own number
pub digit_symbol : (byte : ℕ) → is_digit byte ≡ true → symbol_of byte ≡ Some (byte - 48)
unfolding symbol_of
digit_symbol byte e = cond-true (is_digit byte) (Some (byte - 48)) _ e

-- a digit's byte has a number of at most 9, whose byte it is
pub digit_byte : (byte : ℕ) → is_digit byte ≡ true → (digit (byte - 48) ≡ byte) × (byte - 48 ≤ 9)
digit_byte byte e =
    let parts = and_parts (nat_le 48 byte) (nat_le byte 57) e in
    let low : 48 ≤ byte = leb-true 48 byte parts.0 in
    let high : byte ≤ 57 = leb-true byte 57 parts.1 in
    (omega (arith, low, high), omega (arith, low, high))

-- a number of at most 9 has a digit's byte, whose number it is
pub digit_number : (number : ℕ) → number ≤ 9 → (is_digit (digit number) ≡ true) × (digit number - 48 ≡ number)
digit_number number small =
    (and_from (nat_le 48 (digit number)) (nat_le (digit number) 57) (le-leb 48 (digit number) (omega arith)) (le-leb (digit number) 57 (omega (arith, small))), omega arith)

-- what writes a symbol is no byte that writes none
pub symbol_differs : (mark byte number : ℕ) → symbol_of mark ≡ None → symbol_of byte ≡ Some number → (byte == mark) ≡ false
symbol_differs mark byte number none some =
    false_from_ne_true (byte == mark) (λ same. let e : byte ≡ mark = eqb-true byte mark same in let other : symbol_of byte ≡ None = rw e none in absurd cc)

digit_differs : (mark number : ℕ) → symbol_of mark ≡ None → number ≤ 9 → (digit number == mark) ≡ false
digit_differs mark number none small = symbol_differs mark (digit number) (digit number - 48) none (digit_symbol (digit number) (digit_number number small).0)

-- a byte that no run has
pub record IsNoRunByte (mark : ℕ) : Type 0 where
  pub no_symbol : symbol_of mark ≡ None
  pub no_dash : (dash == mark) ≡ false

-- a byte that no position has
pub record IsNoPositionByte (mark : ℕ) : Type 0 where
  pub in_no_run : IsNoRunByte mark
  pub no_small_x : (120 == mark) ≡ false
  pub no_large_x : (88 == mark) ≡ false
  pub no_opening : (opening_bracket == mark) ≡ false
  pub no_closing : (closing_bracket == mark) ≡ false

-- the bracket that ends a range is in no run
pub no_bracket : IsNoRunByte closing_bracket
unfolding symbol_of
no_bracket = record { no_symbol = refl; no_dash = refl }

-- neither a bar nor a parenthesis is in a position
pub no_bar : IsNoPositionByte bar
unfolding symbol_of
no_bar = record { in_no_run = record { no_symbol = refl; no_dash = refl }; no_small_x = refl; no_large_x = refl; no_opening = refl; no_closing = refl }

pub no_parenthesis : IsNoPositionByte opening_parenthesis
unfolding symbol_of
no_parenthesis = record { in_no_run = record { no_symbol = refl; no_dash = refl }; no_small_x = refl; no_large_x = refl; no_opening = refl; no_closing = refl }

alone : (mark byte : ℕ) → (byte == mark) ≡ false → Lacks mark (byte ∷ [])
alone mark byte e = All-cons (λ byte. (byte == mark) ≡ false) byte [] e (All-nil (λ byte. (byte == mark) ≡ false))

texts_lack : {A : Type 0} (Writes : List ℕ → A → Type 0) (mark : ℕ) → ((text : List ℕ) (x : A) → Writes text x → Lacks mark text) → (texts : List (List ℕ)) (things : List A) → AllZip Writes texts things
    → Lacks mark (concat texts)
texts_lack Writes mark lacks [] things each = All-nil (λ byte. (byte == mark) ≡ false)
texts_lack Writes mark lacks (text ∷ texts) [] each = absurd each
texts_lack Writes mark lacks (text ∷ texts) (x ∷ xs) each =
    All-append (λ byte. (byte == mark) ≡ false) text (concat texts) (lacks text x each.0) (texts_lack Writes mark lacks texts xs each.1)

-- what no text of a row has, the row hasn't
row_lacks : {A : Type 0} (Writes : List ℕ → A → Type 0) (mark : ℕ) → ((text : List ℕ) (x : A) → Writes text x → Lacks mark text) → (text : List ℕ) (things : List A) → WritesInRow Writes text things
    → Lacks mark text
row_lacks Writes mark lacks text things row = subst (Lacks mark) row.joined (texts_lack Writes mark lacks row.texts things row.each)

run_lacks : (mark : ℕ) → IsNoRunByte mark → (text : List ℕ) (span : Span) → WritesRun text span → Lacks mark text
run_lacks mark none text span (one_symbol byte number e) = alone mark byte (symbol_differs mark byte number none.no_symbol e)
run_lacks mark none text span (from_digit_to_digit low high le small) =
    All-cons (λ byte. (byte == mark) ≡ false) (digit low) (dash ∷ digit high ∷ []) (digit_differs mark low none.no_symbol (omega (arith, le, small)))
    (All-cons (λ byte. (byte == mark) ≡ false) dash (digit high ∷ []) none.no_dash (alone mark (digit high) (digit_differs mark high none.no_symbol small)))

pub runs_lack : (mark : ℕ) → IsNoRunByte mark → (text : List ℕ) (runs : List Span) → WritesInRow WritesRun text runs → Lacks mark text
runs_lack mark none text runs row = row_lacks WritesRun mark (run_lacks mark none) text runs row

-- what is `x` in either case is no byte that neither is
pub x_differs : (mark byte : ℕ) → (120 == mark) ≡ false → (88 == mark) ≡ false → is_x byte ≡ true → (byte == mark) ≡ false
x_differs mark byte small large e =
    elim (or_cases (byte == 120) (byte == 88) e) [ inl is ↦ rw (eqb-true byte 120 is) small | inr is ↦ rw (eqb-true byte 88 is) large ]

position_lacks : (mark : ℕ) → IsNoPositionByte mark → (text : List ℕ) (position : Position) → WritesPosition text position → Lacks mark text
position_lacks mark none text position (symbol byte number e) = alone mark byte (symbol_differs mark byte number none.in_no_run.no_symbol e)
position_lacks mark none text position (any_digit byte e) = alone mark byte (x_differs mark byte none.no_small_x none.no_large_x e)
position_lacks mark none text position (range inside runs row) =
    All-cons (λ byte. (byte == mark) ≡ false) opening_bracket (inside ++ closing_bracket ∷ []) none.no_opening
    (All-append (λ byte. (byte == mark) ≡ false) inside (closing_bracket ∷ []) (runs_lack mark none.in_no_run inside runs row) (alone mark closing_bracket none.no_closing))

pub alternative_lacks : (mark : ℕ) → IsNoPositionByte mark → (text : List ℕ) (positions : List Position) → WritesAlternative text positions → Lacks mark text
alternative_lacks mark none text positions row = row_lacks WritesPosition mark (position_lacks mark none) text positions row

pub each_lacks : (mark : ℕ) → IsNoPositionByte mark → (texts : List (List ℕ)) (alternatives : List (List Position)) → AllZip WritesAlternative texts alternatives → AllByRecursion (Lacks mark) texts
each_lacks mark none [] alternatives each = tt
each_lacks mark none (text ∷ texts) [] each = absurd each
each_lacks mark none (text ∷ texts) (positions ∷ alternatives) each = (alternative_lacks mark none text positions each.0, each_lacks mark none texts alternatives each.1)
