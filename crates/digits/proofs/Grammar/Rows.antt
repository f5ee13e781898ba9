-- Texts one after the other: what a step reads of them, and that they are read to their things.
use Rattle.std.proofs.Common.{◌≡◌, ℕ, zero, suc, ◌<◌, ◌≤◌, List, [], ◌∷◌, ◌++◌, length, Result, Ok, refl, ap, ◌∙◌, subst, arith}
use Rattle.std.proofs.lemmas.List.{length-append}
use Rattle.std.specs.List.{AllZip, concat}
use Rattle.digits.specs.declared.fault.MapFault.{MapFault}
use Rattle.digits.specs.Grammar.{WritesInRow}
use Rattle.digits.specs.Reading.{◌>>=◌, Step, values, all_of}
use Rattle.digits.proofs.Grammar.Given.{bound}
use Rattle.digits.proofs.Values.{Shrinks, all_of-first, smaller}

-- what a step reads at the front of a text is written there
abbrev pub ReadsWritten : {A : Type 0} → (List ℕ → A → Type 0) → Step A → Type 0
ReadsWritten {A = A} Writes step = (byte : ℕ) (bytes : List ℕ) (x : A) (rest : List ℕ) → step (byte ∷ bytes) ≡ Ok (x, rest)
    → (text : List ℕ) × Writes text x × (text ++ rest ≡ byte ∷ bytes)

-- what is written at the front of a text is read, where the rest begins as Front says
abbrev pub TakesWritten : {A : Type 0} → (List ℕ → Type 0) → (List ℕ → A → Type 0) → Step A → Type 0
TakesWritten {A = A} Front Writes step = (text : List ℕ) (x : A) (rest : List ℕ) → Writes text x → Front rest
    → (0 < length text) × (step (text ++ rest) ≡ Ok (x, rest)) × Front (text ++ rest)

-- texts whose things these are, and which are the text
abbrev pub Row : {A : Type 0} → (List ℕ → A → Type 0) → List ℕ → List A → Type 0
Row Writes text things = (texts : List (List ℕ)) × (concat texts ≡ text) × AllZip Writes texts things

nothing : {A : Type 0} (Writes : List ℕ → A → Type 0) (things : List A) → ◌≡◌ {A = Result (List A) MapFault} (Ok []) (Ok things) → Row Writes [] things
nothing Writes [] e = ([], refl, tt)
nothing Writes (x ∷ xs) e = absurd cc

first_more : {A : Type 0} (Writes : List ℕ → A → Type 0) (text whole rest : List ℕ) (x : A) (xs things : List A) → Writes text x → text ++ rest ≡ whole → Row Writes rest xs
    → ◌≡◌ {A = Result (List A) MapFault} (Ok (x ∷ xs)) (Ok things) → Row Writes whole things
first_more {A = A} Writes text whole rest x xs things writes e row so =
    let same : x ∷ xs ≡ things = cc in
    subst (Row Writes whole) same (text ∷ row.0, ap (λ ys. text ++ ys) row.1 ∙ e, (writes, row.2))

values_row : {A : Type 0} (Writes : List ℕ → A → Type 0) (step : Step A) → Shrinks step → ReadsWritten Writes step → (n : ℕ) (text : List ℕ) (things : List A) → length text ≤ n
    → values step n text ≡ Ok things → Row Writes text things
unfolding values
values_row Writes step shrinks reads zero [] things le e = nothing Writes things e
values_row Writes step shrinks reads zero (byte ∷ bytes) things le e = absurd (omega arith)
values_row Writes step shrinks reads (suc n) [] things le e = nothing Writes things e
values_row Writes step shrinks reads (suc n) (byte ∷ bytes) things le e =
    let one = bound (step (byte ∷ bytes)) (λ p. values step n p.1 >>= λ xs. Ok (p.0 ∷ xs)) things e in
    let more = bound (values step n one.0.1) (λ xs. Ok (one.0.0 ∷ xs)) things one.2 in
    let some : 0 < length (byte ∷ bytes) = omega arith in
    let less : length one.0.1 < length (byte ∷ bytes) = smaller step shrinks (byte ∷ bytes) one.0.0 one.0.1 some one.1 in
    let read = reads byte bytes one.0.0 one.0.1 one.1 in
    first_more Writes read.0 (byte ∷ bytes) one.0.1 one.0.0 more.0 things read.1 read.2
    (values_row Writes step shrinks reads n one.0.1 more.0 (omega (arith, le, less)) more.1) more.2

row_some : {A : Type 0} (Writes : List ℕ → A → Type 0) (text : List ℕ) (things : List A) → 0 < length text → Row Writes text things → WritesInRow Writes text things
row_some Writes text things some ([], joined, each) = absurd (omega (arith, ap length joined))
row_some Writes text things some (first ∷ more, joined, each) = record { texts = first ∷ more; some = omega arith; joined = joined; each = each }

-- a text that isn't empty and is read to its end is texts in a row
pub all_read : {A : Type 0} (Writes : List ℕ → A → Type 0) (step : Step A) → Shrinks step → ReadsWritten Writes step → (text : List ℕ) (things : List A) → 0 < length text
    → all_of step text ≡ Ok things → WritesInRow Writes text things
all_read Writes step shrinks reads text things some e =
    row_some Writes text things some (values_row Writes step shrinks reads (length text) text things (omega arith) e)

texts_taken : {A : Type 0} (Front : List ℕ → Type 0) (Writes : List ℕ → A → Type 0) (step : Step A) → Shrinks step → TakesWritten Front Writes step → Front [] → (texts : List (List ℕ)) (things : List A)
    → AllZip Writes texts things → (all_of step (concat texts) ≡ Ok things) × Front (concat texts)
unfolding values
texts_taken Front Writes step shrinks takes none [] [] each = (refl, none)
texts_taken Front Writes step shrinks takes none [] (x ∷ xs) each = absurd each
texts_taken Front Writes step shrinks takes none (text ∷ texts) [] each = absurd each
texts_taken Front Writes step shrinks takes none (text ∷ texts) (x ∷ xs) each =
    let more = texts_taken Front Writes step shrinks takes none texts xs each.1 in
    let one = takes text x (concat texts) each.0 more.1 in
    let some : 0 < length (text ++ concat texts) = omega (arith, length-append text (concat texts), one.0) in
    (all_of-first step shrinks (text ++ concat texts) x (concat texts) some one.1 ∙ ap (λ r. r >>= λ ys. Ok (x ∷ ys)) more.0, one.2)

texts_some : {A : Type 0} (Front : List ℕ → Type 0) (Writes : List ℕ → A → Type 0) (step : Step A) → TakesWritten Front Writes step → Front [] → (texts : List (List ℕ)) (things : List A)
    → 0 < length texts → AllZip Writes texts things → 0 < length (concat texts)
texts_some Front Writes step takes none [] things some each = absurd (omega arith)
texts_some Front Writes step takes none (text ∷ texts) [] some each = absurd each
texts_some Front Writes step takes none (text ∷ texts) (x ∷ xs) some each =
    let one = takes text x [] each.0 none in omega (arith, length-append text (concat texts), one.0)

-- texts in a row aren't empty, and are read to the end
pub all_taken : {A : Type 0} (Front : List ℕ → Type 0) (Writes : List ℕ → A → Type 0) (step : Step A) → Shrinks step → TakesWritten Front Writes step → Front [] → (text : List ℕ) (things : List A)
    → WritesInRow Writes text things → (0 < length text) × (all_of step text ≡ Ok things)
all_taken Front Writes step shrinks takes none text things row = (
  rw (← row.joined) (texts_some Front Writes step takes none row.texts things row.some row.each),
  rw (← row.joined) ((texts_taken Front Writes step shrinks takes none row.texts things row.each).0),
)
