-- What is gathered and what is written, text after text.
use Rattle.std.proofs.Common.{◌≡◌, ◌∙◌, ℕ, List, [], ◌++◌, Option, Result, Ok, Err, sym, ap, take, drop, take-append-drop, append_assoc, append-nil}
use Rattle.std.proofs.KnownBytes.{Appends-trans}
use Rattle.std.specs.Io.KnownBytes.{Appends}
use Rattle.program_rim.specs.Devices.{Passes, WritesFront}

-- a write failed
pub failed : (E : Type 0) (old new : Option (List ℕ)) (text kept : List ℕ) (count : ℕ) (fault : E) → Appends old new (take count text)
    → Passes {E = E} old new text (Err fault) kept
failed E old new text kept count fault appends = (take count text, drop count text, appends, sym (take-append-drop count text), tt)

-- a further text comes behind a front and a rest
pub before_more : (text more front rest : List ℕ) → text ≡ front ++ rest → text ++ more ≡ front ++ (rest ++ more)
before_more text more front rest is = ap (λ t. t ++ more) is ∙ append_assoc front rest more

-- all that was gathered is written, and then a further text, or a front of it
pub then_written : (E : Type 0) (old mid new : Option (List ℕ)) (text more between : List ℕ) (result : Result (Unit {0}) E)
    → Passes {E = E} old mid text (Ok tt) between → between ≡ [] → WritesFront mid new result more
    → Passes {E = E} old new (text ++ more) result between
then_written E old mid new text more between (Ok t) p none q = (
  p.0 ++ more,
  [],
  Appends-trans old mid new p.0 more p.2 q,
  before_more text more p.0 p.1 p.3 ∙ ap (λ rest. p.0 ++ (rest ++ more)) (sym p.4 ∙ none) ∙ sym (append-nil (p.0 ++ more)),
  none,
)
then_written E old mid new text more between (Err fault) p none q = (
  p.0 ++ take q.0 more,
  drop q.0 more,
  Appends-trans old mid new p.0 (take q.0 more) p.2 q.1,
  before_more text more p.0 p.1 p.3 ∙ ap (λ rest. p.0 ++ (rest ++ more)) (sym p.4 ∙ none)
      ∙ ap (λ t. p.0 ++ t) (sym (take-append-drop q.0 more)) ∙ sym (append_assoc p.0 (take q.0 more) (drop q.0 more)),
  tt,
)

-- a write failed before a further text came
pub cut_short : (gathered text more front rest : List ℕ) → gathered ++ text ≡ front ++ rest
    → gathered ++ (text ++ more) ≡ front ++ (rest ++ more)
cut_short gathered text more front rest is = sym (append_assoc gathered text more) ∙ before_more (gathered ++ text) more front rest is

-- a further text comes behind what is kept
pub next_text : (E : Type 0) (old mid new : Option (List ℕ)) (gathered text more between : List ℕ) (result : Result (Unit {0}) E) (kept : List ℕ)
    → Passes {E = E} old mid (gathered ++ text) (Ok tt) between → Passes {E = E} mid new (between ++ more) result kept
    → Passes {E = E} old new (gathered ++ (text ++ more)) result kept
next_text E old mid new gathered text more between result kept p q = (
  p.0 ++ q.0,
  q.1,
  Appends-trans old mid new p.0 q.0 p.2 q.2,
  cut_short gathered text more p.0 p.1 p.3 ∙ ap (λ t. p.0 ++ (t ++ more)) (sym p.4)
      ∙ ap (λ t. p.0 ++ t) q.3 ∙ sym (append_assoc p.0 q.0 q.1),
  q.4,
)
