-- Alternatives between bars: what is read as them is written there, and what is written is read.
use Rattle.std.proofs.Common.{◌≡◌, ℕ, ◌+◌, ◌<◌, List, [], ◌∷◌, length, false, Ok, refl, ap, ◌∙◌, subst, arith}
use Rattle.std.specs.Prelude.{◌==◌}
use Rattle.std.specs.List.{AllZip, AllByRecursion, join_with_byte}
use Rattle.std.proofs.lemmas.List.Elements.{All-nil, All-cons, All-append}
use Rattle.std.proofs.lemmas.List.Splits.{slice_split_none, slice_split_at, length-slice_split, join_with_byte-slice_split}
use Rattle.std.proofs.lemmas.Bool.{eqb-false, ne_eqb, cond-false}
use Rattle.digits.specs.declared.fault.MapFault.TheVariants as fault
use Rattle.mg_model.specs.declared.positions.Position.{Position}
use Rattle.digits.specs.Grammar.{WritesAlternative, WritesAlternatives}
use Rattle.digits.specs.Marks.{bar}
use Rattle.digits.specs.Reading.{◌>>=◌, all_of, position_at, alternative_of, alternatives_of, parts}
use Rattle.digits.proofs.Grammar.Given.{bound, no_fault}
use Rattle.digits.proofs.Grammar.Bytes.{Lacks, IsNoPositionByte, no_bar, each_lacks}
use Rattle.digits.proofs.Grammar.Positions.{positions_read, positions_taken}

alternative_read : (start : ℕ) (text : List ℕ) (positions : List Position) → alternative_of start text ≡ Ok positions → WritesAlternative text positions
unfolding alternative_of
alternative_read start text positions e =
    let test = no_fault (length text == 0) fault.Empty (all_of (position_at (start + length text)) text) positions e in
    let none : length text ≡ 0 → ⊥ = eqb-false (length text) 0 test.0 in
    positions_read (start + length text) text positions (omega (arith, none)) test.1

alternative_taken : (start : ℕ) (text : List ℕ) (positions : List Position) → WritesAlternative text positions → alternative_of start text ≡ Ok positions
unfolding alternative_of
alternative_taken start text positions row =
    let taken = positions_taken (start + length text) text positions row in
    cond-false (length text == 0) _ _ (ne_eqb (length text) 0 (λ e. omega (arith, e, taken.0))) ∙ taken.1

each_read : (start : ℕ) (texts : List (List ℕ)) (alternatives : List (List Position)) → alternatives_of start texts ≡ Ok alternatives → AllZip WritesAlternative texts alternatives
unfolding alternatives_of
each_read start [] [] e = tt
each_read start [] (positions ∷ alternatives) e = absurd cc
each_read start (text ∷ texts) alternatives e =
    let first = bound (alternative_of start text) (λ first. alternatives_of (start + length text + 1) texts >>= λ others. Ok (first ∷ others)) alternatives e in
    let others = bound (alternatives_of (start + length text + 1) texts) (λ others. Ok (first.0 ∷ others)) alternatives first.2 in
    let same : first.0 ∷ others.0 ≡ alternatives = cc in
    subst (AllZip WritesAlternative (text ∷ texts)) same (alternative_read start text first.0 first.1, each_read (start + length text + 1) texts others.0 others.1)

each_taken : (start : ℕ) (texts : List (List ℕ)) (alternatives : List (List Position)) → AllZip WritesAlternative texts alternatives → alternatives_of start texts ≡ Ok alternatives
unfolding alternatives_of
each_taken start [] [] each = refl
each_taken start [] (positions ∷ alternatives) each = absurd each
each_taken start (text ∷ texts) [] each = absurd each
each_taken start (text ∷ texts) (positions ∷ alternatives) each =
    rw (alternative_taken start text positions each.0, each_taken (start + length text + 1) texts alternatives each.1) refl

-- texts without bars, joined by bars, have these parts
parts_joined : (texts : List (List ℕ)) → 0 < length texts → AllByRecursion (Lacks bar) texts → parts (join_with_byte bar texts) ≡ texts
parts_joined [] some lacks = absurd (omega arith)
parts_joined (text ∷ []) some lacks = slice_split_none (λ byte. byte == bar) text lacks.0
parts_joined (text ∷ next ∷ texts) some lacks =
    slice_split_at (λ byte. byte == bar) text bar (join_with_byte bar (next ∷ texts)) lacks.0 refl
    ∙ ap (λ (more : List (List ℕ)). text ∷ more) (parts_joined (next ∷ texts) (omega arith) lacks.1)

pub alternatives_read : (start : ℕ) (text : List ℕ) (alternatives : List (List Position)) → alternatives_of start (parts text) ≡ Ok alternatives → WritesAlternatives text alternatives
alternatives_read start text alternatives e = record {
  texts = parts text;
  some = omega (arith, length-slice_split (λ byte. byte == bar) text);
  joined = join_with_byte-slice_split bar text;
  each = each_read start (parts text) alternatives e;
}

pub alternatives_taken : (start : ℕ) (text : List ℕ) (alternatives : List (List Position)) → WritesAlternatives text alternatives → alternatives_of start (parts text) ≡ Ok alternatives
alternatives_taken start text alternatives row =
    let split = parts_joined row.texts row.some (each_lacks bar no_bar row.texts alternatives row.each) in
    rw (← row.joined, split) (each_taken start row.texts alternatives row.each)

joined_lack : (mark : ℕ) → (bar == mark) ≡ false → (texts : List (List ℕ)) → AllByRecursion (Lacks mark) texts → Lacks mark (join_with_byte bar texts)
joined_lack mark other [] lacks = All-nil (λ byte. (byte == mark) ≡ false)
joined_lack mark other (text ∷ []) lacks = lacks.0
joined_lack mark other (text ∷ next ∷ texts) lacks =
    All-append (λ byte. (byte == mark) ≡ false) text (bar ∷ join_with_byte bar (next ∷ texts)) lacks.0
    (All-cons (λ byte. (byte == mark) ≡ false) bar (join_with_byte bar (next ∷ texts)) other (joined_lack mark other (next ∷ texts) lacks.1))

-- what is neither a bar nor in a position is in no alternatives
pub alternatives_lack : (mark : ℕ) → (bar == mark) ≡ false → IsNoPositionByte mark → (text : List ℕ) (alternatives : List (List Position)) → WritesAlternatives text alternatives → Lacks mark text
alternatives_lack mark other none text alternatives row =
    subst (Lacks mark) row.joined (joined_lack mark other row.texts (each_lacks mark none row.texts alternatives row.each))
