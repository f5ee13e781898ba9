-- Whole maps, with or without parentheses: what is read is a map, and a map is read.
use Rattle.std.proofs.Common.{◌≡◌, ℕ, suc, ◌+◌, ◌-◌, List, [], ◌∷◌, ◌++◌, length, take, drop, get_or, true, false, Ok, refl, sym, ap, ◌∙◌, subst, inl, inr, arith}
use Rattle.std.specs.Prelude.{◌==◌, ◌&&◌, nat_le, slice_index}
use Rattle.std.proofs.Math.Seq.{take-append_seam, get_or-append_seam}
use Rattle.std.proofs.lemmas.List.{length-append, take_more, take_all}
use Rattle.std.proofs.lemmas.List.Elements.{All-head}
use Rattle.std.proofs.lemmas.Bool.{leb-true, le-leb, eqb-true, eq-eqb, and_parts, and_from, and_left, and_right, cond-true, cond-false}
use Rattle.mg_model.specs.declared.positions.Position.{Position}
use Rattle.digits.specs.Grammar.{IsMap, bare, in_parentheses}
use Rattle.digits.specs.Marks.{opening_parenthesis, closing_parenthesis}
use Rattle.digits.specs.Reading.{alternatives_of, parts, is_wrapped, unwrapped}
use Rattle.digits.proofs.Grammar.Given.{chosen}
use Rattle.digits.proofs.Grammar.Bytes.{Lacks, no_parenthesis}
use Rattle.digits.proofs.Grammar.Alternatives.{alternatives_read, alternatives_taken, alternatives_lack}

-- all but the last of a list, and the last
last_apart : (bytes : List ℕ) (n last : ℕ) → length bytes ≡ n + 1 → get_or bytes n 0 ≡ last → take n bytes ++ last ∷ [] ≡ bytes
last_apart bytes n last long at =
    ap (λ byte. take n bytes ++ byte ∷ []) (sym at) ∙ (sym (take_more bytes n 0 (omega (arith, long))) ∙ take_all (n + 1) bytes (omega (arith, long)))

inside : List ℕ → List ℕ
inside text = take (length text - 2) (drop 1 text)

-- a text with parentheses round it
wrapped_shape : (text : List ℕ) → is_wrapped text ≡ true → opening_parenthesis ∷ inside text ++ closing_parenthesis ∷ [] ≡ text
unfolding inside
wrapped_shape [] e = absurd cc
wrapped_shape (byte ∷ []) e = absurd (omega (arith, leb-true 2 1 (and_parts (nat_le 2 1) (byte == opening_parenthesis) (and_parts (nat_le 2 1 && byte == opening_parenthesis) (slice_index (byte ∷ []) (1 - 1) == closing_parenthesis) e).0).0))
wrapped_shape (byte ∷ next ∷ bytes) e =
    let text = byte ∷ next ∷ bytes in
    let ends = and_parts (nat_le 2 (length text) && byte == opening_parenthesis) (slice_index text (length text - 1) == closing_parenthesis) e in
    let begins = and_parts (nat_le 2 (length text)) (byte == opening_parenthesis) ends.0 in
    let first : opening_parenthesis ≡ byte = sym (eqb-true byte opening_parenthesis begins.1) in
    let place : length text - 1 ≡ suc (length bytes) = omega arith in
    let count : length text - 2 ≡ length bytes = omega arith in
    let last : get_or text (length text - 1) 0 ≡ closing_parenthesis = eqb-true (get_or text (length text - 1) 0) closing_parenthesis ends.1 in
    let at : get_or (next ∷ bytes) (length bytes) 0 ≡ closing_parenthesis = rw place at last in
    let whole : take (length bytes) (next ∷ bytes) ++ closing_parenthesis ∷ [] ≡ next ∷ bytes = last_apart (next ∷ bytes) (length bytes) closing_parenthesis (omega arith) at in
    rw (count, whole, first) refl

shape_wrapped : (text : List ℕ) → is_wrapped (opening_parenthesis ∷ text ++ closing_parenthesis ∷ []) ≡ true
shape_wrapped text =
    let whole = opening_parenthesis ∷ text ++ closing_parenthesis ∷ [] in
    let long : length whole ≡ suc (suc (length text)) = omega (arith, length-append text (closing_parenthesis ∷ [])) in
    let place : length whole - 1 ≡ suc (length text) = omega (arith, long) in
    let last : get_or whole (length whole - 1) 0 ≡ closing_parenthesis = rw place (get_or-append_seam text closing_parenthesis [] 0) in
    and_from (nat_le 2 (length whole) && opening_parenthesis == opening_parenthesis) (slice_index whole (length whole - 1) == closing_parenthesis)
    (and_from (nat_le 2 (length whole)) (opening_parenthesis == opening_parenthesis) (le-leb 2 (length whole) (omega (arith, long))) refl) (eq-eqb (get_or whole (length whole - 1) 0) closing_parenthesis last)

inside_shape : (text : List ℕ) → inside (opening_parenthesis ∷ text ++ closing_parenthesis ∷ []) ≡ text
unfolding inside
inside_shape text =
    let count : length (opening_parenthesis ∷ text ++ closing_parenthesis ∷ []) - 2 ≡ length text = omega (arith, length-append text (closing_parenthesis ∷ [])) in
    rw count (take-append_seam text (closing_parenthesis ∷ []))

not_wrapped : (text : List ℕ) → Lacks opening_parenthesis text → is_wrapped text ≡ false
not_wrapped [] lacks = refl
not_wrapped (byte ∷ bytes) lacks =
    let text = byte ∷ bytes in
    and_left (nat_le 2 (length text) && byte == opening_parenthesis) (slice_index text (length text - 1) == closing_parenthesis)
    (and_right (nat_le 2 (length text)) (byte == opening_parenthesis) (All-head (λ byte. (byte == opening_parenthesis) ≡ false) byte bytes lacks))

-- what is read is a map
pub map_read : (text : List ℕ) (alternatives : List (List Position)) → unwrapped text ≡ Ok alternatives → IsMap text alternatives
unfolding inside
map_read text alternatives e = elim (chosen (is_wrapped text) _ _ _ e) [
  | inl wrapped ↦ subst (λ (t : List ℕ). IsMap t alternatives) (wrapped_shape text wrapped.0) (in_parentheses (inside text) alternatives (alternatives_read 1 (inside text) alternatives wrapped.1))
  | inr plain ↦ bare text alternatives (alternatives_read 0 text alternatives plain.1)
]

-- a map is read
pub map_taken : (text : List ℕ) (alternatives : List (List Position)) → IsMap text alternatives → unwrapped text ≡ Ok alternatives
unfolding inside
map_taken text alternatives (bare written others row) =
    cond-false (is_wrapped written) _ _ (not_wrapped written (alternatives_lack opening_parenthesis refl no_parenthesis written others row)) ∙ alternatives_taken 0 written others row
map_taken text alternatives (in_parentheses within others row) =
    let whole = opening_parenthesis ∷ within ++ closing_parenthesis ∷ [] in
    cond-true (is_wrapped whole) (alternatives_of 1 (parts (inside whole))) (alternatives_of 0 (parts whole)) (shape_wrapped within)
    ∙ (ap (λ (t : List ℕ). alternatives_of 1 (parts t)) (inside_shape within) ∙ alternatives_taken 1 within others row)
