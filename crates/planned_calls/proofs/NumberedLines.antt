-- The lines of a call of the plan are numbered on.
use Rattle.std.proofs.Common.{◌≡◌, ◌∙◌, ◌+◌, ◌++◌, ℕ, suc, zero, List, [], ◌∷◌, length, map, refl, sym, ap, arith}
use Rattle.std.proofs.lemmas.List.{length-append, length-map, map-append}
use Rattle.planned_calls.specs.ReportLines.{AreNumbered, number_of, numbers_from}
use Rattle.planned_calls.specs.declared.lines.Line.{Line}

-- one number more
pub numbers_more : (call begun count : ℕ) → numbers_from call begun (suc count) ≡ numbers_from call begun count ++ (call, begun + count) ∷ []
numbers_more call begun zero = ap (λ (n : ℕ). (call, n) ∷ []) (let same : begun ≡ begun + 0 = omega arith in same)
numbers_more call begun (suc count) =
    ap (λ (rest : List (ℕ × ℕ)). (call, begun) ∷ rest)
    (numbers_more call (begun + 1) count
    ∙ ap (λ (n : ℕ). numbers_from call (begun + 1) count ++ (call, n) ∷ []) (let same : begun + 1 + count ≡ begun + suc count = omega arith in same))

pub numbered_next : (call count : ℕ) → numbers_from call 0 (count + 1) ≡ numbers_from call 0 count ++ (call, count) ∷ []
numbered_next call count =
    ap (λ (n : ℕ). numbers_from call 0 n) (let same : count + 1 ≡ suc count = omega arith in same)
    ∙ numbers_more call 0 count
    ∙ ap (λ (n : ℕ). numbers_from call 0 count ++ (call, n) ∷ []) (let same : 0 + count ≡ count = omega arith in same)

numbers_counted : (call begun count : ℕ) → length (numbers_from call begun count) ≡ count
numbers_counted call begun zero = refl
numbers_counted call begun (suc count) = ap suc (numbers_counted call (begun + 1) count)

-- the lines of those that are gone, and then that of the call that stands, are numbered
pub numbered_lines : (call count : ℕ) (front lines : List Line) (last : Line) → map number_of front ≡ numbers_from call 0 count → number_of last ≡ (call, count)
    → lines ≡ front ++ last ∷ [] → AreNumbered call lines
numbered_lines call count front lines last before own are =
    ap (map number_of) are
    ∙ map-append number_of front (last ∷ [])
    ∙ ap (λ (numbers : List (ℕ × ℕ)). numbers ++ number_of last ∷ []) before
    ∙ ap (λ (n : ℕ × ℕ). numbers_from call 0 count ++ n ∷ []) own
    ∙ sym (numbered_next call count)
    ∙ ap (λ (n : ℕ). numbers_from call 0 n) counted
  where
    fronted : length front ≡ count
    fronted = sym (length-map front number_of) ∙ ap (λ (numbers : List (ℕ × ℕ)). length numbers) before ∙ numbers_counted call 0 count

    counted : count + 1 ≡ length lines
    counted =
        let all : length lines ≡ length (front ++ last ∷ []) = ap (λ (ls : List Line). length ls) are in
        let more : length (front ++ last ∷ []) ≡ length front + 1 = length-append front (last ∷ []) in omega (arith, fronted, all, more)
