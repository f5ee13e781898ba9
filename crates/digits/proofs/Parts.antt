-- The parts of a text between its bars, and where they begin.
use Rattle.std.proofs.Common.{◌≡◌, ℕ, zero, suc, ◌+◌, ◌<◌, ◌≤◌, List, [], ◌∷◌, ◌++◌, length, map, take, drop, get_or, Result, Ok, Bor, refl, sym, ap, ◌∙◌, arith, Bool, true, false, cond, ◌==◌, drop-cons, add-one}
use Rattle.std.specs.List.{onto_first}
use Rattle.std.proofs.lemmas.List.{append-nil, length-drop, length-map, map_push, take_more, get_or-map}
use Rattle.mg_model.specs.declared.positions.Position.{Position}
use Rattle.digits.specs.declared.fault.MapFault.{MapFault}
use Rattle.mg_model.specs.Memory.{Faults}
use Rattle.digits.specs.Faults.{is_memory}
use Rattle.digits.specs.Reading.{◌>>=◌, alternative_of, alternatives_of, parts, bytes_of, bar_before}
use Rattle.digits.proofs.Values.{with_front, Fails-then, regroup}

pub bar_after : (index : ℕ) → bar_before (index + 1) ≡ 1
bar_after index = rw add-one refl

onto_first-bytes : (byte : ℕ) (texts : List (List ℕ)) (n : ℕ) → bytes_of texts ≡ n + 1 → bytes_of (onto_first byte texts) ≡ suc n + 1
onto_first-bytes byte [] n e = absurd (omega arith)
onto_first-bytes byte (text ∷ texts) n e = omega (arith, e)

split-bytes : (b : Bool) (byte : ℕ) (texts : List (List ℕ)) (n : ℕ) → bytes_of texts ≡ n + 1 → bytes_of (cond b ([] ∷ texts) (onto_first byte texts)) ≡ suc n + 1
split-bytes true byte texts n e = omega (arith, e)
split-bytes false byte texts n e = onto_first-bytes byte texts n e

-- the parts and their bars are the text
pub parts-bytes : (text : List ℕ) → bytes_of (parts text) ≡ length text + 1
parts-bytes [] = refl
parts-bytes (byte ∷ bytes) = split-bytes (byte == 124) byte (parts bytes) (length bytes) (parts-bytes bytes)

get_or-now : (items : List (Bor (List ℕ))) (index : ℕ) (d : Bor (List ℕ)) (e : List ℕ) → index < length items → get_or (map (λ part. part.now) items) index e ≡ (get_or items index d).now
get_or-now [] index d e lt = absurd (omega arith)
get_or-now (item ∷ items) zero d e lt = refl
get_or-now (item ∷ items) (suc index) d e lt = get_or-now items index d e (omega arith)

length-now : (items : List (Bor (List ℕ))) → length (map (λ part. part.now) items) ≡ length items
length-now [] = refl
length-now (item ∷ items) = ap suc (length-now items)

-- the part at an index, and those after it
pub part_at : (items : List (Bor (List ℕ))) (index : ℕ) (d : Bor (List ℕ)) → index < length items
    → drop index (map (λ part. part.now) items) ≡ (get_or items index d).now ∷ drop (index + 1) (map (λ part. part.now) items)
part_at items index d lt =
    let within : index < length (map (λ (part : Bor (List ℕ)). part.now) items) = omega (arith, length-now items) in
    rw (add-one, drop-cons (map (λ (part : Bor (List ℕ)). part.now) items) index []) (ap (λ (text : List ℕ). text ∷ drop (suc index) (map (λ (part : Bor (List ℕ)). part.now) items)) (get_or-now items index d [] lt))

pub part_goes_on : (front : List (List Position)) (place : ℕ) (text : List ℕ) (rest : List (List ℕ)) (first : List Position) (total : Result (List (List Position)) MapFault)
    → alternative_of place text ≡ Ok first → with_front front (alternatives_of place (text ∷ rest)) ≡ total
    → with_front (front ++ first ∷ []) (alternatives_of (place + length text + 1) rest) ≡ total
unfolding alternatives_of
part_goes_on front place text rest first total e so_far =
    let one : with_front front (alternatives_of place (text ∷ rest)) ≡ with_front (front ++ first ∷ []) (alternatives_of (place + length text + 1) rest) = rw e (regroup front first (alternatives_of (place + length text + 1) rest)) in
    sym one ∙ so_far

pub part_ends : (e : MapFault) (front : List (List Position)) (place : ℕ) (text : List ℕ) (rest : List (List ℕ)) (total : Result (List (List Position)) MapFault)
    → Faults is_memory e (alternative_of place text) → with_front front (alternatives_of place (text ∷ rest)) ≡ total → Faults is_memory e total
unfolding alternatives_of
part_ends e front place text rest total h so_far =
    Fails-then e (alternatives_of place (text ∷ rest)) (λ xs. Ok (front ++ xs)) total
    (Fails-then e (alternative_of place text) (λ first. alternatives_of (place + length text + 1) rest >>= λ others. Ok (first ∷ others)) (alternatives_of place (text ∷ rest)) h refl) so_far

pub parts_done : (front : List (List Position)) (place : ℕ) (texts : List (List ℕ)) (total : Result (List (List Position)) MapFault) → length texts ≡ 0 → with_front front (alternatives_of place texts) ≡ total → total ≡ Ok front
unfolding alternatives_of
parts_done front place [] total none so_far = sym so_far ∙ ap (λ ys. Ok ys) (append-nil front)
parts_done front place (text ∷ texts) total none so_far = absurd (omega arith)

-- where a part ends, within the bound of all
pub part_fits : (place start index : ℕ) (texts rest : List (List ℕ)) (text : List ℕ) → drop index texts ≡ text ∷ rest
    → place + bar_before index + bytes_of (drop index texts) ≡ start + bytes_of texts → place + bar_before index + length text + 1 + bytes_of rest ≡ start + bytes_of texts
part_fits place start index texts rest text e so = omega (arith, so, ap bytes_of e)

pub nothing_past : {A : Type 0} (xs : List A) (index : ℕ) → length xs ≤ index → length (drop index xs) ≡ 0
nothing_past xs index le = omega (arith, length-drop index xs)

pub parts_over : (items : List (Bor (List ℕ))) (index : ℕ) → length items ≤ index → length (drop index (map (λ part. part.now) items)) ≡ 0
parts_over items index le = nothing_past (map (λ part. part.now) items) index (omega (arith, length-now items))

-- a copy of the alternatives so far, with the next one
pub copied_more : {X : Type 0} (f : X → List Position) (found all : List X) (i : ℕ) (x d : X) → i < length all → f x ≡ f (get_or all i d) → map f found ≡ take i (map f all) → map f (found ++ x ∷ []) ≡ take (i + 1) (map f all)
copied_more f found all i x d lt same so =
    let within : i < length (map f all) = omega (arith, length-map all f) in
    rw (map_push f found x, take_more (map f all) i [] within, get_or-map f all i d [] lt, so, same) refl
