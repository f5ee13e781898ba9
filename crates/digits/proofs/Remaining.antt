-- Which alternatives remain: by one symbol more, and by their places.
use Rattle.std.proofs.Common.{◌≡◌, ℕ, zero, suc, ◌+◌, ◌-◌, ◌<◌, ◌≤◌, List, [], ◌∷◌, ◌++◌, length, map, take, drop, get_or, Option, Some, None, Bool, true, false, not, ◌&&◌, ◌||◌, refl, sym, ap, ◌∙◌, arith, inl, inr}
use Rattle.std.specs.Prelude.{slice_get, nat_le, if◌then◌else◌, IsTrue, position, ◌==◌, ◌⊎◌, is_none, option_and_then}
use Rattle.std.specs.List.{list_any, list_all, position_or_len}
use Rattle.std.proofs.lemmas.List.Sums.{position_or_len_is}
use Rattle.std.proofs.Math.Bool.{and_assoc, and-true}
use Rattle.std.proofs.lemmas.List.{length-drop}
use Rattle.std.proofs.lemmas.Bool.{and_parts, leb-true, lt-ltb, le-ltb, cases_lt, cases_Bool, true≢false}
use Rattle.mg_names.specs.declared.symbols.Symbol.{Symbol}
use Rattle.mg_model.specs.declared.positions.Position.{Position}
use Rattle.mg_model.specs.Script.{DigitMap}
use Rattle.mg_model.specs.DigitMaps.{accepts, takes, matches, candidates, candidates_from, only, if_matched, sole_match, goes_on, IsOpen}
use Rattle.mg_model.specs.Tables.{is_empty}
use Rattle.digits.specs.Reading.{fits}
use Rattle.digits.specs.Alternatives.{accepts_at, places_from}
use Rattle.digits.specs.Progress.{ShowsRemaining, FollowsBy, digits_of}

-- an alternative takes one symbol more exactly where it took those before, and accepts it at its place
pub takes-more : (p : List Position) (symbols : List Symbol) (s : Symbol) → takes p (symbols ++ s ∷ []) ≡ (takes p symbols && accepts_at p (length symbols) s)
takes-more [] [] s = refl
takes-more (p ∷ positions) [] s = and-true (accepts p s)
takes-more [] (t ∷ symbols) s = refl
takes-more (p ∷ positions) (t ∷ symbols) s =
    ap (λ b. accepts p t && b) (takes-more positions symbols s) ∙ sym (and_assoc (accepts p t) (takes positions symbols) (accepts_at positions (length symbols) s))

pub accepts_there : (p : List Position) (n : ℕ) (s : Symbol) (x : Position) → slice_get p n ≡ Some x → accepts_at p n s ≡ accepts x s
accepts_there [] n s x e = absurd cc
accepts_there (p ∷ positions) zero s x e = let same : p ≡ x = cc in ap (λ y. accepts y s) same
accepts_there (p ∷ positions) (suc n) s x e = accepts_there positions n s x e

pub accepts_nowhere : (p : List Position) (n : ℕ) (s : Symbol) → slice_get p n ≡ None → accepts_at p n s ≡ false
accepts_nowhere [] n s e = refl
accepts_nowhere (p ∷ positions) zero s e = absurd cc
accepts_nowhere (p ∷ positions) (suc n) s e = accepts_nowhere positions n s e

-- an alternative that takes the symbols is no shorter than they are
pub no_shorter : (p : List Position) (symbols : List Symbol) → takes p symbols ≡ true → length symbols ≤ length p
no_shorter p [] e = omega arith
no_shorter [] (s ∷ symbols) e = absurd cc
no_shorter (p ∷ positions) (s ∷ symbols) e =
    let less = no_shorter positions symbols ((and_parts (accepts p s) (takes positions symbols) e).1) in omega (arith, less)

-- ---- by places

pub shows_at : (xs : DigitMap) (m : List Bool) (symbols : List Symbol) (k : ℕ) → ShowsRemaining xs symbols m → k < length xs → get_or m k false ≡ takes (get_or xs k []) symbols
shows_at [] m symbols k e lt = absurd (omega arith)
shows_at (x ∷ xs) [] symbols k e lt = absurd cc
shows_at (x ∷ xs) (b ∷ m) symbols zero e lt = cc
shows_at (x ∷ xs) (b ∷ m) symbols (suc k) e lt = let same : take (length xs) m ≡ map (λ positions. takes positions symbols) xs = cc in shows_at xs m symbols k same (omega arith)

pub shows_by : (xs : DigitMap) (m : List Bool) (symbols : List Symbol) → length xs ≤ length m → ((k : ℕ) → k < length xs → get_or m k false ≡ takes (get_or xs k []) symbols) → ShowsRemaining xs symbols m
shows_by [] m symbols le same = refl
shows_by (x ∷ xs) [] symbols le same = absurd (omega arith)
shows_by (x ∷ xs) (b ∷ m) symbols le same =
    let first : b ≡ takes x symbols = same 0 (omega arith) in
    let more : take (length xs) m ≡ map (λ positions. takes positions symbols) xs = shows_by xs m symbols (omega arith) (λ k lt. same (suc k) (omega arith)) in
    ap (λ y. y ∷ take (length xs) m) first ∙ ap (λ ys. takes x symbols ∷ ys) more

pub shows_more : (xs : DigitMap) (before after : List Bool) (symbols : List Symbol) (s : Symbol) → ShowsRemaining xs symbols before → length xs ≤ length after
    → ((k : ℕ) → k < length xs → get_or after k false ≡ (get_or before k false && accepts_at (get_or xs k []) (length symbols) s)) → ShowsRemaining xs (symbols ++ s ∷ []) after
shows_more xs before after symbols s shows le step =
    shows_by xs after (symbols ++ s ∷ []) le (λ k lt. step k lt ∙ (ap (λ b. b && accepts_at (get_or xs k []) (length symbols) s) (shows_at xs before symbols k shows lt) ∙ sym (takes-more (get_or xs k []) symbols s)))

-- ---- the places of what remains

pub candidates-places : (n : ℕ) (xs : DigitMap) (symbols : List Symbol) → candidates_from n xs symbols ≡ places_from n (map (λ positions. takes positions symbols) xs)
candidates-places n [] symbols = refl
candidates-places n (x ∷ xs) symbols = ap (λ more. if takes x symbols then n ∷ more else more) (candidates-places (n + 1) xs symbols)

places-empty : (n : ℕ) (bs : List Bool) → is_empty (places_from n bs) ≡ not (list_any (λ b. b) bs)
places-empty n [] = refl
places-empty n (true ∷ bs) = refl
places-empty n (false ∷ bs) = places-empty (n + 1) bs

pub none_left : (xs : DigitMap) (m : List Bool) (symbols : List Symbol) → ShowsRemaining xs symbols m → not (list_any (λ b. b) (take (length xs) m)) ≡ is_empty (candidates_from 0 xs symbols)
none_left xs m symbols shows =
    ap (λ bs. not (list_any (λ b. b) bs)) shows ∙ (sym (places-empty 0 (map (λ positions. takes positions symbols) xs)) ∙ ap is_empty (sym (candidates-places 0 xs symbols)))

some_short : (xs : DigitMap) (symbols : List Symbol) → list_all (λ alternative. nat_le (length alternative) 16) xs ≡ true → list_any (λ b. b) (map (λ positions. takes positions symbols) xs) ≡ true → length symbols ≤ 16
some_short [] symbols short e = absurd cc
some_short (x ∷ xs) symbols short e =
    let parts = and_parts (nat_le (length x) 16) (list_all (λ alternative. nat_le (length alternative) 16) xs) short in
    go (takes x symbols) refl parts.0 parts.1 e (λ s t. some_short xs symbols s t)
  where
    go : (b : Bool) → takes x symbols ≡ b → nat_le (length x) 16 ≡ true → list_all (λ alternative. nat_le (length alternative) 16) xs ≡ true
        → (b || list_any (λ b. b) (map (λ positions. takes positions symbols) xs)) ≡ true
        → (list_all (λ alternative. nat_le (length alternative) 16) xs ≡ true → list_any (λ b. b) (map (λ positions. takes positions symbols) xs) ≡ true → length symbols ≤ 16) → length symbols ≤ 16
    go true is first more e rest = let a = no_shorter x symbols is in let b = leb-true (length x) 16 first in omega (arith, a, b)
    go false is first more e rest = rest more e

pub few : (xs : DigitMap) → fits xs ≡ true → length xs ≤ 16
few xs short = leb-true (length xs) 16 ((and_parts (nat_le (length xs) 16) (list_all (λ alternative. nat_le (length alternative) 16) xs) short).0)

-- symbols that some alternative takes are 16 at most
pub within_limit : (xs : DigitMap) (m : List Bool) (symbols : List Symbol) → fits xs ≡ true → ShowsRemaining xs symbols m → not (list_any (λ b. b) (take (length xs) m)) ≡ false → length symbols ≤ 16
within_limit xs m symbols short shows e =
    let parts = and_parts (nat_le (length xs) 16) (list_all (λ alternative. nat_le (length alternative) 16) xs) short in
    some_short xs symbols parts.1 (go (list_any (λ b. b) (map (λ positions. takes positions symbols) xs)) (ap (λ bs. not (list_any (λ b. b) bs)) (sym shows) ∙ e))
  where
    go : (b : Bool) → not b ≡ false → b ≡ true
    go true e = refl
    go false e = absurd cc

whole : {X : Type 0} (xs : List X) (n : ℕ) → length xs ≡ n → take n xs ≡ xs
whole [] n e = rw (sym e) refl
whole (x ∷ xs) zero e = absurd (omega arith)
whole (x ∷ xs) (suc n) e = ap (λ ys. x ∷ ys) (whole xs n (omega arith))

pub rest_whole : {X : Type 0} (xs : List X) (n : ℕ) → take (length xs - n) (drop n xs) ≡ drop n xs
rest_whole xs n = whole (drop n xs) (length xs - n) (length-drop n xs)

no_places : (n : ℕ) (bs : List Bool) → list_any (λ b. b) bs ≡ false → places_from n bs ≡ []
no_places n [] e = refl
no_places n (true ∷ bs) e = absurd cc
no_places n (false ∷ bs) e = no_places (n + 1) bs e

some_place : (bs : List Bool) → list_any (λ b. b) bs ≡ true → position_or_len (λ b. b) bs < length bs
some_place [] e = absurd cc
some_place (true ∷ bs) e = omega arith
some_place (false ∷ bs) e = let lt = some_place bs e in omega (arith, lt)

pub only_nowhere : (n : ℕ) (bs : List Bool) → position (λ b. b) bs ≡ None → only (places_from n bs) ≡ None
only_nowhere n bs e = ap only (no_places n bs (go (cases_Bool (list_any (λ b. b) bs))))
  where
    go : (list_any (λ b. b) bs ≡ true) ⊎ (list_any (λ b. b) bs ≡ false) → list_any (λ b. b) bs ≡ false
    go (inl some) =
        let found : position (λ b. b) bs ≡ Some (position_or_len (λ b. b) bs) = rw (lt-ltb (position_or_len (λ b. b) bs) (length bs) (some_place bs some)) refl in
        let not : None ≡ Some (position_or_len (λ b. b) bs) = sym e ∙ found in absurd cc
    go (inr none) = none

some_places : (n m : ℕ) (bs : List Bool) → list_any (λ b. b) bs ≡ true → only (n ∷ places_from m bs) ≡ None
some_places n m [] e = absurd cc
some_places n m (true ∷ bs) e = refl
some_places n m (false ∷ bs) e = some_places n (m + 1) bs e

pub one_alone : (n : ℕ) (bs : List Bool) (i : ℕ) → i < length bs → get_or bs i false ≡ true → ((k : ℕ) → k < i → get_or bs k false ≡ false) → list_any (λ b. b) (drop (suc i) bs) ≡ false → only (places_from n bs) ≡ Some (n + i)
one_alone n [] i lt is before others = absurd (omega arith)
one_alone n (true ∷ bs) zero lt is before others = ap (λ more. only (n ∷ more)) (no_places (n + 1) bs others) ∙ ap (λ k. Some k) (omega arith)
one_alone n (false ∷ bs) zero lt is before others = absurd cc
one_alone n (true ∷ bs) (suc i) lt is before others = absurd (true≢false (before 0 (omega arith)))
one_alone n (false ∷ bs) (suc i) lt is before others = one_alone (n + 1) bs i (omega arith) is (λ k lt. before (suc k) (omega arith)) others ∙ ap (λ k. Some k) (omega arith)

pub more_than_one : (n : ℕ) (bs : List Bool) (i : ℕ) → i < length bs → get_or bs i false ≡ true → ((k : ℕ) → k < i → get_or bs k false ≡ false) → list_any (λ b. b) (drop (suc i) bs) ≡ true → only (places_from n bs) ≡ None
more_than_one n [] i lt is before others = absurd (omega arith)
more_than_one n (true ∷ bs) zero lt is before others = some_places n (n + 1) bs others
more_than_one n (false ∷ bs) zero lt is before others = absurd cc
more_than_one n (true ∷ bs) (suc i) lt is before others = absurd (true≢false (before 0 (omega arith)))
more_than_one n (false ∷ bs) (suc i) lt is before others = more_than_one (n + 1) bs i (omega arith) is (λ k lt. before (suc k) (omega arith)) others

-- ---- matches

abbrev pub trues : ℕ → List Bool
trues zero = []
trues (suc n) = true ∷ trues n

pub matched : (xs : DigitMap) (m : List Bool) (symbols : List Symbol) (k : ℕ) → ShowsRemaining xs symbols m → k < length xs → get_or m k false ≡ true
    → matches (get_or xs k []) symbols ≡ (length (get_or xs k []) == length symbols)
matched xs m symbols k shows lt is = ap (λ b. b && length (get_or xs k []) == length symbols) (sym (shows_at xs m symbols k shows lt) ∙ is)

pub unmatched : (xs : DigitMap) (m : List Bool) (symbols : List Symbol) (k : ℕ) → ShowsRemaining xs symbols m → k < length xs → get_or m k false ≡ false
    → matches (get_or xs k []) symbols ≡ false
unmatched xs m symbols k shows lt is = ap (λ b. b && length (get_or xs k []) == length symbols) (sym (shows_at xs m symbols k shows lt) ∙ is)

pub position_here : {X : Type 0} (p : X → Bool) (xs : List X) (i : ℕ) (d : X) → i < length xs → ((k : ℕ) → k < i → p (get_or xs k d) ≡ false) → p (get_or xs i d) ≡ true → position p xs ≡ Some i
position_here p xs i d lt before is =
    let e : position_or_len p xs ≡ i = position_or_len_is p xs i d (omega (arith, lt)) before (λ _. is) in
    rw (e, lt-ltb i (length xs) lt) refl

position_nowhere : {X : Type 0} (p : X → Bool) (xs : List X) (i : ℕ) (d : X) → i ≡ length xs → ((k : ℕ) → k < i → p (get_or xs k d) ≡ false) → position p xs ≡ None
position_nowhere p xs i d end before =
    let e : position_or_len p xs ≡ i = position_or_len_is p xs i d (omega (arith, end)) before (λ lt. absurd (omega (arith, end, lt))) in
    rw (e, le-ltb i (length xs) (omega (arith, end))) refl

pub position_past : {X : Type 0} (p : X → Bool) (xs : List X) (i : ℕ) (d : X) → length xs ≤ i → ((k : ℕ) → k < i → p (get_or xs k d) ≡ false) → position p xs ≡ None
position_past p xs i d le before = position_nowhere p xs (length xs) d refl (λ k lt. before k (omega (arith, le, lt)))

-- the sole match by the one place that remains
pub sole_by : (xs : DigitMap) (m : List Bool) (symbols : List Symbol) (place : Option ℕ) → ShowsRemaining xs symbols m → place ≡ only (places_from 0 (take (length xs) m))
    → sole_match xs symbols ≡ option_and_then (if_matched xs symbols) place
sole_by xs m symbols place shows e =
    ap (λ places. option_and_then (if_matched xs symbols) (only places)) (candidates-places 0 xs symbols ∙ ap (places_from 0) (sym shows)) ∙ ap (option_and_then (if_matched xs symbols)) (sym e)

pub all_remain : (xs : DigitMap) → fits xs ≡ true → ShowsRemaining xs [] (trues 16)
all_remain xs short =
    let parts = and_parts (nat_le (length xs) 16) (list_all (λ alternative. nat_le (length alternative) 16) xs) short in
    let le : length xs ≤ 16 = leb-true (length xs) 16 parts.0 in
    shows_by xs (trues 16) [] le (λ k lt. go 16 k (omega (arith, le, lt)))
  where
    go : (n k : ℕ) → k < n → get_or (trues n) k false ≡ true
    go zero k lt = absurd (omega arith)
    go (suc n) zero lt = refl
    go (suc n) (suc k) lt = go n k (omega arith)

front : (symbols more : List Symbol) (n : ℕ) → n ≤ length symbols → take n (symbols ++ more) ≡ take n symbols
front symbols more zero le = refl
front [] more (suc n) le = absurd (omega arith)
front (s ∷ symbols) more (suc n) le = ap (λ ys. s ∷ ys) (front symbols more n (omega arith))

one_longer : (symbols : List Symbol) (s : Symbol) → length (symbols ++ s ∷ []) ≡ suc (length symbols)
one_longer [] s = refl
one_longer (t ∷ symbols) s = ap suc (one_longer symbols s)

opens_more : (xs : DigitMap) (symbols : List Symbol) (s : Symbol) → IsOpen xs symbols → goes_on xs (symbols ++ s ∷ []) ≡ true → IsOpen xs (symbols ++ s ∷ [])
opens_more xs symbols s is_open goes n lt = go (cases_lt n (length symbols))
  where
    go : (n < length symbols) ⊎ (length symbols ≤ n) → IsTrue (goes_on xs (take (suc n) (symbols ++ s ∷ [])))
    go (inl less) = rw (front symbols (s ∷ []) (suc n) (omega (arith, less))) (is_open n less)
    go (inr more) = rw (whole (symbols ++ s ∷ []) (suc n) (omega (arith, one_longer symbols s, lt, more))) goes

goes_by : (xs : DigitMap) (symbols : List Symbol) → is_empty (candidates xs symbols) ≡ false → sole_match xs symbols ≡ None → goes_on xs symbols ≡ true
goes_by xs symbols some none = ap (λ b. not b && is_none (sole_match xs symbols)) some ∙ ap is_none none

-- a collector that goes on follows its map
pub follows_more : (xs : DigitMap) (done : Bool) (symbols : List Symbol) (before after : List Bool) (s : Symbol) → done ≡ false → FollowsBy xs (digits_of done symbols) before
    → ShowsRemaining xs (symbols ++ s ∷ []) after → is_empty (candidates xs (symbols ++ s ∷ [])) ≡ false → sole_match xs (symbols ++ s ∷ []) ≡ None
    → FollowsBy xs (digits_of done (symbols ++ s ∷ [])) after
follows_more xs true symbols before after s e follows shows some none = absurd cc
follows_more xs false symbols before after s e follows shows some none = (shows, opens_more xs symbols s follows.1 (goes_by xs (symbols ++ s ∷ []) some none))
