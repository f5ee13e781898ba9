-- The first line of a text ends at its first line feed, and a cut at a divider parts the sections.
use Rattle.std.proofs.Common.{◌≡◌, ◌∙◌, ◌+◌, ◌<◌, ◌≤◌, ◌++◌, ◌==◌, ℕ, Bool, true, false, suc, List, [], ◌∷◌, length, take, drop, refl, sym, ap, ap₂, subst, arith, inl, inr, lt-ltb, le-ltb, append_assoc, append-nil, Some, None}
use Rattle.std.proofs.lemmas.Bool.{cases_lt}
use Rattle.std.proofs.lemmas.List.{drop-drop, drop_all, take_all}
use Rattle.std.proofs.Math.Seq.{take-add}
use Rattle.std.specs.List.{position, position_or_len}
use Rattle.program_rim.specs.Sections.{lines_of, starts_with_byte, grouped, prepended, sections_of, is_divider, pair_of}

abbrev is_feed : ℕ → Bool
is_feed byte = byte == 10

abbrev place_of : List ℕ → ℕ
place_of text = position_or_len is_feed text

feed_at_place : (text : List ℕ) → place_of text < length text
    → lines_of text ≡ take (place_of text + 1) text ∷ lines_of (drop (place_of text + 1) text)
feed_at_place [] h = absurd (omega arith)
feed_at_place (byte ∷ rest) h = go (byte == 10) refl (feed_at_place rest)
  where
    go : (test : Bool) → (byte == 10) ≡ test
        → (place_of rest < length rest → lines_of rest ≡ take (place_of rest + 1) rest ∷ lines_of (drop (place_of rest + 1) rest))
        → lines_of (byte ∷ rest) ≡ take (place_of (byte ∷ rest) + 1) (byte ∷ rest) ∷ lines_of (drop (place_of (byte ∷ rest) + 1) (byte ∷ rest))
    go true e below = rw e refl
    go false e below =
        let inside : 1 + place_of rest < length (byte ∷ rest) = rw e at h in
        let next : 1 + place_of rest + 1 ≡ suc (place_of rest + 1) = omega arith in
        rw (e, next) (ap (starts_with_byte byte) (below (omega arith)))

no_feed : (text : List ℕ) → length text ≤ place_of text → 0 < length text → lines_of text ≡ text ∷ []
no_feed [] h some = absurd (omega arith)
no_feed (byte ∷ []) h some = go (byte == 10) refl
  where
    go : (test : Bool) → (byte == 10) ≡ test → lines_of (byte ∷ []) ≡ (byte ∷ []) ∷ []
    go true e = rw e refl
    go false e = rw e refl
no_feed (byte ∷ next ∷ rest) h some = go (byte == 10) refl (λ past. no_feed (next ∷ rest) past (omega arith))
  where
    go : (test : Bool) → (byte == 10) ≡ test
        → (length (next ∷ rest) ≤ place_of (next ∷ rest) → lines_of (next ∷ rest) ≡ (next ∷ rest) ∷ [])
        → lines_of (byte ∷ next ∷ rest) ≡ (byte ∷ next ∷ rest) ∷ []
    go true e below = let past : length (byte ∷ next ∷ rest) ≤ 0 = rw e at h in absurd (omega arith)
    go false e below =
        let past : length (byte ∷ next ∷ rest) ≤ 1 + place_of (next ∷ rest) = rw e at h in
        rw e (ap (starts_with_byte byte) (below (omega arith)))

-- a text with a line feed begins with the line up to it
pub lines-feed : (text : List ℕ) (n : ℕ) → position is_feed text ≡ Some n
    → lines_of text ≡ take (n + 1) text ∷ lines_of (drop (n + 1) text)
lines-feed text n found = elim (cases_lt (place_of text) (length text)) [
  | inl inside ↦
      let here : Some (place_of text) ≡ Some n = rw (lt-ltb (place_of text) (length text) inside) at found in
      let same : place_of text ≡ n = cc in
      subst (λ k. lines_of text ≡ take (k + 1) text ∷ lines_of (drop (k + 1) text)) same (feed_at_place text inside)
  | inr past ↦
      let none : None ≡ Some n = rw (le-ltb (place_of text) (length text) past) at found in
      cc
]

-- a text without a line feed is one line
pub lines-none : (text : List ℕ) → position is_feed text ≡ None → 0 < length text
    → lines_of text ≡ take (length text) text ∷ lines_of (drop (length text) text)
lines-none text none some = elim (cases_lt (place_of text) (length text)) [
  | inl inside ↦
      let here : Some (place_of text) ≡ None = rw (lt-ltb (place_of text) (length text) inside) at none in
      cc
  | inr past ↦
      let full : length text ≤ length text = omega arith in
      no_feed text past some
      ∙ sym (ap₂ (λ t r. t ∷ lines_of r) (take_all (length text) text full) (drop_all (length text) text full))
]

-- ---- sections

prepended-twice : (front back : List ℕ) (sections : List (List ℕ))
    → prepended front (prepended back sections) ≡ prepended (front ++ back) sections
prepended-twice front back [] = refl
prepended-twice front back (section ∷ sections) = ap (λ text. text ∷ sections) (sym (append_assoc front back section))

-- nothing before the first section changes nothing
prepended-nil : (lines : List (List ℕ)) → prepended [] (grouped lines) ≡ grouped lines
prepended-nil [] = refl
prepended-nil (line ∷ lines) = go (is_divider line) refl
  where
    go : (test : Bool) → is_divider line ≡ test → prepended [] (grouped (line ∷ lines)) ≡ grouped (line ∷ lines)
    go true e = rw e refl
    go false e = rw e (prepended-twice [] line (grouped lines))

abbrev pub IsCutAt : List ℕ → ℕ → Type 0
IsCutAt text start = sections_of text ≡ prepended (take start text) (sections_of (drop start text))

pub cut-start : (text : List ℕ) → IsCutAt text 0
cut-start text = sym (prepended-nil (lines_of text))

-- a line that is no divider joins what stands before it
pub cut-line : (text rest : List ℕ) (start n : ℕ) → rest ≡ drop start text → IsCutAt text start
    → lines_of rest ≡ take n rest ∷ lines_of (drop n rest) → is_divider (take n rest) ≡ false → IsCutAt text (start + n)
cut-line text rest start n is cut line plain =
    let head : grouped (take n rest ∷ lines_of (drop n rest)) ≡ prepended (take n rest) (sections_of (drop n rest)) = rw plain refl in
    let front : take start text ++ take n rest ≡ take (start + n) text =
    ap (λ r. take start text ++ take n r) is ∙ sym (take-add start n text) in
    let back : drop n rest ≡ drop (start + n) text = ap (drop n) is ∙ drop-drop n start text in
    cut ∙ ap (λ r. prepended (take start text) (sections_of r)) (sym is)
    ∙ ap (prepended (take start text)) (ap grouped line ∙ head)
    ∙ prepended-twice (take start text) (take n rest) (sections_of (drop n rest))
    ∙ ap₂ (λ t r. prepended t (sections_of r)) front back

-- a divider ends a section
pub cut-divider : (text rest : List ℕ) (start n : ℕ) → rest ≡ drop start text → IsCutAt text start
    → lines_of rest ≡ take n rest ∷ lines_of (drop n rest) → is_divider (take n rest) ≡ true
    → sections_of text ≡ take start text ∷ sections_of (drop n rest)
cut-divider text rest start n is cut line divides =
    let head : grouped (take n rest ∷ lines_of (drop n rest)) ≡ [] ∷ sections_of (drop n rest) = rw divides refl in
    cut ∙ ap (λ r. prepended (take start text) (sections_of r)) (sym is)
    ∙ ap (prepended (take start text)) (ap grouped line ∙ head)
    ∙ ap (λ t. t ∷ sections_of (drop n rest)) (append-nil (take start text))

-- no divider came
pub cut-end : (text : List ℕ) (start : ℕ) → length text ≤ start → IsCutAt text start → sections_of text ≡ text ∷ []
cut-end text start past cut =
    cut ∙ ap₂ (λ t r. prepended t (sections_of r)) (take_all start text past) (drop_all start text past)
    ∙ ap (λ t. t ∷ []) (append-nil text)

-- ---- three sections and more

abbrev HasSome : List (List ℕ) → Type 0
HasSome sections = (first : List ℕ) × (rest : List (List ℕ)) × (sections ≡ first ∷ rest)

prepended-some : (text : List ℕ) (sections : List (List ℕ)) → HasSome (prepended text sections)
prepended-some text [] = (text, [], refl)
prepended-some text (section ∷ sections) = (text ++ section, sections, refl)

grouped-some : (lines : List (List ℕ)) → HasSome (grouped lines)
grouped-some [] = ([], [], refl)
grouped-some (line ∷ lines) = go (is_divider line) refl
  where
    go : (test : Bool) → is_divider line ≡ test → HasSome (grouped (line ∷ lines))
    go true e = ([], grouped lines, rw e refl)
    go false e =
        let some = prepended-some line (grouped lines) in
        (some.0, some.1, rw e some.2)

-- where the rest has a divider too, there are more than two sections
pub pair-more : (input rest after first second : List ℕ) → sections_of input ≡ first ∷ sections_of rest
    → sections_of rest ≡ second ∷ sections_of after → None ≡ pair_of (sections_of input)
pair-more input rest after first second whole more =
    let some = grouped-some (lines_of after) in
    let parts = whole ∙ ap (λ t. first ∷ t) (more ∙ ap (λ t. second ∷ t) some.2) in
    sym (ap pair_of parts)
