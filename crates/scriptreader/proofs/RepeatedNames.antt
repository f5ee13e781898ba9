-- Names that come twice, over several lists.
use Rattle.std.proofs.Common.{◌≡◌, ℕ, List, [], ◌∷◌, ◌++◌, map, Bool, true, false, refl, sym, ap, ◌∙◌, append_assoc}
use Rattle.std.specs.Prelude.{◌||◌}
use Rattle.std.proofs.lemmas.List.{append-nil}
use Rattle.std.specs.Str.{bytes_eq}
use Rattle.typed_values.specs.Names.{is_among, repeats_after}
use Rattle.scriptreader.proofs.BooleanTests.{or_left, or_right}

abbrev either : Bool → Bool → Bool
either a b = a || b

or_assoc : (a b c : Bool) → (a || (b || c)) ≡ ((a || b) || c)
or_assoc true b c = refl
or_assoc false b c = refl

pub repeats_of_both : (before xs ys : List (List ℕ)) → repeats_after before (xs ++ ys) ≡ (repeats_after before xs || repeats_after (before ++ xs) ys)
repeats_of_both before [] ys = ap (λ b. repeats_after b ys) (sym (append-nil before))
repeats_of_both before (x ∷ xs) ys =
    ap (either (is_among x before)) (repeats_of_both (before ++ x ∷ []) xs ys)
    ∙ (or_assoc (is_among x before) (repeats_after (before ++ x ∷ []) xs) (repeats_after ((before ++ x ∷ []) ++ xs) ys)
    ∙ ap (λ b. (is_among x before || repeats_after (before ++ x ∷ []) xs) || repeats_after b ys) (append_assoc before (x ∷ []) xs))

pub same : (xs : List (List ℕ)) → map (λ w. w) xs ≡ xs
same [] = refl
same (x ∷ xs) = ap (λ ys. x ∷ ys) (same xs)

pub all_three : (xs ys zs : List (List ℕ)) → repeats_after [] (xs ++ (ys ++ zs)) ≡ (repeats_after [] xs || (repeats_after xs ys || repeats_after (xs ++ ys) zs))
all_three xs ys zs = repeats_of_both [] xs (ys ++ zs) ∙ ap (either (repeats_after [] xs)) (repeats_of_both xs ys zs)

pub first_repeats : (before xs ys zs : List (List ℕ)) (b : Bool) → before ≡ [] → b ≡ repeats_after before (map (λ w. w) xs) → b ≡ true → true ≡ repeats_after [] (xs ++ (ys ++ zs))
first_repeats before xs ys zs b none is yes-b =
    let e : repeats_after [] xs ≡ true = ap (λ (p : List (List ℕ)). repeats_after [] p) (sym (same xs)) ∙ (ap (λ (q : List (List ℕ)). repeats_after q (map (λ w. w) xs)) (sym none) ∙ (sym is ∙ yes-b)) in
    sym (all_three xs ys zs ∙ rw e refl)

pub second_repeats : (before middle xs ys zs : List (List ℕ)) (a b : Bool) → before ≡ [] → a ≡ repeats_after before (map (λ w. w) xs) → a ≡ false → middle ≡ before ++ map (λ w. w) xs
    → b ≡ repeats_after middle (map (λ w. w) ys) → b ≡ true → true ≡ repeats_after [] (xs ++ (ys ++ zs))
second_repeats before middle xs ys zs a b none is no-a mid is-b yes-b =
    let e : repeats_after [] xs ≡ false = ap (λ (p : List (List ℕ)). repeats_after [] p) (sym (same xs)) ∙ (ap (λ (q : List (List ℕ)). repeats_after q (map (λ w. w) xs)) (sym none) ∙ (sym is ∙ no-a)) in
    let m : middle ≡ xs = mid ∙ (ap (λ (q : List (List ℕ)). q ++ map (λ w. w) xs) none ∙ same xs) in
    let f : repeats_after xs ys ≡ true = ap (λ (p : List (List ℕ)). repeats_after xs p) (sym (same ys)) ∙ (ap (λ (q : List (List ℕ)). repeats_after q (map (λ w. w) ys)) (sym m) ∙ (sym is-b ∙ yes-b)) in
    sym (all_three xs ys zs ∙ rw (e, f) refl)

pub third_repeats : (before middle late xs ys zs : List (List ℕ)) (a b c : Bool) → before ≡ [] → a ≡ repeats_after before (map (λ w. w) xs) → a ≡ false → middle ≡ before ++ map (λ w. w) xs
    → b ≡ repeats_after middle (map (λ w. w) ys) → b ≡ false → late ≡ middle ++ map (λ w. w) ys → c ≡ repeats_after late (map (λ w. w) zs) → c ≡ repeats_after [] (xs ++ (ys ++ zs))
third_repeats before middle late xs ys zs a b c none is no-a mid is-b no-b last is-c =
    let e : repeats_after [] xs ≡ false = ap (λ (p : List (List ℕ)). repeats_after [] p) (sym (same xs)) ∙ (ap (λ (q : List (List ℕ)). repeats_after q (map (λ w. w) xs)) (sym none) ∙ (sym is ∙ no-a)) in
    let m : middle ≡ xs = mid ∙ (ap (λ (q : List (List ℕ)). q ++ map (λ w. w) xs) none ∙ same xs) in
    let f : repeats_after xs ys ≡ false = ap (λ (p : List (List ℕ)). repeats_after xs p) (sym (same ys)) ∙ (ap (λ (q : List (List ℕ)). repeats_after q (map (λ w. w) ys)) (sym m) ∙ (sym is-b ∙ no-b)) in
    let l : late ≡ xs ++ ys = last ∙ (ap (λ (q : List (List ℕ)). q ++ map (λ w. w) ys) m ∙ ap (λ (q : List (List ℕ)). xs ++ q) (same ys)) in
    let g : c ≡ repeats_after (xs ++ ys) zs = is-c ∙ (ap (λ (q : List (List ℕ)). repeats_after q (map (λ w. w) zs)) l ∙ ap (λ (p : List (List ℕ)). repeats_after (xs ++ ys) p) (same zs)) in
    g ∙ sym (all_three xs ys zs ∙ rw (e, f) refl)

-- ---- what follows others without repeating one repeats none by itself

among_more : (text : List ℕ) (before seen : List (List ℕ)) → is_among text (before ++ seen) ≡ false → is_among text seen ≡ false
among_more text [] seen e = e
among_more text (other ∷ before) seen e = among_more text before seen (or_right (bytes_eq text other) (is_among text (before ++ seen)) e)

fewer : (before seen texts : List (List ℕ)) → repeats_after (before ++ seen) texts ≡ false → repeats_after seen texts ≡ false
fewer before seen [] e = refl
fewer before seen (text ∷ texts) e =
    let here : is_among text seen ≡ false = among_more text before seen (or_left (is_among text (before ++ seen)) (repeats_after ((before ++ seen) ++ text ∷ []) texts) e) in
    let there : repeats_after ((before ++ seen) ++ text ∷ []) texts ≡ false = or_right (is_among text (before ++ seen)) (repeats_after ((before ++ seen) ++ text ∷ []) texts) e in
    let later : repeats_after (seen ++ text ∷ []) texts ≡ false = fewer before (seen ++ text ∷ []) texts (ap (λ (b : List (List ℕ)). repeats_after b texts) (sym (append_assoc before seen (text ∷ []))) ∙ there) in
    rw (here, later) refl

pub fewer_alone : (before texts : List (List ℕ)) → repeats_after before texts ≡ false → repeats_after [] texts ≡ false
fewer_alone before texts e = fewer before [] texts (ap (λ (b : List (List ℕ)). repeats_after b texts) (append-nil before) ∙ e)
