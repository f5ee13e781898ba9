-- What lists contain that are made by a map, a flat map, a filter, or element by element.
use Rattle.std.proofs.Common.{◌≡◌, ◌∙◌, Bool, true, false, List, [], ◌∷◌, map, filter, Option, Some, None, refl, sym, ap, subst, inl, inr}
use Rattle.std.specs.Prelude.{Contains, if◌then◌else◌}
use Rattle.std.specs.List.{All, flat_map}
use Rattle.std.proofs.lemmas.List.Concat.{flat_map-cons}
use Rattle.std.proofs.lemmas.List.Elements.{All-nil, All-cons, Contains-append_cases, Contains-append_left, Contains-append_right}
use Rattle.typed_values.specs.Shape.{each, ◌>>=◌}
use Rattle.mg_model.proofs.Cases.{none_is_some, the_some}
use Rattle.mg_model.proofs.Single.{none_in, only_one, first_in, later_in}

module _ {A B : Type 0} where
  pub mapped_in : (f : A → B) (xs : List A) (x : A) → Contains xs x → Contains (map f xs) (f x)
  mapped_in f [] x among = absurd (none_in x among)
  mapped_in f (first ∷ xs) x among = elim (Contains-append_cases (first ∷ []) xs x among) [
    | inl here ↦ subst (λ y. Contains (f first ∷ map f xs) (f y)) (only_one first x here) (first_in (f first) (map f xs))
    | inr later ↦ later_in (f first) (map f xs) (f x) (mapped_in f xs x later)
  ]

  pub flat_mapped_in : (f : A → List B) (xs : List A) (x : A) (y : B) → Contains xs x → Contains (f x) y → Contains (flat_map f xs) y
  flat_mapped_in f [] x y among inner = absurd (none_in x among)
  flat_mapped_in f (first ∷ xs) x y among inner =
      subst (λ ys. Contains ys y) (sym (flat_map-cons f first xs)) (elim (Contains-append_cases (first ∷ []) xs x among) [
        | inl here ↦ Contains-append_left (f first) (flat_map f xs) y (subst (λ z. Contains (f z) y) (sym (only_one first x here)) inner)
        | inr later ↦ Contains-append_right (f first) (flat_map f xs) y (flat_mapped_in f xs x y later inner)
      ])

module _ {A : Type 0} (test : A → Bool) where
  kept_first : (first : A) (kept : List A) → test first ≡ true → Contains (if test first then first ∷ kept else kept) first
  kept_first first kept passes = rw passes (first_in first kept)

  kept_later : (b : Bool) (first : A) (kept : List A) (x : A) → Contains kept x → Contains (if b then first ∷ kept else kept) x
  kept_later true first kept x among = later_in first kept x among
  kept_later false first kept x among = among

  pub filtered_in : (xs : List A) (x : A) → Contains xs x → test x ≡ true → Contains (filter test xs) x
  filtered_in [] x among passes = absurd (none_in x among)
  filtered_in (first ∷ xs) x among passes = elim (Contains-append_cases (first ∷ []) xs x among) [
    | inl here ↦
        let same = only_one first x here in
        subst (λ y. Contains (filter test (first ∷ xs)) y) same (kept_first first (filter test xs) (ap test same ∙ passes))
    | inr later ↦ kept_later (test first) first (filter test xs) x (filtered_in xs x later passes)
  ]

-- ---- what is read element by element

module _ {X Y : Type 0} (f : X → Option Y) where
  -- the first element gives the first value, and the others give the others
  record IsSplit (o : Option Y) (p : Option (List Y)) (ys : List Y) : Type 0 where
    y : Y
    rest : List Y
    first : o ≡ Some y
    others : p ≡ Some rest
    all : y ∷ rest ≡ ys

  split : (o : Option Y) (p : Option (List Y)) (ys : List Y) → (o >>= λ z. p >>= λ zs. Some (z ∷ zs)) ≡ Some ys → IsSplit o p ys
  split None p ys e = absurd (none_is_some ys e)
  split (Some y) None ys e = absurd (none_is_some ys e)
  split (Some y) (Some rest) ys e = record { y = y; rest = rest; first = refl; others = refl; all = the_some (y ∷ rest) ys e }

  -- what an element gives is among what was read
  abbrev pub IsRead : List Y → X → Type 0
  IsRead ys x = (y : Y) × Contains ys y × (f x ≡ Some y)

  pub each_read : (xs : List X) (ys : List Y) → each f xs ≡ Some ys → (x : X) → Contains xs x → IsRead ys x
  each_read [] ys e x among = absurd (none_in x among)
  each_read (one ∷ xs) ys e x among =
      let s = split (f one) (each f xs) ys e in
      subst (λ zs. IsRead zs x) s.all (elim (Contains-append_cases (one ∷ []) xs x among) [
        | inl here ↦ subst (IsRead (s.y ∷ s.rest)) (only_one one x here) (s.y, first_in s.y s.rest, s.first)
        | inr later ↦
            let found = each_read xs s.rest s.others x later in
            (found.0, later_in s.y s.rest found.0 found.1, found.2)
      ])

  pub each_is : (P : Y → Type 0) → ((x : X) (y : Y) → f x ≡ Some y → P y) → (xs : List X) (ys : List Y) → each f xs ≡ Some ys → All P ys
  each_is P given [] ys e = subst (All P) (the_some [] ys e) (All-nil P)
  each_is P given (x ∷ xs) ys e =
      let s = split (f x) (each f xs) ys e in
      subst (All P) s.all (All-cons P s.y s.rest (given x s.y s.first) (each_is P given xs s.rest s.others))
