-- The numbers of the values, by the slots, in rising order.
use Rattle.std.proofs.Common.{◌≡◌, ℕ, zero, suc, ◌+◌, ◌<◌, true, false, List, [], ◌∷◌, length, get_or, count_by, Contains, Option, Some, None, is_some, refl, sym, ap, ◌∙◌, inl, inr, arith, zero-add}
use Rattle.std.proofs.lemmas.Bool.{cases_Bool, false≢true}
use Rattle.slab.specs.Slab.{entries_from}
use Rattle.slab.proofs.SlabLemmas.{Contains-cons, Contains-cons_cases}
use Rattle.mg_model.specs.Items.{IsRising, Lists}
use Rattle.identifiers.specs.declared.class.Class.{Class}
use Rattle.identifiers.specs.Class.{is_number, key_of, number_at}
use Rattle.identifiers.specs.Stock.{value_in}
use Rattle.identifiers.proofs.ClassLemmas.{is_number-number_at, key_of-number_at, number_at-key_of, number_at-rises}
use Rattle.identifiers.proofs.CountLemmas.{count-cons}
use Rattle.identifiers.proofs.SlotLemmas.{told}
use Rattle.identifiers.proofs.SoundLemmas.{is_valued}

module _ {T : Type 0} where
  -- the numbers of the entries that have a value
  abbrev pub listed : Class → List (ℕ × Option T) → List ℕ
  listed class [] = []
  listed class ((key, None) ∷ rest) = listed class rest
  listed class ((key, Some value) ∷ rest) = number_at class key ∷ listed class rest

  -- the numbers of the slots that have a value, where the first slot has this key
  abbrev pub held : Class → ℕ → List (Option (Option T)) → List ℕ
  held class first slots = listed class (entries_from first slots)

  pub length-held : (class : Class) (first : ℕ) (slots : List (Option (Option T))) → length (held class first slots) ≡ count_by is_valued slots
  length-held class first [] = refl
  length-held class first (None ∷ rest) = omega (arith, length-held class (first + 1) rest, count-cons is_valued None rest)
  length-held class first (Some None ∷ rest) = omega (arith, length-held class (first + 1) rest, count-cons is_valued (Some None) rest)
  length-held class first (Some (Some value) ∷ rest) = omega (arith, length-held class (first + 1) rest, count-cons is_valued (Some (Some value)) rest)

  -- what is listed is the number of a slot with a value
  held_from : (class : Class) (first : ℕ) (slots : List (Option (Option T))) (n : ℕ) → Contains (held class first slots) n →
      (k : ℕ) × (n ≡ number_at class (first + k)) × (is_valued (get_or slots k None) ≡ true)
  held_from class first [] n there = absurd (omega (arith, there.1))
  held_from class first (None ∷ rest) n there =
      let later = held_from class (first + 1) rest n there in
      let shift : first + 1 + later.0 ≡ first + suc later.0 = omega arith in
      (suc later.0, later.1 ∙ ap (number_at class) shift, later.2)
  held_from class first (Some None ∷ rest) n there =
      let later = held_from class (first + 1) rest n there in
      let shift : first + 1 + later.0 ≡ first + suc later.0 = omega arith in
      (suc later.0, later.1 ∙ ap (number_at class) shift, later.2)
  held_from class first (Some (Some value) ∷ rest) n there =
      elim (Contains-cons_cases _ _ _ there) [
        | inl here ↦ let shift : first ≡ first + 0 = omega arith in (0, sym here ∙ ap (number_at class) shift, refl)
        | inr after ↦
            let later = held_from class (first + 1) rest n after in
            let shift : first + 1 + later.0 ≡ first + suc later.0 = omega arith in
            (suc later.0, later.1 ∙ ap (number_at class) shift, later.2)
      ]

  -- the number of a slot with a value is listed
  held_to : (class : Class) (first : ℕ) (slots : List (Option (Option T))) (k : ℕ) → is_valued (get_or slots k None) ≡ true → Contains (held class first slots) (number_at class (first + k))
  held_to class first [] k valued = absurd (false≢true valued)
  held_to class first (None ∷ rest) zero valued = absurd (false≢true valued)
  held_to class first (Some None ∷ rest) zero valued = absurd (false≢true valued)
  held_to class first (Some (Some value) ∷ rest) zero valued =
      let shift : first + 0 ≡ first = omega arith in
      (0, omega arith, ap (number_at class) (sym shift))
  held_to class first (None ∷ rest) (suc k) valued =
      let shift : first + suc k ≡ first + 1 + k = omega arith in
      rw shift (held_to class (first + 1) rest k valued)
  held_to class first (Some None ∷ rest) (suc k) valued =
      let shift : first + suc k ≡ first + 1 + k = omega arith in
      rw shift (held_to class (first + 1) rest k valued)
  held_to class first (Some (Some value) ∷ rest) (suc k) valued =
      let shift : first + suc k ≡ first + 1 + k = omega arith in
      rw shift (Contains-cons _ _ _ (held_to class (first + 1) rest k valued))

  held_rising : (class : Class) (first : ℕ) (slots : List (Option (Option T))) → class.first < class.stride → IsRising (held class first slots)
  held_rising class first [] is_class = tt
  held_rising class first (None ∷ rest) is_class = held_rising class (first + 1) rest is_class
  held_rising class first (Some None ∷ rest) is_class = held_rising class (first + 1) rest is_class
  held_rising class first (Some (Some value) ∷ rest) is_class = (
    λ y there.
        let later = held_from class (first + 1) rest y there in
        rw (later.1) (number_at-rises class first (first + 1 + later.0) is_class (omega arith)),
    held_rising class (first + 1) rest is_class,
  )

  pub lists_held : (class : Class) (slots : List (Option (Option T))) → class.first < class.stride → Lists (λ n. is_some (told value_in class slots n)) (held class 0 slots)
  lists_held class slots is_class = record {
    rising = held_rising class 0 slots is_class;
    exactly = λ n. (
      λ there.
          let found = held_from class 0 slots n there in
          let same : n ≡ number_at class found.0 = found.1 ∙ ap (number_at class) (zero-add found.0) in
          rw (same, is_number-number_at class found.0 is_class, key_of-number_at class found.0 is_class) found.2,
      λ is_held. elim (cases_Bool (is_number class n)) [
        | inl is ↦
            let valued : is_valued (get_or slots (key_of class n) None) ≡ true = rw is at is_held in
            let same : number_at class (0 + key_of class n) ≡ n = ap (number_at class) (zero-add (key_of class n)) ∙ number_at-key_of class n is in
            rw same at (held_to class 0 slots (key_of class n) valued)
        | inr none ↦ let no : false ≡ true = rw none at is_held in absurd (false≢true no)
      ],
    );
  }

  -- an entry's part of the list
  pub listed-none : (class : Class) (key : ℕ) (slot : Option T) (rest : List (ℕ × Option T)) → is_some slot ≡ false → listed class ((key, slot) ∷ rest) ≡ listed class rest
  listed-none class key None rest none = refl
  listed-none class key (Some value) rest none = absurd (false≢true (sym none))

  pub listed-some : (class : Class) (key : ℕ) (slot : Option T) (rest : List (ℕ × Option T)) → is_some slot ≡ true → listed class ((key, slot) ∷ rest) ≡ number_at class key ∷ listed class rest
  listed-some class key None rest some = absurd (false≢true some)
  listed-some class key (Some value) rest some = refl
