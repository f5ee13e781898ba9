-- What is so of all identifiers stays so where a slot changes, and what follows from it.
use Rattle.std.proofs.Common.{◌≡◌, ◌≢◌, ℕ, ◌+◌, ◌-◌, ◌<◌, ◌≤◌, Bool, true, false, not, cond, List, [], ◌∷◌, ◌++◌, length, get_or, count_by, Option, Some, None, is_some, refl, sym, ap, ◌∙◌, inl, inr, arith}
use Rattle.std.proofs.lemmas.Bool.{cases_eq, false≢true}
use Rattle.std.proofs.lemmas.List.{length-append}
use Rattle.std.proofs.lemmas.List.Elements.{Contains-append_left, Contains-append_right}
use Rattle.slab.specs.Slab.{Slab, get, with_value}
use Rattle.slab.proofs.SlabLemmas.{Updates-with_value}
use Rattle.identifiers.specs.declared.class.Class.{Class}
use Rattle.identifiers.specs.Class.{size}
use Rattle.identifiers.specs.Stock.{IsSound, is_freed, value_in}
use Rattle.identifiers.proofs.CountLemmas.{count_split, count_same, count_more, counted}

module _ {T : Type 0} where
  -- the slot has a value
  abbrev pub is_valued : Option (Option T) → Bool
  is_valued slot = is_some (value_in slot)

  is_split : (slot : Option (Option T)) → cond (is_some slot) 1 0 ≡ cond (is_freed slot) 1 0 + cond (is_valued slot) 1 0
  is_split None = refl
  is_split (Some None) = refl
  is_split (Some (Some value)) = refl

  pub freed_is : (slot : Option (Option T)) → is_freed slot ≡ true → slot ≡ Some None
  freed_is None h = absurd (false≢true h)
  freed_is (Some None) h = refl
  freed_is (Some (Some value)) h = absurd (false≢true h)

  pub used_split : (slots : List (Option (Option T))) → count_by is_some slots ≡ count_by is_freed slots + count_by is_valued slots
  used_split slots = count_split is_some is_freed is_valued slots is_split

  -- a value that is there isn't freed yet, and there is room for its key
  pub freed_below : (slots : List (Option (Option T))) (freed : List ℕ) (room : ℕ) (class : Class) (key : ℕ) (value : T) → IsSound slots freed room class → get_or slots key None ≡ Some (Some value) → length freed < room
  freed_below slots freed room class key value sound there =
      let valued : is_valued (get_or slots key None) ≡ true = rw there refl in
      let some = counted is_valued slots None key refl valued in
      omega (arith, some, used_split slots, sound.counted, sound.has_room)

  pub freed_within : (slots : List (Option (Option T))) (freed : List ℕ) (room : ℕ) (class : Class) → IsSound slots freed room class → count_by is_some slots - length freed ≡ count_by is_valued slots
  freed_within slots freed room class sound = omega (arith, used_split slots, sound.counted)

  -- the same keys are used and freed
  pub sound_same : (old new : List (Option (Option T))) (freed : List ℕ) (room more : ℕ) (class : Class) →
      ((k : ℕ) → is_some (get_or new k None) ≡ is_some (get_or old k None)) → ((k : ℕ) → is_freed (get_or new k None) ≡ is_freed (get_or old k None)) →
      count_by is_some old ≤ more → IsSound old freed room class → IsSound new freed more class
  sound_same old new freed room more class used freed_too fits sound =
      let all = count_same is_some new old None refl used in
      let those = count_same is_freed new old None refl freed_too in
      record {
        is_class = sound.is_class;
        within = λ k some. sound.within k (sym (used k) ∙ some);
        listed = λ k is. let h : is_freed (get_or new k None) ≡ true = rw is refl in sound.listed k (freed_is (get_or old k None) (sym (freed_too k) ∙ h));
        counted = sound.counted ∙ sym those;
        has_room = omega (arith, all, fits);
      }

  -- a key is freed
  pub sound_freed : (old new : List (Option (Option T))) (freed : List ℕ) (room : ℕ) (class : Class) (key : ℕ) (value : T) →
      get_or old key None ≡ Some (Some value) → get_or new key None ≡ Some None → ((other : ℕ) → other ≢ key → get_or new other None ≡ get_or old other None) →
      IsSound old freed room class → IsSound new (freed ++ key ∷ []) room class
  sound_freed old new freed room class key value was is others sound =
      let used : (k : ℕ) → is_some (get_or new k None) ≡ is_some (get_or old k None) =
      λ k. elim (cases_eq k key) [ inl same ↦ rw (same, was, is) refl | inr differs ↦ ap is_some (others k differs) ] in
      let all = count_same is_some new old None refl used in
      let those : count_by is_freed new ≡ count_by is_freed old + 1 =
      count_more is_freed old new None key refl (rw was refl) (rw is refl) (λ k differs. ap is_freed (sym (others k differs))) in
      record {
        is_class = sound.is_class;
        within = λ k some. sound.within k (sym (used k) ∙ some);
        listed = λ k is_none. elim (cases_eq k key) [
          | inl same ↦ Contains-append_right freed (key ∷ []) k (0, omega arith, sym same)
          | inr differs ↦ Contains-append_left freed (key ∷ []) k (sound.listed k (sym (others k differs) ∙ is_none))
        ];
        counted = omega (arith, those, sound.counted, length-append freed (key ∷ []));
        has_room = omega (arith, all, sound.has_room);
      }

  -- a value is put under a key that wasn't used
  pub sound_created : (old new : List (Option (Option T))) (freed : List ℕ) (room more : ℕ) (class : Class) (key : ℕ) (value : T) →
      key < size class → get_or old key None ≡ None → get_or new key None ≡ Some (Some value) → ((other : ℕ) → other ≢ key → get_or new other None ≡ get_or old other None) →
      count_by is_some old + 1 ≤ more → IsSound old freed room class → IsSound new freed more class
  sound_created old new freed room more class key value below was is others fits sound =
      let same_freed : (k : ℕ) → is_freed (get_or new k None) ≡ is_freed (get_or old k None) =
      λ k. elim (cases_eq k key) [ inl same ↦ rw (same, was, is) refl | inr differs ↦ ap is_freed (others k differs) ] in
      let those = count_same is_freed new old None refl same_freed in
      let all : count_by is_some new ≡ count_by is_some old + 1 =
      count_more is_some old new None key refl (rw was refl) (rw is refl) (λ k differs. ap is_some (sym (others k differs))) in
      record {
        is_class = sound.is_class;
        within = λ k some. elim (cases_eq k key) [
          | inl same ↦ rw same below
          | inr differs ↦ sound.within k (sym (ap is_some (others k differs)) ∙ some)
        ];
        listed = λ k is_none. let h : is_freed (get_or new k None) ≡ true = rw is_none refl in sound.listed k (freed_is (get_or old k None) (sym (same_freed k) ∙ h));
        counted = sound.counted ∙ sym those;
        has_room = omega (arith, all, fits);
      }

  is_freed-some : (value : Option T) → is_freed (Some value) ≡ not (is_some value)
  is_freed-some None = refl
  is_freed-some (Some value) = refl

  -- a write at a key that is used keeps which keys are used
  pub used_replaced : (s : Slab (Option T)) (key : ℕ) (old new : Option T) → get s key ≡ Some old → (k : ℕ) → is_some (get_or (with_value s key new).slots k None) ≡ is_some (get_or s.slots k None)
  used_replaced s key old new was k =
      let updates = Updates-with_value s key new (rw was refl) in
      elim (cases_eq k key) [ inl same ↦ rw (same, was, updates.changed) refl | inr differs ↦ ap is_some (updates.others k differs) ]

  -- a value is put in the place of one, or none in the place of none
  pub sound_replaced : (s : Slab (Option T)) (freed : List ℕ) (room : ℕ) (class : Class) (key : ℕ) (old new : Option T) → get s key ≡ Some old → is_some new ≡ is_some old →
      IsSound s.slots freed room class → IsSound (with_value s key new).slots freed room class
  sound_replaced s freed room class key old new was kind sound =
      let updates = Updates-with_value s key new (rw was refl) in
      let freed_too : (k : ℕ) → is_freed (get_or (with_value s key new).slots k None) ≡ is_freed (get_or s.slots k None) =
      λ k. elim (cases_eq k key) [
        | inl same ↦ rw (same, was, updates.changed) (is_freed-some new ∙ ap not kind ∙ sym (is_freed-some old))
        | inr differs ↦ ap is_freed (updates.others k differs)
      ] in
      sound_same s.slots (with_value s key new).slots freed room room class (used_replaced s key old new was) freed_too sound.has_room sound

  pub valued_some : (slot : Option (Option T)) → is_valued slot ≡ true → is_some slot ≡ true
  valued_some None h = h
  valued_some (Some value) h = refl

  valued_not_freed : (slot : Option (Option T)) → is_valued slot ≡ true → is_freed slot ≡ false
  valued_not_freed None h = refl
  valued_not_freed (Some None) h = absurd (false≢true h)
  valued_not_freed (Some (Some value)) h = refl

  -- a value and its place are taken away
  pub sound_withdrawn : (old new : List (Option (Option T))) (freed : List ℕ) (room : ℕ) (class : Class) (key : ℕ) →
      is_valued (get_or old key None) ≡ true → get_or new key None ≡ None → ((other : ℕ) → other ≢ key → get_or new other None ≡ get_or old other None) →
      IsSound old freed room class → IsSound new freed room class
  sound_withdrawn old new freed room class key was is others sound =
      let same_freed : (k : ℕ) → is_freed (get_or new k None) ≡ is_freed (get_or old k None) =
      λ k. elim (cases_eq k key) [
        | inl same ↦ rw (same, is) (sym (valued_not_freed (get_or old key None) was))
        | inr differs ↦ ap is_freed (others k differs)
      ] in
      let those = count_same is_freed new old None refl same_freed in
      let all : count_by is_some old ≡ count_by is_some new + 1 =
      count_more is_some new old None key refl (rw is refl) (valued_some (get_or old key None) was) (λ k differs. ap is_some (others k differs)) in
      record {
        is_class = sound.is_class;
        within = λ k some. elim (cases_eq k key) [
          | inl same ↦ let h : is_some (get_or new key None) ≡ true = rw same at some in let no : false ≡ true = rw is at h in absurd (false≢true no)
          | inr differs ↦ sound.within k (sym (ap is_some (others k differs)) ∙ some)
        ];
        listed = λ k is_none. let h : is_freed (get_or new k None) ≡ true = rw is_none refl in sound.listed k (freed_is (get_or old k None) (sym (same_freed k) ∙ h));
        counted = sound.counted ∙ sym those;
        has_room = omega (arith, all, sound.has_room);
      }
