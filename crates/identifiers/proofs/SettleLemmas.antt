-- How far `settle` has come: a slot is what it was, or it was freed and is empty now; and what is freed now is listed still.
use Rattle.std.proofs.Common.{◌≡◌, ◌≢◌, ◌⊎◌, ℕ, false, List, [], ◌∷◌, ◌++◌, get_or, Contains, Option, Some, None, is_some, refl, sym, ap, ◌∙◌, inl, inr, arith}
use Rattle.std.proofs.lemmas.Bool.{cases_eq, cases_Bool}
use Rattle.std.proofs.lemmas.List.Elements.{Contains-append_cases}
use Rattle.slab.proofs.SlabLemmas.{Contains-cons_cases}
use Rattle.identifiers.specs.declared.class.Class.{Class}
use Rattle.identifiers.specs.Class.{is_number, key_of}
use Rattle.identifiers.specs.Stock.{IsSound, is_freed, value_in}
use Rattle.identifiers.proofs.CountLemmas.{count_none, count_same}
use Rattle.identifiers.proofs.SlotLemmas.{told}
use Rattle.identifiers.proofs.SoundLemmas.{is_valued, valued_some, used_split}

-- what is listed and isn't the last one is listed before it
before_last : (freed rest : List ℕ) (key k : ℕ) → freed ≡ rest ++ key ∷ [] → Contains freed k → k ≢ key → Contains rest k
before_last freed rest key k split there differs =
    elim (Contains-append_cases rest (key ∷ []) k (rw split at there)) [
      | inl before ↦ before
      | inr last ↦
          elim (Contains-cons_cases key k [] last) [
            | inl same ↦ absurd (differs (sym same))
            | inr none ↦ absurd (omega (arith, none.1))
          ]
    ]

module _ {T : Type 0} where
  abbrev pub IsEmptied : (old now : Option (Option T)) → Type 0
  IsEmptied old now = (now ≡ old) ⊎ ((old ≡ Some None) × (now ≡ None))

  pub record IsSettling (old now : List (Option (Option T))) (freed : List ℕ) : Type 0 where
    pub kept : (k : ℕ) → IsEmptied (get_or old k None) (get_or now k None)
    pub listed : (k : ℕ) → get_or now k None ≡ Some None → Contains freed k

  pub settling_start : (slots : List (Option (Option T))) (freed : List ℕ) (room : ℕ) (class : Class) → IsSound slots freed room class → IsSettling slots slots freed
  settling_start slots freed room class sound = record { kept = λ k. inl refl; listed = sound.listed }

  -- the last key that is listed isn't freed now
  pub settling_skipped : (old now : List (Option (Option T))) (freed rest : List ℕ) (key : ℕ) → freed ≡ rest ++ key ∷ [] → get_or now key None ≢ Some None → IsSettling old now freed → IsSettling old now rest
  settling_skipped old now freed rest key split other settling = record {
    kept = settling.kept;
    listed = λ k is. before_last freed rest key k split (settling.listed k is) (λ same. other (rw same at is));
  }

  -- the last key that is listed is freed now, and removed
  pub settling_removed : (old now next : List (Option (Option T))) (freed rest : List ℕ) (key : ℕ) → freed ≡ rest ++ key ∷ [] → get_or now key None ≡ Some None →
      get_or next key None ≡ None → ((other : ℕ) → other ≢ key → get_or next other None ≡ get_or now other None) → IsSettling old now freed → IsSettling old next rest
  settling_removed old now next freed rest key split was is others settling = record {
    kept = λ k. elim (cases_eq k key) [
      | inl same ↦
          elim (settling.kept key) [
            | inl stays ↦ let h : get_or old key None ≡ Some None = sym stays ∙ was in rw same (inr (h, is))
            | inr emptied ↦ let h = emptied.1 in absurd (cc)
          ]
      | inr differs ↦ rw (others k differs) (settling.kept k)
    ];
    listed = λ k freed_now.
        let differs : k ≢ key = λ same. (let h : get_or next key None ≡ Some None = rw same at freed_now in cc) in
        before_last freed rest key k split (settling.listed k (sym (others k differs) ∙ freed_now)) differs;
  }

  emptied_value : (old now : Option (Option T)) → IsEmptied old now → value_in now ≡ value_in old
  emptied_value old now kept = elim kept [ inl stays ↦ ap value_in stays | inr emptied ↦ rw (emptied.0, emptied.1) refl ]

  used_value : (slot : Option (Option T)) → slot ≢ Some None → is_some slot ≡ is_valued slot
  used_value None other = refl
  used_value (Some None) other = absurd (other refl)
  used_value (Some (Some value)) other = refl

  freed_none : (slot : Option (Option T)) → slot ≢ Some None → is_freed slot ≡ false
  freed_none None other = refl
  freed_none (Some None) other = absurd (other refl)
  freed_none (Some (Some value)) other = refl

  no_freed : (old now : List (Option (Option T))) → IsSettling old now [] → (k : ℕ) → get_or now k None ≢ Some None
  no_freed old now settled k is = let there = settled.listed k is in omega (arith, there.1)

  -- at the end each value is there still
  pub settled_value : (old now : List (Option (Option T))) → IsSettling old now [] → (k : ℕ) → value_in (get_or now k None) ≡ value_in (get_or old k None)
  settled_value old now settled k = emptied_value (get_or old k None) (get_or now k None) (settled.kept k)

  -- and what is used has a value
  pub settled_used : (old now : List (Option (Option T))) → IsSettling old now [] → (k : ℕ) → is_some (get_or now k None) ≡ is_valued (get_or old k None)
  settled_used old now settled k = used_value (get_or now k None) (no_freed old now settled k) ∙ ap is_some (settled_value old now settled k)

  pub sound_settled : (old now : List (Option (Option T))) (freed : List ℕ) (room : ℕ) (class : Class) → IsSettling old now [] → IsSound old freed room class → IsSound now [] room class
  sound_settled old now freed room class settled sound =
      let none = count_none is_freed now None (λ k. freed_none (get_or now k None) (no_freed old now settled k)) in
      let values = count_same is_valued now old None refl (λ k. ap is_some (settled_value old now settled k)) in
      record {
        is_class = sound.is_class;
        within = λ k some. sound.within k (valued_some (get_or old k None) (sym (settled_used old now settled k) ∙ some));
        listed = settled.listed;
        counted = sym none;
        has_room = omega (arith, none, values, used_split now, used_split old, sound.has_room);
      }

  pub used_settled : (class : Class) (old now : List (Option (Option T))) → IsSettling old now [] → (n : ℕ) → told is_some class now n ≡ is_some (told value_in class old n)
  used_settled class old now settled n =
      elim (cases_Bool (is_number class n)) [
        | inl is ↦ rw is (settled_used old now settled (key_of class n))
        | inr none ↦ rw none refl
      ]
