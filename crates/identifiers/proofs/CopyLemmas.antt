-- Clones of the slots tell the same of each number.
use Rattle.std.proofs.Common.{◌≡◌, ℕ, zero, suc, List, [], ◌∷◌, get_or, Option, Some, None, is_some, refl, inl, inr}
use Rattle.std.proofs.lemmas.Bool.{cases_Bool}
use Rattle.std.specs.List.{AllZip}
use Rattle.std.specs.Option.{MatchOption, IsSomeAnd}
use Rattle.slab.specs.Slab.{IsSlotClone}
use Rattle.identifiers.specs.declared.class.Class.{Class}
use Rattle.identifiers.specs.Class.{is_number, key_of}
use Rattle.identifiers.specs.Stock.{is_freed, value_in}
use Rattle.identifiers.proofs.SlotLemmas.{told}

module _ {T : Type 0} (is_clone : T → T → Type 0) where
  -- both have no value, or the second has a clone of the first's
  abbrev pub IsValueClone : Option T → Option T → Type 0
  IsValueClone value copy = MatchOption value (copy ≡ None) (λ v. IsSomeAnd copy (is_clone v))

  pub record IsKept (slot copy : Option (Option T)) : Type 0 where
    pub used : is_some copy ≡ is_some slot
    pub freed : is_freed copy ≡ is_freed slot
    pub value : IsValueClone (value_in slot) (value_in copy)

  abbrev pub IsWeaker : (Option T → Option T → Type 0) → Type 0
  IsWeaker kept = (value copy : Option T) → kept value copy → IsValueClone value copy

  value_kept : (value copy : Option T) → IsValueClone value copy → IsKept (Some value) (Some copy)
  value_kept None copy clone = rw clone (record { used = refl; freed = refl; value = refl })
  value_kept (Some v) None clone = absurd clone
  value_kept (Some v) (Some w) clone = record { used = refl; freed = refl; value = clone }

  slot_kept : (kept : Option T → Option T → Type 0) → IsWeaker kept → (slot copy : Option (Option T)) → IsSlotClone kept slot copy → IsKept slot copy
  slot_kept kept weaker None copy clone = rw clone (record { used = refl; freed = refl; value = refl })
  slot_kept kept weaker (Some value) None clone = absurd clone
  slot_kept kept weaker (Some value) (Some copy) clone = value_kept value copy (weaker value copy clone)

  pub slots_kept : (kept : Option T → Option T → Type 0) → IsWeaker kept → (slots copies : List (Option (Option T))) → AllZip (IsSlotClone kept) slots copies →
      (k : ℕ) → IsKept (get_or slots k None) (get_or copies k None)
  slots_kept kept weaker [] [] clones k = record { used = refl; freed = refl; value = refl }
  slots_kept kept weaker [] (copy ∷ copies) clones k = absurd clones
  slots_kept kept weaker (slot ∷ slots) [] clones k = absurd clones
  slots_kept kept weaker (slot ∷ slots) (copy ∷ copies) clones zero = slot_kept kept weaker slot copy clones.0
  slots_kept kept weaker (slot ∷ slots) (copy ∷ copies) clones (suc k) = slots_kept kept weaker slots copies clones.1 k

  pub told_clone : (class : Class) (slots copies : List (Option (Option T))) → ((k : ℕ) → IsKept (get_or slots k None) (get_or copies k None)) → (n : ℕ) →
      IsValueClone (told value_in class slots n) (told value_in class copies n)
  told_clone class slots copies kept n =
      elim (cases_Bool (is_number class n)) [
        | inl is ↦ rw is ((kept (key_of class n)).value)
        | inr none ↦ rw none refl
      ]
