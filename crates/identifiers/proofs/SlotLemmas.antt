-- How a change of one slot changes what each number tells; f is what a slot tells.
use Rattle.std.proofs.Common.{◌≡◌, ◌≢◌, ℕ, cond, List, get_or, Option, Some, None, eqb, refl, inl, inr}
use Rattle.std.proofs.lemmas.Bool.{cases_Bool, cases_eq, eq-eqb, ne_eqb}
use Rattle.identifiers.specs.declared.class.Class.{Class}
use Rattle.identifiers.specs.Class.{is_number, key_of, key_in}
use Rattle.identifiers.proofs.ClassLemmas.{key_in_some, one_number}

module _ {S Y : Type 0} where
  -- what a number tells
  abbrev pub told : (Option S → Y) → Class → List (Option S) → ℕ → Y
  told f class slots n = cond (is_number class n) (f (get_or slots (key_of class n) None)) (f None)

  pub told_same : (f : Option S → Y) (class : Class) (old new : List (Option S)) → ((k : ℕ) → f (get_or new k None) ≡ f (get_or old k None)) → (n : ℕ) → told f class new n ≡ told f class old n
  told_same f class old new same n = rw (same (key_of class n)) refl

  pub told_at : (f : Option S → Y) (class : Class) (slots : List (Option S)) (n key : ℕ) → key_in class n ≡ Some key → told f class slots n ≡ f (get_or slots key None)
  told_at f class slots n key found =
      let facts = key_in_some class n key found in
      rw (facts.0, facts.1) refl

  pub told_changed : (f : Option S → Y) (class : Class) (old new : List (Option S)) (number key : ℕ) (slot : Option S) →
      key_in class number ≡ Some key → get_or new key None ≡ slot → ((other : ℕ) → other ≢ key → get_or new other None ≡ get_or old other None) →
      (n : ℕ) → told f class new n ≡ cond (eqb n number) (f slot) (told f class old n)
  told_changed f class old new number key slot found changed others n =
      let facts = key_in_some class number key found in
      elim (cases_eq n number) [
        | inl same ↦ rw (same, eq-eqb number number refl, facts.0, facts.1, changed) refl
        | inr differs ↦
            let other_number = ne_eqb n number differs in
            rw other_number
            (elim (cases_Bool (is_number class n)) [
              | inl is ↦
                  let other_key : key_of class n ≢ key = λ e. differs (one_number class n number is facts.0 (rw (e, facts.1) refl)) in
                  rw (is, others (key_of class n) other_key) refl
              | inr none ↦ rw none refl
            ])
      ]
