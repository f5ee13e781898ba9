-- The limits of some entries are those of their outlines.
use Rattle.std.proofs.Common.{◌≡◌, ◌∙◌, ◌+◌, cond, ℕ, zero, suc, Bool, true, false, List, [], ◌∷◌, map, Option, Some, None, refl, sym, ap, length, nat_lt, true≢false, Result, Ok, Err}
use Rattle.std.specs.Prelude.{◌==◌, ◌||◌, option_map, unwrap_or, is_some, if◌then◌else◌}
use Rattle.std.specs.List.{list_any}
use Rattle.std.proofs.lemmas.List.Sums.{sum_by-cons}
use Rattle.mg_model.specs.Script.{Script}
use Rattle.entry_table.specs.Listed.{Listed}
use Rattle.certificate.specs.Certificate.{Answers, listed_meant, checked, checked_or, unread_by, has_empty, is_large, has_crowd, entries_for, some_below}
use Rattle.certificate.specs.Outlines.{outline_of, outline_meant, limit_passed, outlined_for, has_crowd_in}
use Rattle.typed_values.specs.Shape.{Misses, each, ◌>>=◌}
use Rattle.typed_values.specs.declared.missing.Missing.{Missing}
use Rattle.typed_values.specs.declared.missing.Missing.TheVariants.{Nothing, Memory}
use Rattle.certificate.specs.Written as written
use Rattle.certificate.specs.declared.fault.CertFault.{CertFault}
use Rattle.certificate.specs.declared.fault.CertFault.TheVariants.{EmptySet, TooManyEntries, TooManyPoints}
use Rattle.certificate.specs.declared.outline.Outline.{Outline}

-- what is meant of each entry, outlined, is the outline meant of each
bound : {A B C D : Type 0} (g : A → B) (h : C → D) (join : A → C → C) (join' : B → D → D)
    → ((a : A) (c : C) → join' (g a) (h c) ≡ h (join a c)) → (o : Option A) (p : Option C)
    → (option_map g o >>= λ b. option_map h p >>= λ d. Some (join' b d)) ≡ option_map h (o >>= λ a. p >>= λ c. Some (join a c))
bound g h join join' law None p = refl
bound g h join join' law (Some a) None = refl
bound g h join join' law (Some a) (Some c) = ap (λ d. Some d) (law a c)

pub each_outlined : (script : Script) (entries : List written.Entry)
    → each (outline_meant script) entries ≡ option_map (map outline_of) (each (listed_meant script) entries)
each_outlined script [] = refl
each_outlined script (entry ∷ entries) =
    ap (λ o. outline_meant script entry >>= λ x. o >>= λ xs. Some (x ∷ xs)) (each_outlined script entries)
    ∙ bound outline_of (map outline_of) (λ x xs. x ∷ xs) (λ x xs. x ∷ xs) (λ a c. refl) (listed_meant script entry) (each (listed_meant script) entries)

any_outlined : (p : Outline → Bool) (entries : List Listed) → list_any p (map outline_of entries) ≡ list_any (λ entry. p (outline_of entry)) entries
any_outlined p [] = refl
any_outlined p (entry ∷ entries) = ap (λ b. p (outline_of entry) || b) (any_outlined p entries)

counted : (state : ℕ) (entries : List Listed) → outlined_for (map outline_of entries) state ≡ entries_for entries state
counted state [] = refl
counted state (entry ∷ entries) =
    sum_by-cons (λ outline. cond (outline.state == state) 1 0) (outline_of entry) (map outline_of entries)
    ∙ ap (λ n. cond (entry.state == state) 1 0 + n) (counted state entries)
    ∙ sym (sum_by-cons (λ other. cond (other.state == state) 1 0) entry entries)

below : (p q : ℕ → Bool) → ((n : ℕ) → p n ≡ q n) → (n : ℕ) → some_below n p ≡ some_below n q
below p q same zero = refl
below p q same (suc n) = ap (λ b. b || p n) (below p q same n) ∙ ap (λ b. some_below n q || b) (same n)

crowd_outlined : (script : Script) (entries : List Listed) → has_crowd_in script (map outline_of entries) ≡ has_crowd script entries
crowd_outlined script entries =
    below (λ state. nat_lt 256 (outlined_for (map outline_of entries) state)) (λ state. nat_lt 256 (entries_for entries state))
    (λ state. ap (nat_lt 256) (counted state entries)) (length script.states)

-- the first fault, or the entries
abbrev or_fault : List Listed → Option CertFault → Result (List Listed) CertFault
or_fault entries None = Ok entries
or_fault entries (Some fault) = Err fault

tests_agree : (a b c : Bool) (entries : List Listed)
    → (if a then Err EmptySet else if b then Err TooManyEntries else if c then Err TooManyPoints else Ok entries)
    ≡ or_fault entries (if a then Some EmptySet else if b then Some TooManyEntries else if c then Some TooManyPoints else None)
tests_agree true b c entries = refl
tests_agree false true c entries = refl
tests_agree false false true entries = refl
tests_agree false false false entries = refl

-- where the entries are within the limits
none_passed : (a b c : Bool) → (if a then Some EmptySet else if b then Some TooManyEntries else if c then Some TooManyPoints else None) ≡ None
    → (a ≡ false) × (c ≡ false)
none_passed true b c e = absurd (true≢false (ap is_some e))
none_passed false true c e = absurd (true≢false (ap is_some e))
none_passed false false true e = absurd (true≢false (ap is_some e))
none_passed false false false e = (refl, refl)

module _ (script : Script) where
  abbrev passed_of : List Listed → Option CertFault
  passed_of entries =
      if list_any has_empty entries then Some EmptySet
      else if has_crowd script entries then Some TooManyEntries
      else if list_any is_large entries then Some TooManyPoints
      else None

  passed_is : (entries : List Listed) → limit_passed script (map outline_of entries) ≡ passed_of entries
  passed_is entries =
      rw (any_outlined (λ outline. outline.is_empty) entries, crowd_outlined script entries, any_outlined (λ outline. outline.is_large) entries) refl

  pub refused : (meant : Option (List Listed)) (outlines : List Outline) (fault : CertFault) → option_map (map outline_of) meant ≡ Some outlines
      → limit_passed script outlines ≡ Some fault → checked_or script meant ≡ Err fault
  refused None outlines fault e passed = absurd (true≢false (sym (ap is_some e)))
  refused (Some entries) outlines fault e passed =
      let same : map outline_of entries ≡ outlines = ap (λ o. unwrap_or o outlines) e in
      let found : passed_of entries ≡ Some fault = sym (passed_is entries) ∙ ap (limit_passed script) same ∙ passed in
      tests_agree (list_any has_empty entries) (has_crowd script entries) (list_any is_large entries) entries ∙ ap (or_fault entries) found

  pub within : (meant : Option (List Listed)) (outlines : List Outline) (entries : List Listed) → option_map (map outline_of) meant ≡ Some outlines
      → limit_passed script outlines ≡ None → meant ≡ Some entries
      → (list_any has_empty entries ≡ false) × (list_any is_large entries ≡ false) × (checked script entries ≡ Ok entries)
  within meant outlines entries e passed is =
      let outlined : option_map (map outline_of) (Some entries) ≡ Some outlines = ap (option_map (map outline_of)) (sym is) ∙ e in
      let same : map outline_of entries ≡ outlines = ap (λ o. unwrap_or o outlines) outlined in
      let found : passed_of entries ≡ None = sym (passed_is entries) ∙ ap (limit_passed script) same ∙ passed in
      let small = none_passed (list_any has_empty entries) (has_crowd script entries) (list_any is_large entries) found in
      (small.0, small.1, tests_agree (list_any has_empty entries) (has_crowd script entries) (list_any is_large entries) entries ∙ ap (or_fault entries) found)

  -- a name of an outline is unknown where it is one of the entry's
  pub unknown : (meant : Option (List Listed)) (missing : Missing) → Misses missing (option_map (map outline_of) meant)
      → Answers (λ (entries : List Listed). entries) (Err (unread_by missing)) (checked_or script meant)
  unknown None Nothing e = refl
  unknown (Some entries) Nothing e = absurd (true≢false (ap is_some e))
  unknown meant Memory e = tt

  -- so it is where one of an entry's own is
  pub unlisted : (meant : Option (List Listed)) (missing : Missing) → Misses missing meant
      → Answers (λ (entries : List Listed). entries) (Err (unread_by missing)) (checked_or script meant)
  unlisted None Nothing e = refl
  unlisted (Some entries) Nothing e = absurd (true≢false (ap is_some e))
  unlisted meant Memory e = tt
