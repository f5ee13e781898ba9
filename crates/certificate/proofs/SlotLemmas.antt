-- What is found of some rows for each slot is what the rows give it.
use Rattle.std.proofs.Common.{◌≡◌, ◌∙◌, ◌<◌, ℕ, zero, suc, List, [], ◌∷◌, Bool, true, false, cond, map, Option, Some, None, option_map, refl, sym, ap, arith, true≢false}
use Rattle.std.specs.Prelude.{◌==◌, find, is_some, unwrap_or, option_and_then}
use Rattle.std.specs.List.{list_all}
use Rattle.script_table.specs.Table.{place_of}
use Rattle.certificate.specs.Components.{is_slot}
use Rattle.certificate.specs.FoundRows.{FindsSlots, Slots, at_slot, first_of, none_found, with_row, with_rows}
use Rattle.certificate.specs.Naming.{or_else}
use Rattle.certificate.specs.Written.{Text}
use Rattle.certificate.specs.declared.reads.Row.{Row}
use Rattle.certificate.proofs.RowLemmas.{rows_found, rows_tested}

module _ {A : Type 0} where
  -- one more row
  added : (found : Slots A) (place : ℕ) (value : A) (slot : ℕ) → slot < 4
      → at_slot (with_row found place value) slot ≡ first_of (at_slot found slot) (place == slot) value
  added found place value zero few = refl
  added found place value (suc zero) few = refl
  added found place value (suc (suc zero)) few = refl
  added found place value (suc (suc (suc zero))) few = refl
  added found place value (suc (suc (suc (suc more)))) few = absurd (omega (arith, few))

  or_none : (found : Option A) → or_else found None ≡ found
  or_none None = refl
  or_none (Some x) = refl

  kept : (found : Option A) (is_meant : Bool) (row : Row A) (rest : Option (Row A))
      → or_else (first_of found is_meant row.value) (option_map (λ r. r.value) rest)
      ≡ or_else found (option_map (λ r. r.value) (cond is_meant (Some row) rest))
  kept (Some x) is_meant row rest = refl
  kept None true row rest = refl
  kept None false row rest = refl

  module _ (named : Text → Option ℕ) where
    abbrev value_at : ℕ → List (Row A) → Option A
    value_at slot rows = option_map (λ (r : Row A). r.value) (find (λ (r : Row A). is_slot (named r.name) slot) rows)

    found_at : (rows : List (Row A)) (found all : Slots A) (slot : ℕ) → slot < 4 → with_rows named found rows ≡ Some all
        → at_slot all slot ≡ or_else (at_slot found slot) (value_at slot rows)
    found_at [] found all slot few is = ap (λ o. at_slot (unwrap_or o all) slot) (sym is) ∙ sym (or_none (at_slot found slot))
    found_at (row ∷ rows) found all slot few is = go (named row.name) refl (λ more. found_at rows more all slot few) is
      where
        go : (o : Option ℕ) → named row.name ≡ o
            → ((more : Slots A) → with_rows named more rows ≡ Some all → at_slot all slot ≡ or_else (at_slot more slot) (value_at slot rows))
            → option_and_then (λ place. with_rows named (with_row found place row.value) rows) o ≡ Some all
            → at_slot all slot ≡ or_else (at_slot found slot) (value_at slot (row ∷ rows))
        go None named_so rest is' = absurd (true≢false (sym (ap is_some is')))
        go (Some place) named_so rest is' =
            rest (with_row found place row.value) is'
            ∙ ap (λ o. or_else o (value_at slot rows)) (added found place row.value slot few)
            ∙ rw named_so (kept (at_slot found slot) (place == slot) row (find (λ (r : Row A). is_slot (named r.name) slot) rows))

    all_named : (rows : List (Row A)) (found all : Slots A) → with_rows named found rows ≡ Some all
        → list_all (λ (r : Row A). is_some (named r.name)) rows ≡ true
    all_named [] found all is = refl
    all_named (row ∷ rows) found all is = go (named row.name) refl (λ more. all_named rows more all) is
      where
        go : (o : Option ℕ) → named row.name ≡ o
            → ((more : Slots A) → with_rows named more rows ≡ Some all → list_all (λ (r : Row A). is_some (named r.name)) rows ≡ true)
            → option_and_then (λ place. with_rows named (with_row found place row.value) rows) o ≡ Some all
            → list_all (λ (r : Row A). is_some (named r.name)) (row ∷ rows) ≡ true
        go None named_so rest is' = absurd (true≢false (sym (ap is_some is')))
        go (Some place) named_so rest is' = rw named_so (rest (with_row found place row.value) is')

    one_unnamed : (rows : List (Row A)) (found : Slots A) → with_rows named found rows ≡ None
        → list_all (λ (r : Row A). is_some (named r.name)) rows ≡ false
    one_unnamed [] found is = absurd (true≢false (ap is_some is))
    one_unnamed (row ∷ rows) found is = go (named row.name) refl (one_unnamed rows) is
      where
        go : (o : Option ℕ) → named row.name ≡ o
            → ((more : Slots A) → with_rows named more rows ≡ None → list_all (λ (r : Row A). is_some (named r.name)) rows ≡ false)
            → option_and_then (λ place. with_rows named (with_row found place row.value) rows) o ≡ None
            → list_all (λ (r : Row A). is_some (named r.name)) (row ∷ rows) ≡ false
        go None named_so rest is' = rw named_so refl
        go (Some place) named_so rest is' = rw named_so (rest (with_row found place row.value) is')

  -- the rows of an entry
  pub finds_slots : (names : List Text) (rows : List (Row A)) (found : Option (Slots A)) → found ≡ with_rows (λ name. place_of name names) none_found rows
      → FindsSlots names (map (λ (r : Row A). (r.name, r.value)) rows) found
  finds_slots names rows None is =
      sym (rows_tested (λ name. is_some (place_of name names)) rows) ∙ one_unnamed (λ name. place_of name names) rows none_found (sym is)
  finds_slots names rows (Some found) is = (
    sym (rows_tested (λ name. is_some (place_of name names)) rows) ∙ all_named (λ name. place_of name names) rows none_found found (sym is),
    λ slot few. found_at (λ name. place_of name names) rows none_found found slot few (sym is) ∙ none_before slot few (value_at (λ name. place_of name names) slot rows)
        ∙ rows_found (λ name. is_slot (place_of name names) slot) rows,
  )
    where
      none_before : (slot : ℕ) → slot < 4 → (rest : Option A) → or_else (at_slot none_found slot) rest ≡ rest
      none_before zero few rest = refl
      none_before (suc zero) few rest = refl
      none_before (suc (suc zero)) few rest = refl
      none_before (suc (suc (suc zero))) few rest = refl
      none_before (suc (suc (suc (suc more)))) few rest = absurd (omega (arith, few))
