-- The nearest entry among those that were passed.
use Rattle.std.proofs.Common.{◌≡◌, ◌∙◌, ◌+◌, ◌<◌, ◌≤◌, ℕ, nat_lt, Bool, true, false, if◌then◌else◌, List, length, Option, Some, None, IfSome, IfNone, inl, inr, sym, ap, subst, refl, arith, rules}
use Rattle.std.specs.List.{slice_get}
use Rattle.std.proofs.lemmas.Bool.{cases_lt, ltb-true, ltb-false}
use Rattle.std.proofs.lemmas.Option.{same_Some, slice_get_within}
use Rattle.mg_model.specs.Configuration.{Configuration}
use Rattle.mg_model.specs.Entries.{Entry}
use Rattle.explanation.specs.declared.nearest.Nearest.{Nearest}
use Rattle.explanation.specs.Nearest.{Lack, HasNone, IsNearest, nearer_of}
use Rattle.explanation.proofs.Lacks.{lack_once}

-- what was found is of the state, lacks so many, and of those passed none lacks fewer, nor one before it as few
pub record IsFound (entries : List Entry) (c : Configuration) (passed : ℕ) (found : Nearest) : Type 0 where
  pub entry : Entry
  pub at_place : slice_get entries found.place ≡ Some entry
  pub of_state : entry.state ≡ c.state
  pub lacks : Lack c entry.components found.missing
  pub below : found.place < passed
  pub least : (other : ℕ) (rival : Entry) (count : ℕ) → other < passed → slice_get entries other ≡ Some rival → rival.state ≡ c.state
      → Lack c rival.components count → found.missing ≤ count
  pub first : (other : ℕ) (rival : Entry) (count : ℕ) → other < found.place → slice_get entries other ≡ Some rival
      → rival.state ≡ c.state → Lack c rival.components count → found.missing < count

abbrev pub IsSoFar : List Entry → Configuration → ℕ → Option Nearest → Type 0
IsSoFar entries c passed None = (other : ℕ) (rival : Entry) → other < passed → slice_get entries other ≡ Some rival → rival.state ≡ c.state → ⊥
IsSoFar entries c passed (Some found) = IsFound entries c passed found

module _ (entries : List Entry) (c : Configuration) (place : ℕ) (entry : Entry) (at : slice_get entries place ≡ Some entry) where
  -- the entry at the place is of another state
  pub passed_over : (found : Option Nearest) → IsSoFar entries c place found → (entry.state ≡ c.state → ⊥) → IsSoFar entries c (place + 1) found
  passed_over None none another = λ other rival lt there of. elim (cases_lt other place) [
    | inl before ↦ none other rival before there of
    | inr past ↦ (
        let here : other ≡ place = omega (arith, lt, past) in
        let same : rival ≡ entry = same_Some rival entry (sym there ∙ ap (slice_get entries) here ∙ at) in
        another (subst (λ (e : Entry). e.state ≡ c.state) same of))
  ]
  passed_over (Some found) is another = record {
    entry = is.entry;
    at_place = is.at_place;
    of_state = is.of_state;
    lacks = is.lacks;
    below = omega (arith, is.below);
    least = λ other rival count lt there of lack. elim (cases_lt other place) [
      | inl before ↦ is.least other rival count before there of lack
      | inr past ↦ (
          let here : other ≡ place = omega (arith, lt, past) in
          let same : rival ≡ entry = same_Some rival entry (sym there ∙ ap (slice_get entries) here ∙ at) in
          absurd (another (subst (λ (e : Entry). e.state ≡ c.state) same of)))
    ];
    first = is.first;
  }

  module _ (missing : ℕ) (of_state : entry.state ≡ c.state) (lacks : Lack c entry.components missing) where
    -- what an entry at the place lacks is what this one lacks
    lacks_here : (other : ℕ) (rival : Entry) (count : ℕ) → other < place + 1 → place ≤ other → slice_get entries other ≡ Some rival
        → Lack c rival.components count → missing ≡ count
    lacks_here other rival count lt past there lack =
        let here : other ≡ place = omega (arith, lt, past) in
        let same : rival ≡ entry = same_Some rival entry (sym there ∙ ap (slice_get entries) here ∙ at) in
        lack_once c entry.components missing count lacks (subst (λ (e : Entry). Lack c e.components count) same lack)

    taken : ((other : ℕ) (rival : Entry) (count : ℕ) → other < place → slice_get entries other ≡ Some rival → rival.state ≡ c.state
        → Lack c rival.components count → missing < count) → IsFound entries c (place + 1) (record { place = place; missing = missing })
    taken before = record {
      entry = entry;
      at_place = at;
      of_state = of_state;
      lacks = lacks;
      below = omega arith;
      least = λ other rival count lt there of lack. elim (cases_lt other place) [
        | inl earlier ↦ (let fewer = before other rival count earlier there of lack in omega (arith, fewer))
        | inr past ↦ (let same = lacks_here other rival count lt past there lack in omega (arith, same))
      ];
      first = before;
    }

    kept : (found : Nearest) → IsFound entries c place found → found.missing ≤ missing → IsFound entries c (place + 1) found
    kept found is fewer = record {
      entry = is.entry;
      at_place = is.at_place;
      of_state = is.of_state;
      lacks = is.lacks;
      below = omega (arith, is.below);
      least = λ other rival count lt there of lack. elim (cases_lt other place) [
        | inl earlier ↦ is.least other rival count earlier there of lack
        | inr past ↦ (let same = lacks_here other rival count lt past there lack in omega (arith, same, fewer))
      ];
      first = is.first;
    }

    choose : (found : Nearest) → IsFound entries c place found → (b : Bool) → nat_lt missing found.missing ≡ b
        → IsFound entries c (place + 1) (if b then record { place = place; missing = missing } else found)
    choose found is true e = taken (λ other rival count lt there of lack.
        let fewer : missing < found.missing = ltb-true missing found.missing e in
        let least = is.least other rival count lt there of lack in omega (arith, least, fewer))
    choose found is false e = kept found is (ltb-false missing found.missing e)

    pub one_more : (found : Option Nearest) → IsSoFar entries c place found
        → IsFound entries c (place + 1) (nearer_of found (record { place = place; missing = missing }))
    one_more None none = taken (λ other rival count lt there of lack. absurd (none other rival lt there of))
    one_more (Some found) is = choose found is (nat_lt missing found.missing) refl

-- all were passed
at_end : (entries : List Entry) (c : Configuration) (passed : ℕ) (found : Nearest) → length entries ≤ passed → IsFound entries c passed found
    → IsNearest entries c found.place found.missing
at_end entries c passed found all is = record {
  entry = is.entry;
  at_place = is.at_place;
  of_state = is.of_state;
  lacks = is.lacks;
  least = λ other rival count there of lack.
      let within = slice_get_within entries other rival there in is.least other rival count (omega (arith, all, within)) there of lack;
  first = is.first;
}

none_at_end : (entries : List Entry) (c : Configuration) (passed : ℕ) → length entries ≤ passed → IsSoFar entries c passed None → HasNone entries c.state
none_at_end entries c passed all none = λ other rival there of.
    let within = slice_get_within entries other rival there in none other rival (omega (arith, all, within)) there of

-- what was found once all were passed
pub some_at_end : (entries : List Entry) (c : Configuration) (passed : ℕ) (found : Option Nearest) → length entries ≤ passed
    → IsSoFar entries c passed found → IfSome found (λ nearest. IsNearest entries c nearest.place nearest.missing)
some_at_end entries c passed None all is = search rules
some_at_end entries c passed (Some found) all is = at_end entries c passed found all is

pub else_at_end : (entries : List Entry) (c : Configuration) (passed : ℕ) (found : Option Nearest) → length entries ≤ passed
    → IsSoFar entries c passed found → IfNone found (HasNone entries c.state)
else_at_end entries c passed None all is = none_at_end entries c passed all is
else_at_end entries c passed (Some found) all is = search rules
