-- The last configuration of those that were passed that doesn't show what a breach is about; or each of them shows it.
use Rattle.std.proofs.Common.{◌≡◌, ◌∙◌, ◌+◌, ◌<◌, ◌≤◌, ℕ, List, length, Option, Some, None, IfNone, IfSome, inl, inr, sym, ap, subst, arith, rules}
use Rattle.std.specs.List.{slice_get}
use Rattle.std.proofs.lemmas.Bool.{cases_lt}
use Rattle.std.proofs.lemmas.Option.{same_Some, slice_get_within}
use Rattle.mg_model.specs.Configuration.{Configuration}
use Rattle.mg_model.specs.Script.{Script}
use Rattle.explanation.specs.declared.breach.Breach.{Breach}
use Rattle.explanation.specs.Causes.{ShowEach, Shows, IsLastWithout}

module _ (script : Script) (configurations : List Configuration) (breach : Breach) where
  -- of those passed the last that doesn't show it is at this place
  pub record IsFound (passed place : ℕ) : Type 0 where
    pub last : Configuration
    pub at : slice_get configurations place ≡ Some last
    pub without : Shows script last breach → ⊥
    pub behind : (n : ℕ) (c : Configuration) → place < n → n < passed → slice_get configurations n ≡ Some c → Shows script c breach

  -- of those passed each shows it
  abbrev pub AreShown : ℕ → Type 0
  AreShown passed = (n : ℕ) (c : Configuration) → n < passed → slice_get configurations n ≡ Some c → Shows script c breach

  abbrev pub IsSoFar : ℕ → Option ℕ → Type 0
  IsSoFar passed None = AreShown passed
  IsSoFar passed (Some place) = IsFound passed place

  -- none was passed
  pub none_yet : IsSoFar 0 None
  none_yet n c lt there = absurd (omega (arith, lt))

  module _ (place : ℕ) (here : Configuration) (at : slice_get configurations place ≡ Some here) where
    -- one that was passed, or the one that is passed now
    shown_up_to : Shows script here breach → (n : ℕ) (c : Configuration) → n < place + 1 → slice_get configurations n ≡ Some c
        → (n < place → Shows script c breach) → Shows script c breach
    shown_up_to shows n c lt there shown = elim (cases_lt n place) [
      | inl before ↦ shown before
      | inr beyond ↦ (
          let same : n ≡ place = omega (arith, lt, beyond) in
          let is_here : here ≡ c = same_Some here c (sym at ∙ ap (slice_get configurations) (sym same) ∙ there) in
          subst (λ (d : Configuration). Shows script d breach) is_here shows)
    ]

    -- one more that shows it
    pub shown_too : Shows script here breach → (found : Option ℕ) → IsSoFar place found → IsSoFar (place + 1) found
    shown_too shows None each = λ n c lt there. shown_up_to shows n c lt there (λ before. each n c before there)
    shown_too shows (Some other) is = record {
      last = is.last;
      at = is.at;
      without = is.without;
      behind = λ n c past lt there. shown_up_to shows n c lt there (λ before. is.behind n c past before there);
    }

    -- one more that doesn't
    pub found_here : (Shows script here breach → ⊥) → IsFound (place + 1) place
    found_here without = record {
      last = here;
      at = at;
      without = without;
      behind = λ n c past lt there. absurd (omega (arith, past, lt));
    }

  -- all were passed
  pub last_at_end : (passed : ℕ) (found : Option ℕ) → length configurations ≤ passed → IsSoFar passed found
      → IfSome found (IsLastWithout script configurations breach)
  last_at_end passed None all each = search rules
  last_at_end passed (Some place) all is = record {
    last = is.last;
    at = is.at;
    without = is.without;
    behind = λ n c past there. (
        let within : n < length configurations = slice_get_within configurations n c there in
        is.behind n c past (omega (arith, within, all)) there);
  }

  pub none_at_end : (passed : ℕ) (found : Option ℕ) → length configurations ≤ passed → IsSoFar passed found
      → IfNone found (ShowEach script configurations breach)
  none_at_end passed None all each = λ n c there.
      let within : n < length configurations = slice_get_within configurations n c there in
      each n c (omega (arith, within, all)) there
  none_at_end passed (Some place) all is = search rules
