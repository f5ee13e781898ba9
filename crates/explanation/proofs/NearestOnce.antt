-- There is one nearest entry.
use Rattle.std.proofs.Common.{◌≡◌, ◌∙◌, ℕ, List, Some, inl, inr, sym, subst, arith}
use Rattle.std.specs.List.{slice_get}
use Rattle.std.proofs.lemmas.Bool.{cases_lt}
use Rattle.std.proofs.lemmas.Option.{same_Some}
use Rattle.mg_model.specs.Configuration.{Configuration}
use Rattle.mg_model.specs.Entries.{Entry}
use Rattle.explanation.specs.Alone.{AreTooWide, NoneWidens}
use Rattle.explanation.specs.Nearest.{HasNone, IsNearest}

module _ (entries : List Entry) (c : Configuration) (place other : ℕ) where
  -- two that are nearest lack as much
  pub missing_once : (one two : ℕ) → IsNearest entries c place one → IsNearest entries c other two → one ≡ two
  missing_once one two p q =
      let fewer = p.least other q.entry two q.at_place q.of_state q.lacks in
      let more = q.least place p.entry one p.at_place p.of_state p.lacks in
      omega (arith, fewer, more)

  -- and they are one
  pub place_once : (missing : ℕ) → IsNearest entries c place missing → IsNearest entries c other missing → place ≡ other
  place_once missing p q = elim (cases_lt place other) [
    | inl before ↦ (let fewer = q.first place p.entry missing before p.at_place p.of_state p.lacks in absurd (omega (arith, fewer)))
    | inr past ↦ elim (cases_lt other place) [
      | inl after ↦ (let fewer = p.first other q.entry missing after q.at_place q.of_state q.lacks in absurd (omega (arith, fewer)))
      | inr same ↦ omega (arith, past, same)
    ]
  ]

  -- none but one that lacks one value alone
  pub none_other : (missing : ℕ) → IsNearest entries c place missing → (missing ≡ 1 → ⊥) → IsNearest entries c other 1 → ⊥
  none_other missing is more one = more (missing_once missing 1 is one)

module _ (entries : List Entry) (c : Configuration) where
  pub none_nearest : (place missing : ℕ) → HasNone entries c.state → IsNearest entries c place missing → ⊥
  none_nearest place missing none is = none place is.entry is.at_place is.of_state

  -- what the entry at a place would get too many points by
  abbrev pub IsTooWideAt : ℕ → Type 0
  IsTooWideAt place = (entry : Entry) → slice_get entries place ≡ Some entry → entry.state ≡ c.state → AreTooWide c entry.components

  pub none_widens : (place : ℕ) → IsNearest entries c place 1 → IsTooWideAt place → NoneWidens entries c
  none_widens place here wide other entry at is =
      let same : other ≡ place = place_once entries c other place 1 is here in
      let there : slice_get entries place ≡ Some entry = subst (λ (n : ℕ). slice_get entries n ≡ Some entry) same at in
      let one : entry ≡ here.entry = same_Some entry here.entry (sym there ∙ here.at_place) in
      wide entry there (subst (λ (e : Entry). e.state ≡ c.state) (sym one) here.of_state)
