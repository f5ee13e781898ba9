-- An entry that gets one configuration after the other.
use Rattle.std.proofs.Common.{◌≡◌, ◌∙◌, ℕ, ◌+◌, ◌<◌, ◌≤◌, inl, inr, List, Option, Some, length, refl, sym, ap, subst, arith}
use Rattle.std.specs.List.{slice_get, slice_index_or}
use Rattle.std.proofs.lemmas.Bool.{cases_lt}
use Rattle.std.proofs.lemmas.Option.{same_Some, slice_get_read, slice_get_within}
use Rattle.mg_model.specs.Script.{Script}
use Rattle.mg_model.specs.Configuration.{Configuration}
use Rattle.mg_model.specs.Entries.{Entry, Includes}
use Rattle.configuration.specs.Packed.{Words}
use Rattle.configuration.specs.Config.{configuration_of}
use Rattle.call_ways.specs.Ways.{AreAll, ComesTo}
use Rattle.explanation.specs.Parts.{HoldsEach, IsHeld, IsOfState}

module _ (entry : Entry) (configs : List Words) where
  -- of the entry's configurations each that was passed is held
  pub record HoldsBelow (found : Option Entry) (index : ℕ) : Type 0 where
    pub state : IsOfState entry found
    pub holds : (place : ℕ) (w : Words) → place < index → slice_get configs place ≡ Some w → Includes entry (configuration_of w)
        → IsHeld found (configuration_of w)

  pub one_more : (found more : Option Entry) (index : ℕ) (w : Words) → index < length configs
      → w ≡ slice_index_or configs index w → HoldsBelow found index
      → (Includes entry (configuration_of w) → IsHeld more (configuration_of w))
      → ((c : Configuration) → Includes entry c → IsHeld found c → IsHeld more c)
      → IsOfState entry more → HoldsBelow more (index + 1)
  one_more found more index w within is before has keeps state = record {
    state = state;
    holds = λ place v below at included.
        elim (cases_lt place index) [
          | inl earlier ↦ keeps (configuration_of v) included (before.holds place v earlier at included)
          | inr past ↦ (
              let here : place ≡ index = omega (arith, below, past) in
              let there : slice_get configs index ≡ Some w = slice_get_read configs (length configs) index w refl within is in
              let same : w ≡ v = same_Some w v (sym there ∙ ap (slice_get configs) (sym here) ∙ at) in
              subst (λ (u : Words). IsHeld more (configuration_of u)) same
              (has (subst (λ (u : Words). Includes entry (configuration_of u)) (sym same) included)))
        ];
  }

  pub holds_all : (found : Option Entry) (index : ℕ) → length configs ≤ index → HoldsBelow found index → HoldsEach entry configs found
  holds_all found index past below = λ place w at included.
      let within : place < length configs = slice_get_within configs place w at in
      below.holds place w (omega (arith, within, past)) at included

  -- of the entry's configurations each that a call comes to is held
  pub holds_come : (script : Script) (entries : List Entry) (place : ℕ) (found : Option Entry) → slice_get entries place ≡ Some entry
      → AreAll script entries configs → HoldsEach entry configs found → (other : Entry) → slice_get entries place ≡ Some other
      → (c : Configuration) → ComesTo script entries c → Includes other c → IsHeld found c
  holds_come script entries place found here all each other there c comes included =
      let at = all.all c comes in
      let same : other ≡ entry = same_Some other entry (sym there ∙ here) in
      let has : Includes entry c = subst (λ (e : Entry). Includes e c) same included in
      subst (IsHeld found) at.1.1.1 (each at.0 at.1.0 at.1.1.0 (subst (Includes entry) (sym at.1.1.1) has))
