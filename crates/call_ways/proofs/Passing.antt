-- What configurations one after the other have.
use Rattle.std.proofs.Common.{◌≡◌, ◌∙◌, ◌↔◌, ℕ, ◌<◌, ◌≤◌, nat_lt, IsTrue, List, [], ◌∷◌, Some, length, refl, sym, ap, subst, arith, rules}
use Rattle.std.specs.Prelude.{option_map}
use Rattle.std.specs.List.{slice_get, slice_index_or}
use Rattle.std.proofs.lemmas.List.{length-map}
use Rattle.std.proofs.lemmas.Option.{none-some, same_Some, slice_get-map, slice_get_read, slice_get_within}
use Rattle.mg_model.specs.Configuration.{Configuration}
use Rattle.configuration.specs.Packed.{Words}
use Rattle.configuration.specs.Config.{configuration_of}
use Rattle.call_ways.specs.Crossed.{values_of}
use Rattle.call_ways.specs.Passing.{IsAny, IsSoIn, SomeIsSo}

pub value_at : (configs : List Words) (i : ℕ) (config : Words) → i < length configs → config ≡ slice_index_or configs i config
    → slice_get (values_of configs) i ≡ Some (configuration_of config)
value_at configs i config within is =
    slice_get-map configuration_of configs i ∙ ap (option_map configuration_of) (slice_get_read configs (length configs) i config refl within is)

module _ (P : Configuration → Type 0) (configs : List Words) where
  pub is_here : (i : ℕ) (config : Words) → i < length configs → config ≡ slice_index_or configs i config → P (configuration_of config)
      → IsSoIn P (values_of configs) i
  is_here i config within is so = (configuration_of config, (value_at configs i config within is, so))

  pub not_here : (i : ℕ) (config : Words) → i < length configs → config ≡ slice_index_or configs i config → (P (configuration_of config) → ⊥)
      → IsSoIn P (values_of configs) i → ⊥
  not_here i config within is unlike so =
      let same : configuration_of config ≡ so.0 = same_Some (configuration_of config) so.0 (sym (value_at configs i config within is) ∙ so.1.0) in
      unlike (subst P (sym same) so.1.1)

  pub is_within : (n k : ℕ) → length configs ≤ n → IsSoIn P (values_of configs) k → k < n
  is_within n k past so =
      let within : k < length (values_of configs) = slice_get_within (values_of configs) k so.0 so.1.0 in
      omega (arith, within, past, length-map configs configuration_of)

pub any_in : (configs : List Words) → IsTrue (nat_lt 0 (length configs)) ↔ SomeIsSo IsAny (values_of configs)
any_in [] = ((λ bad. absurd (search rules)), (λ some. absurd (none-some some.1.0 some.1.1.0)))
any_in (config ∷ configs) = ((λ _. (0, (configuration_of config, (refl, search rules)))), (λ _. grind arith))
