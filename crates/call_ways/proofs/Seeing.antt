-- What configurations and steps one after the other show.
use Rattle.std.proofs.Common.{◌≡◌, ◌∙◌, ℕ, ◌<◌, ◌≤◌, List, Some, length, refl, sym, subst, arith, Result, Ok, Err, IfOk, rules}
use Rattle.std.specs.List.{slice_get, slice_index_or}
use Rattle.std.proofs.lemmas.List.{length-map}
use Rattle.std.proofs.lemmas.Option.{same_Some, slice_get_read, slice_get_within}
use Rattle.mg_model.specs.Script.{Script}
use Rattle.mg_model.specs.Steps.{Step as ModelStep}
use Rattle.configuration.specs.Packed.{Words}
use Rattle.configuration.specs.Config.{configuration_of}
use Rattle.configuration.specs.declared.step.Step.{Step}
use Rattle.closure.specs.Shown.{shown}
use Rattle.call_ways.proofs.Shown.{shown_at, shown_step}
use Rattle.call_ways.specs.declared.sights.Sight.{Sight}
use Rattle.call_ways.specs.Seen.{IsSeenAt, LeadsAway}
use Rattle.call_ways.specs.Warnings.{Shows}

pub if_ok : {T E : Type 0} (r : Result T E) (P Q : T → Type 0) → ((x : T) → P x → Q x) → IfOk r P → IfOk r Q
if_ok (Ok x) P Q more is = more x is
if_ok (Err e) P Q more is = search rules

-- ---- configurations

module _ (script : Script) (configs : List Words) (what : Sight) (i : ℕ) (config : Words) (within : i < length configs)
    (is : config ≡ slice_index_or configs i config) where
  here : slice_get configs i ≡ Some config
  here = slice_get_read configs (length configs) i config refl within is

  pub unseen_here : (Shows script (configuration_of config) what → ⊥) → IsSeenAt script configs what i → ⊥
  unseen_here not_so seen =
      let same : config ≡ seen.0 = same_Some config seen.0 (sym here ∙ seen.1.0) in
      not_so (subst (λ (w : Words). Shows script (configuration_of w) what) (sym same) seen.1.1)

pub seen_within : (script : Script) (configs : List Words) (what : Sight) (n k : ℕ) → length configs ≤ n → IsSeenAt script configs what k → k < n
seen_within script configs what n k past seen =
    let within : k < length configs = slice_get_within configs k seen.0 seen.1.0 in
    omega (arith, within, past)

-- ---- steps

module _ (steps : List Step) (state i : ℕ) (step : Step) (within : i < length steps) (is : step ≡ slice_index_or steps i step) where
  pub away_here : ((configuration_of step.result).state ≡ state → ⊥) → LeadsAway (shown steps) state i
  away_here other = (shown_step step, (shown_at steps i step within is, other))

  pub stays_here : (configuration_of step.result).state ≡ state → LeadsAway (shown steps) state i → ⊥
  stays_here same away =
      let alike : shown_step step ≡ away.0 = same_Some (shown_step step) away.0 (sym (shown_at steps i step within is) ∙ away.1.0) in
      away.1.1 (subst (λ (s : ModelStep). s.1.state ≡ state) alike same)

pub away_within : (steps : List Step) (state n k : ℕ) → length steps ≤ n → LeadsAway (shown steps) state k → k < n
away_within steps state n k past away =
    let within : k < length (shown steps) = slice_get_within (shown steps) k away.0 away.1.0 in
    omega (arith, within, past, length-map steps shown_step)
