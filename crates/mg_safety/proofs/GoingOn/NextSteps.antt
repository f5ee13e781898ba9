-- Where the steps of a configuration lead that can be made to happen: a reply to one target, at rest a timer or a receiver to another.
use Rattle.std.proofs.Common.{◌≡◌, ◌∙◌, ◌<◌, ◌⊎◌, ℕ, Bool, true, false, List, [], ◌∷◌, length, Option, Some, None, is_some, refl, ap, subst, inl, inr}
use Rattle.std.specs.Prelude.{Contains, IsTrue, if◌then◌else◌}
use Rattle.std.specs.List.{flat_map, list_any}
use Rattle.std.proofs.lemmas.List.Elements.{Contains-append_cases}
use Rattle.mg_names.specs.declared.kinds.Kind.{Kind}
use Rattle.mg_names.specs.declared.kinds.Kind.TheVariants as kind
use Rattle.mg_names.specs.declared.phases.LinkPhase.{LinkPhase}
use Rattle.mg_names.specs.declared.phases.LinkPhase.TheVariants.{Resting}
use Rattle.mg_model.specs.declared.failures.Failure.{Failure}
use Rattle.mg_model.specs.declared.line_events.Hook.{Hook}
use Rattle.mg_model.specs.declared.line_events.Hook.TheVariants.{On, Off}
use Rattle.mg_model.specs.declared.steps.StepName.{StepName}
use Rattle.mg_model.specs.declared.steps.StepName.TheVariants as names
use Rattle.mg_model.specs.declared.transitions.EventItem.TheVariants as item
use Rattle.mg_model.specs.Configuration.{Configuration}
use Rattle.mg_model.specs.LineEvents.{ListItem, is_hook, kind_of}
use Rattle.mg_model.specs.Script.{Script}
use Rattle.mg_model.specs.Steps.{Step, all_kinds, entering, observation, observations, reply_step, steps_by_link, with_link, with_state}
use Rattle.mg_model.specs.Tables.{items_of, line_places, raises, state_of, target_in}
use Rattle.mg_model.proofs.Cases.{false_not_true, none_is_some}
use Rattle.mg_model.proofs.Single.{any_too, first_in, later_in, none_in, only_one}
use Rattle.mg_safety.specs.Ending.{LeadsIn, StepsBy, can_be_made, is_of_receiver}
use Rattle.mg_safety.proofs.Agents.AgentParts.{led_to}
use Rattle.mg_safety.proofs.Agents.Observing.{below_less}
use Rattle.mg_safety.proofs.Agents.ReplySound.{target_after}
use Rattle.mg_safety.proofs.Invariant.Shown.{list_raises, raises_kind}
use Rattle.mg_safety.proofs.Invariant.Sound.{link_of}

-- what stands in joined lists stands in one of them
from_joined : {X A : Type 0} (f : X → List A) (xs : List X) (a : A) → Contains (flat_map f xs) a → (x : X) × Contains xs x × Contains (f x) a
from_joined f [] a among = absurd (none_in a among)
from_joined f (x ∷ xs) a among = elim (Contains-append_cases (f x) (flat_map f xs) a among) [
  | inl first ↦ (x, first_in x xs, first)
  | inr rest ↦ (let it = from_joined f xs a rest in (it.0, later_in x xs it.0 it.1, it.2))
]

module _ (script : Script) (c : Configuration) where
  -- a step that enters a state
  record IsEntering (by : StepName) (target : Option ℕ) (name : StepName) (d : Configuration) : Type 0 where
    state : ℕ
    target_is : target ≡ Some state
    name_is : by ≡ name
    is : with_state script c state ≡ d

  enters_by : (by : StepName) (target : Option ℕ) (name : StepName) (d : Configuration) → Contains (entering script c by target) (name, d)
      → IsEntering by target name d
  enters_by by None name d among = absurd (none_in (name, d) among)
  enters_by by (Some state) name d among =
      let one = only_one (by, with_state script c state) (name, d) among in
      record { state = state; target_is = refl; name_is = ap (λ (step : Step). step.0) one; is = ap (λ (step : Step). step.1) one }

  -- ---- a reply

  replies_by : (target : Option ℕ) (name : StepName) (d : Configuration) → Contains (reply_step script c target) (name, d) → led_to script c target ≡ d
  replies_by None name d among = ap (λ (step : Step). step.1) (only_one (names.Reply, with_link c Resting) (name, d) among)
  replies_by (Some state) name d among = ap (λ (step : Step). step.1) (only_one (names.Reply, with_state script c state) (name, d) among)

  -- a reply leads there, and where it says a failure the state says where that leads
  pub after_reply : (failure : Option Failure) (d : Configuration) → c.link ≡ link_of failure → LeadsIn script c (link_of failure) d
      → (led_to script c (target_after script c.state failure) ≡ d)
      × ((failed : Failure) → failure ≡ Some failed → IsTrue (is_some (state_of script c.state).fault))
  after_reply None d link leads = (
    replies_by (state_of script c.state).ok leads.0 d (subst (λ (l : LinkPhase). Contains (steps_by_link script c l) (leads.0, d)) link leads.1.1),
    λ failed is. absurd (none_is_some failed is),
  )
  after_reply (Some failure) d link leads =
      let it = enters_by names.Reply (state_of script c.state).fault leads.0 d
      (subst (λ (l : LinkPhase). Contains (steps_by_link script c l) (leads.0, d)) link leads.1.1) in (
        ap (led_to script c) it.target_is ∙ it.is,
        λ failed is. ap is_some it.target_is,
      )

  -- ---- at rest

  pub record ByTimer (d : Configuration) : Type 0 where
    pub target : ℕ
    pub leads : (state_of script c.state).timer ≡ Some target
    pub is : with_state script c target ≡ d

  pub record ByReceiver (d : Configuration) : Type 0 where
    pub i : ℕ
    pub hook : Hook
    pub target : ℕ
    pub within : i < length script.lines
    pub raised : raises (items_of script (c.events i)) (kind_of hook) ≡ true
    pub leads : target_in (state_of script c.state).on i (kind_of hook) ≡ Some target
    pub is : with_state script c target ≡ d

  hook_of : (what : Kind) → is_of_receiver what ≡ true → (hook : Hook) × (kind_of hook ≡ what)
  hook_of kind.On is = (On, refl)
  hook_of kind.Of is = (Off, refl)
  hook_of kind.Fl is = absurd (false_not_true is)
  hook_of kind.Full is = absurd (false_not_true is)
  hook_of kind.Part is = absurd (false_not_true is)

  observes_by : (name : StepName) (d : Configuration) → can_be_made name ≡ true → (i : ℕ) → Contains (line_places script) i → (what : Kind)
      → Contains (observation script c i what) (name, d) → ByReceiver d
  observes_by name d can i place what among = by_list (raises (items_of script (c.events i)) what) refl among
    where
      by_list : (test : Bool) → raises (items_of script (c.events i)) what ≡ test
          → Contains (if test then entering script c (names.Observe i what) (target_in (state_of script c.state).on i what) else []) (name, d) → ByReceiver d
      by_list false e there = absurd (none_in (name, d) there)
      by_list true e there =
          let it = enters_by (names.Observe i what) (target_in (state_of script c.state).on i what) name d there in
          let hook = hook_of what (ap can_be_made it.name_is ∙ can) in
          record {
            i = i;
            hook = hook.0;
            target = it.state;
            within = below_less (length script.lines) (0 ∷ 1 ∷ 2 ∷ 3 ∷ []) i place;
            raised = ap (raises (items_of script (c.events i))) hook.1 ∙ e;
            leads = ap (target_in (state_of script c.state).on i) hook.1 ∙ it.target_is;
            is = it.is;
          }

  pub at_rest_by : (d : Configuration) → c.link ≡ Resting → StepsBy script can_be_made c d → ByTimer d ⊎ ByReceiver d
  at_rest_by d link steps =
      let among : Contains (steps_by_link script c Resting) (steps.0, d) =
      subst (λ (l : LinkPhase). Contains (steps_by_link script c l) (steps.0, d)) link steps.1.1 in
      elim (Contains-append_cases (flat_map (observations script c) (line_places script)) (entering script c names.Timer (state_of script c.state).timer)
      (steps.0, d) among) [
        | inl observed ↦ (
            let line = from_joined (observations script c) (line_places script) (steps.0, d) observed in
            let what = from_joined (observation script c line.0) all_kinds (steps.0, d) line.2 in
            inr (observes_by steps.0 d steps.1.0 line.0 line.1 what.0 what.2))
        | inr timed ↦ (
            let it = enters_by names.Timer (state_of script c.state).timer steps.0 d timed in
            inl (record { target = it.state; leads = it.target_is; is = it.is }))
      ]

-- ---- a list that raises what a receiver does names it

names_hook : (hook : Hook) (one : ListItem) → raises_kind (kind_of hook) one ≡ true → is_hook hook one ≡ true
names_hook On (item.OnHook strict) e = refl
names_hook Off (item.OffHook strict) e = refl
names_hook On (item.OffHook strict) e = absurd (false_not_true e)
names_hook On item.Flash e = absurd (false_not_true e)
names_hook On (item.Digits map) e = absurd (false_not_true e)
names_hook Off (item.OnHook strict) e = absurd (false_not_true e)
names_hook Off item.Flash e = absurd (false_not_true e)
names_hook Off (item.Digits map) e = absurd (false_not_true e)

pub hook_named : (hook : Hook) (list : List ListItem) → list_raises list (kind_of hook) ≡ true → list_any (is_hook hook) list ≡ true
hook_named hook = any_too (raises_kind (kind_of hook)) (is_hook hook) (names_hook hook)
