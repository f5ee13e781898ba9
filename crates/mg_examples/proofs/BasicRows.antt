-- The definitions computed on one script: line a goes off hook and is joined with line b in a new context. What they
-- give was reasoned out by hand from the rules; the proofs by computation show that they give it.
use Rattle.std.specs.Prelude.{◌≡◌, ℕ, List, [], ◌∷◌, map, refl}
use Rattle.mg_names.specs.declared.kinds.Kind.TheVariants.{Of}
use Rattle.mg_names.specs.declared.modes.Mode.{Mode}
use Rattle.mg_names.specs.declared.modes.Mode.TheVariants.{Inactive, SendReceive}
use Rattle.mg_names.specs.declared.phases.LinkPhase.{LinkPhase}
use Rattle.mg_names.specs.declared.phases.LinkPhase.TheVariants.{Answered, Failed}
use Rattle.mg_names.specs.declared.context_values.ContextValue.{ContextValue}
use Rattle.mg_names.specs.declared.context_values.ContextValue.TheVariants.{Free, Live}
use Rattle.mg_model.specs.declared.commands.EventsName.{EventsName}
use Rattle.mg_model.specs.declared.commands.EventsName.TheVariants.{Empty, Armed, Own}
use Rattle.mg_model.specs.declared.commands.Termination.TheVariants.{Line}
use Rattle.mg_model.specs.declared.components.Spot.{Spot}
use Rattle.mg_model.specs.declared.components.Spot.TheVariants.{Null, In}
use Rattle.mg_model.specs.declared.steps.StepName.{StepName}
use Rattle.mg_model.specs.declared.steps.StepName.TheVariants.{Refuse, Execute, Observe}
use Rattle.mg_model.specs.Script.{Script}
use Rattle.mg_model.specs.Configuration.{Configuration}
use Rattle.mg_examples.specs.Basic.{basic}
use Rattle.mg_model.specs.Steps.{Step, steps_of, opening, reset, with_state}

abbrev script : Script
script = basic (record { first = 0; second = 1 } ∷ [])

abbrev pub names : List Step → List StepName
names steps = map (λ (step : Step). step.0) steps

-- what a configuration says of both lines and of the context
abbrev pub shown : Configuration → (ℕ × LinkPhase) × (Spot × Mode × EventsName) × (Spot × Mode × EventsName) × ContextValue
shown c =
    ((c.state, c.link), (c.spot (Line 0), c.mode (Line 0), c.events 0), (c.spot (Line 1), c.mode (Line 1), c.events 1), c.context 0)

abbrev pub results : List Step → List ((ℕ × LinkPhase) × (Spot × Mode × EventsName) × (Spot × Mode × EventsName) × ContextValue)
results steps = map (λ (step : Step). shown step.1) steps

-- the start state has one step, the off-hook note of line a
opening_steps : names (steps_of script (opening script)) ≡ Observe 0 Of ∷ []
opening_steps = refl

abbrev pub talking : Configuration
talking = with_state script (opening script) 1

-- the request of `talk` may be refused at either place, or executed
talk_steps : names (steps_of script talking) ≡ Refuse 0 ∷ Refuse 1 ∷ Execute ∷ []
talk_steps = refl

talk_results :
    results (steps_of script talking)
    ≡ ((1, Failed), (Null, Inactive, Armed), (Null, Inactive, Armed), Free)
    ∷ ((1, Failed), (In 0, SendReceive, Own 0), (Null, Inactive, Armed), Live)
    ∷ ((1, Answered), (In 0, SendReceive, Own 0), (In 0, SendReceive, Armed), Live) ∷ []
talk_results = refl

-- the restart state modifies both lines
reset_steps : names (steps_of script (reset script)) ≡ Refuse 0 ∷ Refuse 1 ∷ Execute ∷ []
reset_steps = refl

reset_results :
    results (steps_of script (reset script))
    ≡ ((4, Failed), (Null, Inactive, Empty), (Null, Inactive, Empty), Free)
    ∷ ((4, Failed), (Null, Inactive, Armed), (Null, Inactive, Empty), Free)
    ∷ ((4, Answered), (Null, Inactive, Armed), (Null, Inactive, Armed), Free) ∷ []
reset_results = refl
