-- The arrows of a script, and which configurations calls enter over one. From each state an arrow leads to where a reply without a failure leads, one with a
-- failure, each kind of note of each line, and the timer; and from all of them one leads to the restart state, for whoever hears of a restart. A reader should
-- check that no arrow is left out, and that what enters over an arrow is what a step of the check leads to from any configuration of its first state that
-- calls come to. This profile's own.
use Rattle.std.specs.Prelude.{◌≡◌, ℕ, List, [], ◌∷◌, ◌++◌, length, Option, Some, None, Contains}
use Rattle.std.specs.List.{flat_map}
use Rattle.mg_names.specs.declared.kinds.Kind.{Kind}
use Rattle.mg_names.specs.declared.phases.LinkPhase.{LinkPhase}
use Rattle.mg_names.specs.declared.phases.LinkPhase.TheVariants.{Answered, Failed, Resting}
use Rattle.mg_model.specs.declared.steps.StepName.{StepName}
use Rattle.mg_model.specs.declared.steps.StepName.TheVariants as step
use Rattle.mg_model.specs.Script.{Script}
use Rattle.mg_model.specs.Tables.{state_of, target_in}
use Rattle.mg_model.specs.Configuration.{Configuration}
use Rattle.mg_model.specs.Steps.{all_kinds, reset, steps_of}
use Rattle.mg_model.specs.Entries.{Entry}
use Rattle.call_ways.specs.declared.arrows.Arrow.{Arrow}
use Rattle.call_ways.specs.declared.arrows.EnteredBy.{EnteredBy}
use Rattle.call_ways.specs.declared.arrows.EnteredBy.TheVariants as entered
use Rattle.call_ways.specs.Numbers.{numbers}
use Rattle.call_ways.specs.Ways.{ComesTo}

-- ---- the arrows

-- the arrow from a state to its target, where it has one
abbrev pub arrow_to : ℕ → EnteredBy → Option ℕ → List Arrow
arrow_to s by None = []
arrow_to s by (Some t) = record { from = s; by = by; to = t } ∷ []

abbrev pub by_note : Script → ℕ → ℕ → Kind → List Arrow
by_note script s i kind = arrow_to s (entered.Note i kind) (target_in (state_of script s).on i kind)

abbrev pub by_notes_of : Script → ℕ → ℕ → List Arrow
by_notes_of script s i = flat_map (by_note script s i) all_kinds

abbrev pub by_notes : Script → ℕ → List Arrow
by_notes script s = flat_map (by_notes_of script s) (0 ∷ 1 ∷ 2 ∷ 3 ∷ [])

abbrev pub arrows_from : Script → ℕ → List Arrow
arrows_from script s =
    arrow_to s entered.Reply (state_of script s).ok ++ arrow_to s entered.Failure (state_of script s).fault ++ by_notes script s
    ++ arrow_to s entered.Timer (state_of script s).timer

-- whoever hears of a restart, in any state
abbrev pub anew : Script → Arrow
anew script = record { from = 0; by = entered.Restart; to = script.restart }

abbrev pub arrows_of : Script → List Arrow
arrows_of script = flat_map (arrows_from script) (numbers (length script.states)) ++ anew script ∷ []

-- ---- who enters over an arrow

-- a call that is in a state, with its request so far, goes over to a configuration of another state by a step of this name
pub record Crosses (script : Script) (entries : List Entry) (s : ℕ) (phase : LinkPhase) (name : StepName) (t : ℕ) (c : Configuration) : Type 0 where
  pub before : Configuration
  pub comes : ComesTo script entries before
  pub in_state : before.state ≡ s
  pub in_phase : before.link ≡ phase
  pub leads : Contains (steps_of script before) (name, c)
  pub enters : c.state ≡ t

abbrev pub EntersBy : Script → List Entry → ℕ → ℕ → Configuration → EnteredBy → Type 0
EntersBy script entries s t c entered.Reply = Crosses script entries s Answered step.Reply t c
EntersBy script entries s t c entered.Failure = Crosses script entries s Failed step.Reply t c
EntersBy script entries s t c (entered.Note i kind) = Crosses script entries s Resting (step.Observe i kind) t c
EntersBy script entries s t c entered.Timer = Crosses script entries s Resting step.Timer t c
EntersBy script entries s t c entered.Restart = (c ≡ reset script) × (t ≡ script.restart)

-- a call enters a configuration over an arrow
abbrev pub Enters : Script → List Entry → Arrow → Configuration → Type 0
Enters script entries arrow c = EntersBy script entries arrow.from arrow.to c arrow.by

abbrev pub IsEntered : Script → List Entry → Arrow → Type 0
IsEntered script entries arrow = (c : Configuration) × Enters script entries arrow c

-- with an empty request, which counts as answered; with one that is sent
abbrev pub IsEnteredEmpty : Script → List Entry → Arrow → Type 0
IsEnteredEmpty script entries arrow = (c : Configuration) × (Enters script entries arrow c × (c.link ≡ Answered))

abbrev pub IsEnteredSending : Script → List Entry → Arrow → Type 0
IsEnteredSending script entries arrow = (c : Configuration) × (Enters script entries arrow c × (c.link ≡ Answered → ⊥))
