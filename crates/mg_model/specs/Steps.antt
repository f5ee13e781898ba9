-- The steps of a configuration, in their order, each with its result. This profile's own. A reader should check that
-- nothing that can happen to one call is missing: each place at which the gateway may refuse, the whole request, the
-- reply, each note that a line's list can raise, and the timer.
use Rattle.std.specs.Prelude.{ℕ, ◌+◌, Bool, true, false, not, ◌&&◌, if◌then◌else◌, List, [], ◌∷◌, ◌++◌, Option, Some, None, length}
use Rattle.std.specs.List.{list_all, flat_map}
use Rattle.mg_names.specs.declared.kinds.Kind.{Kind}
use Rattle.mg_names.specs.declared.kinds.Kind.TheVariants.{On, Of, Fl, Full, Part}
use Rattle.mg_names.specs.declared.phases.LinkPhase.{LinkPhase}
use Rattle.mg_names.specs.declared.phases.LinkPhase.TheVariants.{Sent, Answered, Failed, Resting}
use Rattle.mg_names.specs.declared.modes.Mode.TheVariants.{Inactive}
use Rattle.mg_names.specs.declared.context_values.ContextValue.TheVariants.{Free}
use Rattle.mg_model.specs.declared.commands.Command.{Command}
use Rattle.mg_model.specs.declared.commands.EventsName.{EventsName}
use Rattle.mg_model.specs.declared.commands.EventsName.TheVariants.{Empty, Armed}
use Rattle.mg_model.specs.declared.commands.Termination.{Termination}
use Rattle.mg_model.specs.declared.commands.Termination.TheVariants.{Line, Ephemeral}
use Rattle.mg_model.specs.declared.components.Spot.{Spot}
use Rattle.mg_model.specs.declared.components.Spot.TheVariants.{Absent, Null}
use Rattle.mg_model.specs.declared.components.Remote.TheVariants.{Unset}
use Rattle.mg_model.specs.declared.steps.StepName.{StepName}
use Rattle.mg_model.specs.declared.steps.StepName.TheVariants.{Refuse, Execute, Reply, Observe, Timer}
use Rattle.mg_model.specs.Script.{Script}
use Rattle.mg_model.specs.Tables.{state_of, items_of, raises, target_in, is_empty, line_places}
use Rattle.mg_model.specs.Configuration.{Configuration, is_free, is_present}
use Rattle.mg_model.specs.Request.{Names, built, created_context, created_ephemeral}
use Rattle.mg_model.specs.Effects.{is_legal, effect}
use Rattle.std.specs.Prelude.{nat_lt}

-- a step, with the configuration that it leads to
abbrev pub Step : Type 0
Step = StepName × Configuration

-- the names that are bound in a configuration
abbrev pub bound_names : Configuration → Names
bound_names c = record {
  contexts = λ j. not (is_free (c.context j));
  ephemerals = λ k. is_present (c.spot (Ephemeral k));
}

-- the request that a state builds in a configuration
abbrev pub request_in : Script → Configuration → ℕ → List Command
request_in script c state = built (bound_names c) (state_of script state).commands

-- a state is entered: its request is sent, or counts as answered where it is empty
abbrev pub with_state : Script → Configuration → ℕ → Configuration
with_state script c state =
    record c { state = state; link = if is_empty (request_in script c state) then Answered else Sent }

abbrev pub with_link : Configuration → LinkPhase → Configuration
with_link c link = record c { link = link }

-- a refusal at each place up to the last command or the first illegal one, whichever is earlier, the commands before
-- it done
abbrev pub refusals : Script → Configuration → ℕ → List Command → List Step
refusals script c place [] = []
refusals script c place (command ∷ more) =
    (Refuse place, with_link c Failed)
    ∷ (if is_legal c command then refusals script (effect script c command) (place + 1) more else [])

-- the configuration after the whole request, if no command of it is illegal
abbrev pub executed : Script → Configuration → List Command → Option Configuration
executed script c [] = Some c
executed script c (command ∷ more) =
    if is_legal c command then executed script (effect script c command) more else None

abbrev pub execution : Option Configuration → List Step
execution None = []
execution (Some c) = (Execute, with_link c Answered) ∷ []

-- each name that a command of the state creates, kept or not, is free or absent
abbrev pub creates_unbound : Configuration → Command → Bool
creates_unbound c command = context_unbound (created_context command) && ephemeral_unbound (created_ephemeral command)
  where
    context_unbound : Option ℕ → Bool
    context_unbound None = true
    context_unbound (Some j) = is_free (c.context j)

    ephemeral_unbound : Option ℕ → Bool
    ephemeral_unbound None = true
    ephemeral_unbound (Some k) = not (is_present (c.spot (Ephemeral k)))

abbrev pub names_unbound : Script → Configuration → Bool
names_unbound script c = list_all (creates_unbound c) (state_of script c.state).commands

-- a step that enters a state, where there is one
abbrev pub entering : Script → Configuration → StepName → Option ℕ → List Step
entering script c name None = []
entering script c name (Some state) = (name, with_state script c state) ∷ []

-- the reply without a failure: the state's `ok` target is entered, else the call rests
abbrev pub reply_step : Script → Configuration → Option ℕ → List Step
reply_step script c None = (Reply, with_link c Resting) ∷ []
reply_step script c (Some state) = (Reply, with_state script c state) ∷ []

abbrev pub all_kinds : List Kind
all_kinds = On ∷ Of ∷ Fl ∷ Full ∷ Part ∷ []

-- a note of a line and kind, where its list can raise it and it has a target
abbrev pub observation : Script → Configuration → ℕ → Kind → List Step
observation script c line kind =
    if raises (items_of script (c.events line)) kind
    then entering script c (Observe line kind) (target_in (state_of script c.state).on line kind)
    else []

abbrev pub observations : Script → Configuration → ℕ → List Step
observations script c line = flat_map (observation script c line) all_kinds

abbrev pub steps_by_link : Script → Configuration → LinkPhase → List Step
steps_by_link script c Sent =
    if names_unbound script c
    then (let request = request_in script c c.state in
    refusals script c 0 request ++ execution (executed script c request))
    else []
steps_by_link script c Answered = reply_step script c (state_of script c.state).ok
steps_by_link script c Failed = entering script c Reply (state_of script c.state).fault
steps_by_link script c Resting =
    flat_map (observations script c) (line_places script) ++ entering script c Timer (state_of script c.state).timer

-- the steps of a configuration
abbrev pub steps_of : Script → Configuration → List Step
steps_of script c = steps_by_link script c c.link

-- every name free or absent, nothing cut; each of these lines in the null context, Inactive and silent, with this list
abbrev pub unused : ℕ → ℕ → LinkPhase → EventsName → Configuration
unused lines state link events = record {
  state = state;
  link = link;
  spot = unused_spot;
  mode = λ t. Inactive;
  events = λ i. if nat_lt i lines then events else Empty;
  plays = λ i. false;
  context = λ j. Free;
  remote = λ k. Unset;
  cut = λ t u. false;
}
  where
    unused_spot : Termination → Spot
    unused_spot (Line i) = if nat_lt i lines then Null else Absent
    unused_spot (Ephemeral k) = Absent

-- the configuration that a call opens in: at rest in the start state, each line armed
abbrev pub opening : Script → Configuration
opening script = unused (length script.lines) script.start Resting Armed

-- the configuration after a restart was heard: the restart state as entered, each line with an empty list
abbrev pub reset : Script → Configuration
reset script = with_state script (unused (length script.lines) script.restart Answered Empty) script.restart
