-- The opening, the reset, and each step of a configuration hold nothing that the script doesn't declare.
use Rattle.mg_safety.proofs.Words.{◌≡◌, ◌+◌, ◌++◌, ℕ, List, [], ◌∷◌, length, Option, Some, None, refl, if◌then◌else◌, All, flat_map, All-nil, All-cons}
use Rattle.mg_safety.proofs.Words.{All-head, All-tail, All-append, Kind, Sent, Answered, Failed, Resting, Command, EventsName, Empty, Armed, Termination}
use Rattle.mg_safety.proofs.Words.{Absent, StepName, Refuse, Execute, Observe, Timer, Configuration, is_legal, effect, Script, Step, steps_of, steps_by_link}
use Rattle.mg_safety.proofs.Words.{request_in, with_state, with_link, refusals, executed, execution, names_unbound, entering, reply_step, all_kinds}
use Rattle.mg_safety.proofs.Words.{observation, observations, unused, opening, reset, bound_names, state_of, items_of, raises, target_in, line_places, IsScript}
use Rattle.mg_safety.proofs.Words.{IsSlot, IsCommandOf, by_test}
use Rattle.mg_names.specs.declared.phases.LinkPhase.{LinkPhase}
use Rattle.mg_model.specs.declared.commands.Termination.TheVariants.{Line, Ephemeral}
use Rattle.mg_model.specs.declared.steps.StepName.TheVariants.{Reply}
use Rattle.mg_model.proofs.Built.{state_commands, built_commands}
use Rattle.mg_safety.proofs.InvariantWords.{IsOfScript}
use Rattle.mg_safety.proofs.Certificate.Declared.{past_is_not_below, unused_past}
use Rattle.mg_safety.proofs.Certificate.OfScript.{of_effect}

-- ---- the configurations in which a call opens, and after a restart

of_unused : (script : Script) (state : ℕ) (link : LinkPhase) (list : EventsName) → IsOfScript script (unused (length script.lines) state link list)
of_unused script state link list = record {
  spot = at;
  mode = λ t undeclared. refl;
  events = λ i past. rw (past_is_not_below i (length script.lines) past) refl;
  plays = λ i past. refl;
  context = λ j past. refl;
  remote = λ k past. refl;
  cut = λ t u undeclared. refl;
}
  where
    at : (t : Termination) → (IsSlot script t → ⊥) → (unused (length script.lines) state link list).spot t ≡ Absent
    at (Line i) undeclared = unused_past (length script.lines) i undeclared
    at (Ephemeral k) undeclared = refl

-- the state that a call is in and how far its request has come are no names of the script
of_phase : (script : Script) (c : Configuration) (state : ℕ) (link : LinkPhase) → IsOfScript script c
    → IsOfScript script (record c { state = state; link = link })
of_phase script c state link o =
    record { spot = o.spot; mode = o.mode; events = o.events; plays = o.plays; context = o.context; remote = o.remote; cut = o.cut }

of_entered : (script : Script) (c : Configuration) (state : ℕ) → IsOfScript script c → IsOfScript script (with_state script c state)
of_entered script c state o = of_phase script c state (with_state script c state).link o

pub of_opening : (script : Script) → IsOfScript script (opening script)
of_opening script = of_unused script script.start Resting Armed

pub of_reset : (script : Script) → IsOfScript script (reset script)
of_reset script =
    of_entered script (unused (length script.lines) script.restart Answered Empty) script.restart (of_unused script script.restart Answered Empty)

-- ---- the commands of a request

pub request_commands : (script : Script) → IsScript script → (c : Configuration) (state : ℕ) → All (IsCommandOf script) (request_in script c state)
request_commands script is c state = built_commands script (bound_names c) (state_of script state).commands (state_commands script is state)

-- ---- steps

module _ (script : Script) where
  -- a step leads to a configuration of the script
  abbrev pub LeadsToOne : Step → Type 0
  LeadsToOne step = IsOfScript script step.1

  one_step : (name : StepName) (c : Configuration) → IsOfScript script c → All LeadsToOne ((name, c) ∷ [])
  one_step name c o = All-cons LeadsToOne (name, c) [] o (All-nil LeadsToOne)

  of_refusals : (c : Configuration) → IsOfScript script c → (place : ℕ) (commands : List Command) → All (IsCommandOf script) commands
      → All LeadsToOne (refusals script c place commands)
  of_refusals c o place [] all = All-nil LeadsToOne
  of_refusals c o place (command ∷ more) all =
      All-cons LeadsToOne (Refuse place, with_link c Failed) (if is_legal c command then refusals script (effect script c command) (place + 1) more else [])
      (of_phase script c c.state Failed o)
      (by_test (All LeadsToOne) (refusals script (effect script c command) (place + 1) more) [] (is_legal c command)
      (λ legal. of_refusals (effect script c command) (of_effect script c command o (All-head (IsCommandOf script) command more all) legal)
      (place + 1) more (All-tail (IsCommandOf script) command more all))
      (λ refused. All-nil LeadsToOne))

  of_execution : (c : Configuration) → IsOfScript script c → (commands : List Command) → All (IsCommandOf script) commands
      → All LeadsToOne (execution (executed script c commands))
  of_execution c o [] all = one_step Execute (with_link c Answered) (of_phase script c c.state Answered o)
  of_execution c o (command ∷ more) all =
      by_test (λ (o : Option Configuration). All LeadsToOne (execution o)) (executed script (effect script c command) more) None (is_legal c command)
      (λ legal. of_execution (effect script c command) (of_effect script c command o (All-head (IsCommandOf script) command more all) legal)
      more (All-tail (IsCommandOf script) command more all))
      (λ refused. All-nil LeadsToOne)

  of_entering : (c : Configuration) → IsOfScript script c → (name : StepName) (target : Option ℕ) → All LeadsToOne (entering script c name target)
  of_entering c o name None = All-nil LeadsToOne
  of_entering c o name (Some state) = one_step name (with_state script c state) (of_entered script c state o)

  of_reply : (c : Configuration) → IsOfScript script c → (target : Option ℕ) → All LeadsToOne (reply_step script c target)
  of_reply c o None = one_step Reply (with_link c Resting) (of_phase script c c.state Resting o)
  of_reply c o (Some state) = one_step Reply (with_state script c state) (of_entered script c state o)

  of_each : {A : Type 0} (f : A → List Step) → ((x : A) → All LeadsToOne (f x)) → (xs : List A) → All LeadsToOne (flat_map f xs)
  of_each f each [] = All-nil LeadsToOne
  of_each f each (x ∷ xs) = All-append LeadsToOne (f x) (flat_map f xs) (each x) (of_each f each xs)

  of_observation : (c : Configuration) → IsOfScript script c → (line : ℕ) (kind : Kind) → All LeadsToOne (observation script c line kind)
  of_observation c o line kind =
      by_test (All LeadsToOne) (entering script c (Observe line kind) (target_in (state_of script c.state).on line kind)) []
      (raises (items_of script (c.events line)) kind)
      (λ raised. of_entering c o (Observe line kind) (target_in (state_of script c.state).on line kind)) (λ quiet. All-nil LeadsToOne)

  of_link : IsScript script → (c : Configuration) → IsOfScript script c → (link : LinkPhase) → All LeadsToOne (steps_by_link script c link)
  of_link is c o Sent =
      let commands = request_in script c c.state in
      by_test (All LeadsToOne) (refusals script c 0 commands ++ execution (executed script c commands)) [] (names_unbound script c)
      (λ unbound. All-append LeadsToOne (refusals script c 0 commands) (execution (executed script c commands))
      (of_refusals c o 0 commands (request_commands script is c c.state)) (of_execution c o commands (request_commands script is c c.state)))
      (λ bound. All-nil LeadsToOne)
  of_link is c o Answered = of_reply c o (state_of script c.state).ok
  of_link is c o Failed = of_entering c o Reply (state_of script c.state).fault
  of_link is c o Resting =
      All-append LeadsToOne (flat_map (observations script c) (line_places script)) (entering script c Timer (state_of script c.state).timer)
      (of_each (observations script c) (λ line. of_each (observation script c line) (of_observation c o line) all_kinds) (line_places script))
      (of_entering c o Timer (state_of script c.state).timer)

  pub of_steps : IsScript script → (c : Configuration) → IsOfScript script c → All LeadsToOne (steps_of script c)
  of_steps is c o = of_link is c o c.link
