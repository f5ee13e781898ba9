-- Agents go on alike where one signal alone is told: each step of what is left of an agent is what is left of its step.
use Rattle.std.proofs.Common.{Bool, List, None, Option, Some, [], ap, false, if◌then◌else◌, nat_lt, refl, true, ℕ, ◌+◌, ◌∙◌, ◌∷◌, ◌≡◌}
use Rattle.std.specs.Prelude.{nat_le, option_map}
use Rattle.mg_names.specs.declared.signals.Signal.{Signal}
use Rattle.mg_model.specs.declared.commands.Command.{Command}
use Rattle.mg_model.specs.declared.commands.Command.TheVariants.{Subtract}
use Rattle.mg_model.specs.declared.commands.Termination.TheVariants as termination
use Rattle.mg_model.specs.declared.failures.Failure.{Failure}
use Rattle.mg_model.specs.Agent.{Agent, Phase, after_result, after_results, answers, awaits_pass, awaits_reply, built_by, entered, entered_if}
use Rattle.mg_model.specs.Agent.{entered_or_rests, entered_or_stays, entered_with, forgotten, heard, inbox_of, is_resting, leads_on, line_in, may_accept}
use Rattle.mg_model.specs.Agent.{none_made, noted, passed, passed_in, replied, replied_to, request_of, resting, target_of, timed}
use Rattle.mg_model.specs.Delivery.{with_accepted}
use Rattle.mg_model.specs.Items.{Done}
use Rattle.mg_model.specs.Messages.{Reply, Request, RequestCommand, SentNote}
use Rattle.mg_model.specs.Numbers.{last_number}
use Rattle.mg_model.specs.Script.{Script}
use Rattle.mg_model.specs.Tables.{is_empty, state_of}
use Rattle.call_ends.proofs.OneSignal.Messages.{agent_alone, commands_are, phase_alone}
use Rattle.call_ends.proofs.OneSignal.Sets.{script_alone}

-- the agent once the request of a state is sent
abbrev awaiting : Agent → ℕ → Request → Agent
awaiting a state request = record a { state = state; phase = awaits_reply request; next = a.next + 1 }

-- whatever the test before a step
if_alone : (g : Signal) (b : Bool) (x y : Option Agent) → x ≡ option_map (agent_alone g) y
    → (if b then x else None) ≡ option_map (agent_alone g) (if b then y else None)
if_alone g true x y e = e
if_alone g false x y e = refl

module _ (g : Signal) (script : Script) where
  -- the script of which the signal alone is told
  abbrev lone : Script
  lone = script_alone g script

  -- what is left of what a step gives
  abbrev left : Option Agent → Option Agent
  left = option_map (agent_alone g)

  -- ---- states that are entered

  entered_alone : (a : Agent) (state : ℕ) → entered lone (agent_alone g a) state ≡ left (entered script a state)
  entered_alone a state = with_request (is_empty (built_by script a state))
    where
      with_number : (b : Bool)
          → (if b then Some (awaiting (agent_alone g a) state (request_of lone (agent_alone g a) state)) else None)
          ≡ left (if b then Some (awaiting a state (request_of script a state)) else None)
      with_number true =
          ap (λ (commands : List RequestCommand). Some (awaiting (agent_alone g a) state (record (request_of script a state) { commands = commands })))
          (commands_are g script a none_made 0 (built_by script a state))
      with_number false = refl

      with_request : (b : Bool) → entered_with lone (agent_alone g a) state b ≡ left (entered_with script a state b)
      with_request true = refl
      with_request false = with_number (nat_le a.next last_number)

  rests_alone : (a : Agent) (target : Option ℕ) → entered_or_rests lone (agent_alone g a) target ≡ left (entered_or_rests script a target)
  rests_alone a None = refl
  rests_alone a (Some state) = entered_alone a state

  entered_if_alone : (a : Agent) (target : Option ℕ) → entered_if lone (agent_alone g a) target ≡ left (entered_if script a target)
  entered_if_alone a None = refl
  entered_if_alone a (Some state) = entered_alone a state

  stays_alone : (a : Agent) (target : Option ℕ) → entered_or_stays lone (agent_alone g a) target ≡ left (entered_or_stays script a target)
  stays_alone a None = refl
  stays_alone a (Some state) = entered_alone a state

  -- ---- replies

  result_alone : (a : Agent) (command : Command) (done : Done) (number : ℕ)
      → after_result (agent_alone g a) command done number ≡ agent_alone g (after_result a command done number)
  result_alone a (Subtract j (termination.Line i)) done number = refl
  result_alone a command done number = refl

  results_alone : (a : Agent) (commands : List Command) (results : List Done) (number : ℕ)
      → after_results (agent_alone g a) commands results number ≡ agent_alone g (after_results a commands results number)
  results_alone a [] results number = refl
  results_alone a (command ∷ more) [] number = refl
  results_alone a (command ∷ more) (done ∷ results) number =
      ap (λ (e : Agent). after_results e more results number) (result_alone a command done number)
      ∙ results_alone (after_result a command done number) more results number

  leads_alone : (was a : Agent) (failure : Option Failure)
      → leads_on lone (agent_alone g was) (agent_alone g a) failure ≡ left (leads_on script was a failure)
  leads_alone was a None = rests_alone a (state_of script was.state).ok
  leads_alone was a (Some failure) = entered_if_alone a (state_of script was.state).fault

  pub replied_alone : (a : Agent) (answer : Reply) → replied lone (agent_alone g a) answer ≡ left (replied script a answer)
  replied_alone a answer = to a.phase
    where
      to : (phase : Phase) → replied_to lone (agent_alone g a) (phase_alone g phase) answer ≡ left (replied_to script a phase answer)
      to (awaits_reply request) = if_alone g (answers answer request) _ _
          (ap (λ (e : Agent). leads_on lone (agent_alone g a) e answer.failure) (results_alone a (built_by script a a.state) answer.results answer.number)
          ∙ leads_alone a (after_results a (built_by script a a.state) answer.results answer.number) answer.failure)
      to awaits_pass = refl
      to resting = refl

  -- ---- what else agents do

  pub passed_alone : (a : Agent) → passed lone (agent_alone g a) ≡ left (passed script a)
  passed_alone a = in_phase a.phase
    where
      in_phase : (phase : Phase) → passed_in lone (agent_alone g a) (phase_alone g phase) ≡ left (passed_in script a phase)
      in_phase (awaits_reply request) = refl
      in_phase awaits_pass = rests_alone a (state_of script a.state).ok
      in_phase resting = refl

  resting_alone : (phase : Phase) → is_resting (phase_alone g phase) ≡ is_resting phase
  resting_alone (awaits_reply request) = refl
  resting_alone awaits_pass = refl
  resting_alone resting = refl

  pub noted_alone : (a : Agent) (slots : List ℕ) (sent : SentNote) → noted lone (agent_alone g a) slots sent ≡ left (noted script a slots sent)
  noted_alone a slots sent =
      let b : Agent = record a { accepted = (with_accepted (inbox_of a) sent.number).accepted } in
      let target : Option ℕ = target_of script a (line_in a sent.line slots) sent.note in
      rw resting_alone
      (if_alone g (may_accept script a sent) (entered_or_stays lone (agent_alone g b) target) (entered_or_stays script b target) (stays_alone b target))

  pub timed_alone : (a : Agent) → timed lone (agent_alone g a) ≡ left (timed script a)
  timed_alone a = rw resting_alone (if_alone g (is_resting a.phase) _ _ (entered_if_alone a (state_of script a.state).timer))

  pub heard_alone : (a : Agent) (association : ℕ) → heard lone (agent_alone g a) association ≡ left (heard script a association)
  heard_alone a association = if_alone g (nat_lt a.association association) _ _ (entered_alone (forgotten a association) script.restart)
