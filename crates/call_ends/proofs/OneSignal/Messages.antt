-- What is left of requests and of agents where one signal alone is told; and that agents build of the script cut down so what is left of their requests.
use Rattle.std.proofs.Common.{List, None, Option, Some, [], ap, map, refl, ℕ, ◌+◌, ◌∷◌, ◌≡◌}
use Rattle.std.specs.Prelude.{option_map}
use Rattle.mg_names.specs.declared.signals.Signal.{Signal}
use Rattle.mg_model.specs.declared.commands.Command.{Command}
use Rattle.mg_model.specs.declared.commands.Command.TheVariants.{AddLine, ModifyLine, MoveLine}
use Rattle.mg_model.specs.declared.commands.LineOptions.{LineOptions}
use Rattle.mg_model.specs.declared.commands.SignalsName.{SignalsName}
use Rattle.mg_model.specs.declared.line_events.SignalSet.{SignalSet}
use Rattle.mg_model.specs.declared.references.TerminationRef.TheVariants.{Line}
use Rattle.mg_model.specs.Agent.{Agent, Made, Phase, added_to, awaits_pass, awaits_reply, command_of, commands_of, context_ref, line_descriptors, made_after}
use Rattle.mg_model.specs.Agent.{place_ref, resting}
use Rattle.mg_model.specs.ListContents.{set_of}
use Rattle.mg_model.specs.Messages.{Descriptors, Request, RequestCommand, add_ephemeral, add_line, modify, move, set_topology, subtract, subtract_all}
use Rattle.mg_model.specs.Numbers.{the_line}
use Rattle.mg_model.specs.Script.{Script}
use Rattle.call_ends.proofs.OneSignal.Sets.{alone, script_alone, set_alone}

-- ---- requests, and agents that await the reply to one

abbrev pub descriptors_alone : Signal → Descriptors → Descriptors
descriptors_alone g d = record d { signals = option_map (alone g) d.signals }

abbrev pub command_alone : Signal → RequestCommand → RequestCommand
command_alone g (add_line c l d) = add_line c l (descriptors_alone g d)
command_alone g (add_ephemeral c d) = add_ephemeral c (descriptors_alone g d)
command_alone g (modify c t d) = modify c t (descriptors_alone g d)
command_alone g (move c t d) = move c t (descriptors_alone g d)
command_alone g (subtract c t) = subtract c t
command_alone g (subtract_all c) = subtract_all c
command_alone g (set_topology c t u topology) = set_topology c t u topology

abbrev pub request_alone : Signal → Request → Request
request_alone g request = record request { commands = map (command_alone g) request.commands }

abbrev pub phase_alone : Signal → Phase → Phase
phase_alone g (awaits_reply request) = awaits_reply (request_alone g request)
phase_alone g awaits_pass = awaits_pass
phase_alone g resting = resting

abbrev pub agent_alone : Signal → Agent → Agent
agent_alone g a = record a { phase = phase_alone g a.phase }

-- ---- what agents build

module _ (g : Signal) (script : Script) where
  -- the script of which the signal alone is told
  abbrev lone : Script
  lone = script_alone g script

  signals_are : (o : Option SignalsName) → option_map (set_of lone) o ≡ option_map (alone g) (option_map (set_of script) o)
  signals_are None = refl
  signals_are (Some name) = ap Some (set_alone g script name)

  descriptors_are : (o : LineOptions) → line_descriptors lone o ≡ descriptors_alone g (line_descriptors script o)
  descriptors_are o = ap (λ (signals : Option SignalSet). record (line_descriptors script o) { signals = signals }) (signals_are o.signals)

  command_is : (a : Agent) (made : Made) (command : Command)
      → command_of lone (agent_alone g a) made command ≡ command_alone g (command_of script a made command)
  command_is a made (AddLine create j i o) = ap (add_line (added_to a made create j) (a.lines i)) (descriptors_are o)
  command_is a made (ModifyLine place i o) = ap (modify (place_ref a made place) (Line (the_line (a.lines i)))) (descriptors_are o)
  command_is a made (MoveLine j i o) = ap (move (context_ref a made j) (Line (the_line (a.lines i)))) (descriptors_are o)
  command_is a made command = refl

  pub commands_are : (a : Agent) (made : Made) (place : ℕ) (commands : List Command)
      → commands_of lone (agent_alone g a) made place commands ≡ map (command_alone g) (commands_of script a made place commands)
  commands_are a made place [] = refl
  commands_are a made place (command ∷ more) =
      λ i. command_is a made command i ∷ commands_are a (made_after made command place) (place + 1) more i
