-- The values of the model that commands and notes are. A reader should check that each variant is the constructor of its name, that
-- a line has the descriptors that stand beside it, and that an ephemeral has no Events and no Signals descriptor.
use Rattle.std.specs.Borrow.{Bor}
use Rattle.std.specs.Prelude.{List, map, Option, Some, None, option_map}
use Rattle.mg_names.specs.declared.identifiers.LineNo.{LineNo}
use Rattle.mg_model.specs.declared.references.ContextRef.{ContextRef}
use Rattle.mg_model.specs.declared.references.SettingsRef.{SettingsRef}
use Rattle.mg_model.specs.declared.references.TerminationRef.{TerminationRef}
use Rattle.mg_model.specs.declared.references.TerminationRef.TheVariants as termination
use Rattle.mg_model.specs.Messages as model
use Rattle.mg_model.specs.RequestRun as run
use Rattle.requests.specs.declared.command.LineDescriptors.{LineDescriptors}
use Rattle.requests.specs.declared.command.Newcomer.{Newcomer}
use Rattle.requests.specs.declared.command.Newcomer.TheVariants as newcomer
use Rattle.requests.specs.declared.command.RequestCommand.{RequestCommand}
use Rattle.requests.specs.declared.command.RequestCommand.TheVariants as command
use Rattle.requests.specs.declared.command.Target.{Target}
use Rattle.requests.specs.declared.command.Target.TheVariants as target
use Rattle.requests.specs.declared.outcome.LineNote.{LineNote}

-- what a command sets on a line, with the descriptors that only a line takes
abbrev pub settings_with : SettingsRef → LineDescriptors → model.Descriptors
settings_with s d = record { mode = s.mode; remote = s.remote; events = d.events; signals = d.signals }

-- the settings alone, as on an ephemeral
abbrev pub settings_alone : SettingsRef → model.Descriptors
settings_alone s = record { mode = s.mode; remote = s.remote; events = None; signals = None }

abbrev pub add_of : ContextRef → Newcomer → SettingsRef → model.RequestCommand
add_of c (newcomer.Line l d) s = model.add_line c l.0 (settings_with s d)
add_of c newcomer.NewEphemeral s = model.add_ephemeral c (settings_alone s)

abbrev pub termination_of : Target → TerminationRef
termination_of (target.Line l d) = termination.Line l
termination_of (target.Ephemeral e) = termination.Ephemeral e

abbrev pub given_to : Target → SettingsRef → model.Descriptors
given_to (target.Line l d) s = settings_with s d
given_to (target.Ephemeral e) s = settings_alone s

abbrev pub command_of : RequestCommand → model.RequestCommand
command_of (command.Add c added s) = add_of c added s
command_of (command.Modify c t s) = model.modify c (termination_of t) (given_to t s)
command_of (command.Move c t s) = model.move c (termination_of t) (given_to t s)
command_of (command.Subtract c t) = model.subtract c t
command_of (command.SubtractAll c) = model.subtract_all c
command_of (command.SetTopology c t u topology) = model.set_topology c t u topology

-- the descriptors that only a line takes, with no settings
abbrev pub descriptors_of : LineDescriptors → model.Descriptors
descriptors_of d = record { mode = None; remote = None; events = d.events; signals = d.signals }

-- the line that they are for, with them
abbrev pub line_described : Option (LineNo × Bor LineDescriptors) → Option run.LineDescriptors
line_described found = option_map (λ (f : LineNo × Bor LineDescriptors). run.on_line f.0.0 (descriptors_of f.1.now)) found

abbrev pub line_in_target : Target → Option run.LineDescriptors
line_in_target (target.Line l d) = Some (run.on_line l.0 (descriptors_of d))
line_in_target (target.Ephemeral e) = None

abbrev pub line_note : LineNote → run.RaisedNote
line_note n = record { line = n.line.0; note = n.note }

abbrev pub line_notes : List LineNote → List run.RaisedNote
line_notes notes = map line_note notes
