use Rattle.std.proofs.Common.{◌≡◌, drop}
use Rattle.std.specs.List.{list_all}
use Rattle.scriptreader.specs.Faults.{command_known}
use Rattle.scriptreader.proofs.uses.knows_commands.Given as goal

abbrev pub invariant-loop-command : goal.invariant-loop-command
invariant-loop-command l = list_all (λ c. command_known l.scope c) (drop l.command-index l.commands) ≡ list_all (λ c. command_known l.scope c) l.commands
