-- With those that the commands left lead to the configurations so far are all.
use Rattle.std.proofs.Common.{◌≡◌, ◌++◌, drop}
use Rattle.configuration.specs.Config.{configuration_of}
use Rattle.explanation.specs.Causes.{made_by, through}
use Rattle.explanation.specs.Shown.{values_of}
use Rattle.explanation.proofs.through.through.Given as goal

abbrev pub invariant-loop-command : goal.invariant-loop-command
invariant-loop-command l =
    values_of l.configs.items ++ made_by l.script (configuration_of l.current) (drop l.command-index l.commands)
    ≡ through l.script (configuration_of l.config) l.commands
