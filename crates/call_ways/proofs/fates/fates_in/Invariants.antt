-- So many commands have their fates, and the others are left.
use Rattle.std.proofs.Common.{drop}
use Rattle.configuration.specs.Config.{configuration_of}
use Rattle.call_ways.specs.Fates.{fates_in}
use Rattle.call_ways.proofs.Sending.{AreTold}
use Rattle.call_ways.proofs.fates.fates_in.Given as goal

abbrev pub invariant-loop-command : goal.invariant-loop-command
invariant-loop-command l =
    AreTold l.script (fates_in l.script (configuration_of l.config)) l.fates.items (configuration_of l.current) l.is_reached l.next l.request
    (drop l.command-index l.commands)
