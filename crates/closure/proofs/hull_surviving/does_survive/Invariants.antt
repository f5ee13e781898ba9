-- The commands so far leave whoever stands there.
use Rattle.std.proofs.Common.{map, take}
use Rattle.std.specs.List.{All}
use Rattle.configuration.specs.Config.{configuration_of}
use Rattle.closure.specs.Surviving.{SparesAll}
use Rattle.closure.proofs.hull_surviving.does_survive.Given as goal

abbrev pub invariant-loop-command : goal.invariant-loop-command
invariant-loop-command l = All (SparesAll (map configuration_of l.hull) l.name) (take l.command-index l.commands)
