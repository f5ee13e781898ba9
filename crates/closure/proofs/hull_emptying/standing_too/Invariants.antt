-- It is so of the terminations so far.
use Rattle.std.proofs.Common.{map, take, Contains}
use Rattle.mg_model.specs.declared.commands.Termination.{Termination}
use Rattle.configuration.specs.Config.{configuration_of}
use Rattle.closure.specs.Emptying.{StandsToo}
use Rattle.closure.proofs.hull_emptying.standing_too.Given as goal

abbrev pub invariant-loop-termination : goal.invariant-loop-termination
invariant-loop-termination l =
    (t : Termination) → Contains (take l.termination-index l.termination-items) t → StandsToo (map configuration_of l.hull) l.context (configuration_of l.config) t
