-- The number and the name of each fault of a run, and the one that a shard which doesn't restart is told by. This profile's own.
use Rattle.std.specs.Prelude.{ℕ, List, codes}
use Rattle.shards.specs.declared.fault.RestartFault.{RestartFault}
use Rattle.shards.specs.declared.fault.RestartFault.TheVariants as restart
use Rattle.planned_calls.specs.declared.fault.RunFault.{RunFault}
use Rattle.planned_calls.specs.declared.fault.RunFault.TheVariants.{BadWorkers, TooManyCalls, Disagree, NoMemory}

abbrev pub number_of : RunFault → ℕ
number_of BadWorkers = 1
number_of TooManyCalls = 2
number_of Disagree = 3
number_of NoMemory = 4

abbrev pub name_of : RunFault → List ℕ
name_of BadWorkers = codes "BadWorkers"
name_of TooManyCalls = codes "TooManyCalls"
name_of Disagree = codes "Disagree"
name_of NoMemory = codes "NoMemory"

abbrev pub of_restart : RestartFault → RunFault
of_restart restart.NoMemory = NoMemory
of_restart restart.CannotHappen = Disagree
