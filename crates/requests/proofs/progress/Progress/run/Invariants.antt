use Rattle.std.proofs.Common.{map, drop, Option}
use Rattle.mg_model.specs.declared.failures.Failure.{Failure}
use Rattle.mg_model.specs.RequestRun.{Running, RunsFrom}
use Rattle.requests.specs.Commands.{running}
use Rattle.requests.specs.Views.{command_of}
use Rattle.requests.proofs.progress.Progress.run.Given as goal

-- what the commands that are left come to is what all of them come to
abbrev pub invariant-loop-place : goal.invariant-loop-place
invariant-loop-place l = (end : Running) (failure : Option Failure) →
    RunsFrom l.number l.chosen (running l.self) l.place (map command_of (drop l.place l.commands)) end failure →
    RunsFrom l.number l.chosen (running l.fn.self) 0 (map command_of l.commands) end failure
