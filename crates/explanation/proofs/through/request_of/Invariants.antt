-- With what is left of the request the commands so far are all of it, and no more are left than passes.
use Rattle.std.proofs.Common.{◌≡◌, ◌++◌, ◌+◌, ◌≤◌, length}
use Rattle.mg_model.specs.Steps.{request_in}
use Rattle.configuration.specs.Config.{configuration_of}
use Rattle.explanation.proofs.through.request_of.Given as goal

abbrev pub invariant-loop : goal.invariant-loop
invariant-loop l = record {
  all : l.commands.items ++ l.request ≡ request_in l.script (configuration_of l.config) (configuration_of l.config).state;
  few : length l.request + l.counter ≤ l.end;
}
