-- The commands so far, and those of what is left of the request, are those of the whole request.
use Rattle.std.proofs.Common.{◌≡◌, ◌+◌, ◌<◌, ◌^◌, ◌++◌, length, map}
use Rattle.mg_model.specs.Agent as model
use Rattle.requests.specs.Views.{command_of}
use Rattle.agent.specs.Parts.{agent_in, made_of}
use Rattle.agent.proofs.building.commands.Given as goal

abbrev pub invariant-loop-next : goal.invariant-loop-next
invariant-loop-next l = record {
  few : l.place + length l.left < 2 ^ 64;
  all : map command_of l.found.items ++ model.commands_of l.script (agent_in l.names) (made_of l.created) l.place l.left
      ≡ model.commands_of l.script (agent_in l.names) model.none_made 0 (model.built_by l.script (agent_in l.names) l.state);
}

-- how many commands are left
abbrev pub decreases-loop-next : goal.decreases-loop-next
decreases-loop-next l = length l.left
