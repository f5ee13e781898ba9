-- The results that are left, on the commands that are left, come to what all of them come to.
use Rattle.std.proofs.Common.{◌≡◌, drop}
use Rattle.mg_model.specs.Agent as model
use Rattle.agent.specs.Parts.{agent_in}
use Rattle.agent.proofs.results.after.Given as goal

abbrev pub invariant-loop-done : goal.invariant-loop-done
invariant-loop-done l =
    model.after_results (agent_in l.after) l.left (drop l.done-index l.results) l.number
    ≡ model.after_results (agent_in l.bindings) (model.built_by l.script (agent_in l.bindings) l.state) l.results l.number
