-- With no result left nothing is left to bind.
use Rattle.std.proofs.Common.{◌∙◌, List, sym, ap, arith}
use Rattle.std.proofs.lemmas.List.{drop_all}
use Rattle.mg_model.specs.Agent as model
use Rattle.mg_model.specs.Items.{Done}
use Rattle.mg_model.proofs.Agents.{no_results}
use Rattle.agent.specs.Parts.{agent_in}
use Rattle.agent.proofs.results.after.Goals as goal

pub returns : goal.returns
returns c =
    sym (no_results (agent_in c.loop-done.after) c.loop-done.left c.args.number)
    ∙ sym (ap (λ (results : List Done). model.after_results (agent_in c.loop-done.after) c.loop-done.left results c.args.number)
    (drop_all c.loop-done.done-index c.args.results.now (omega arith)))
    ∙ c.loop-done.invariant
