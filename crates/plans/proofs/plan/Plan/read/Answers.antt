-- A plan that a tree is read as is accepted.
use Rattle.toml.specs.View.{table_view}
use Rattle.plans.proofs.Readings.{plan_is_accepted}
use Rattle.plans.proofs.plan.Plan.read.Goals as goal

pub returns-in-Ok-clause-accepted : goal.returns-in-Ok-clause-accepted
returns-in-Ok-clause-accepted c = plan_is_accepted c.args.script.now (table_view c.in-Ok.tree) c.of_tree.result c.of_tree.ensures
