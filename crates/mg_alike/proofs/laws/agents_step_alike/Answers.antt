-- The law.
use Rattle.mg_alike.proofs.Agents.Steps.{agents_step}
use Rattle.mg_alike.proofs.laws.agents_step_alike.Goals as goal

pub returns : goal.returns
returns c = agents_step
