use Rattle.agent.specs.Parts.{agent_in}
use Rattle.agent.proofs.bindings.Bindings.lose_lines.Goals as goal

pub returns : goal.returns
unfolding agent_in
returns c = λ i. record (agent_in c.args.self.now) { expected = c.all_expected-self.ensures i }
