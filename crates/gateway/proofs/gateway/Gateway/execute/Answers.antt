use Rattle.std.proofs.Common.{ℕ, subst}
use Rattle.gateway.specs.Answers.{IsAnswered}
use Rattle.gateway.specs.GatewayValue.{GatewayValue}
use Rattle.gateway.proofs.gateway.Gateway.execute.Goals as goal

pub returns-in-Ok : goal.returns-in-Ok
returns-in-Ok c =
    subst (λ (w : GatewayValue). IsAnswered w c.args.call.0 c.args.request.now c.args.chosen c.put.new.self c.put.result) c.run.ensures.unchanged
    (subst (λ (n : ℕ). IsAnswered c.run.new.self n c.args.request.now c.args.chosen c.put.new.self c.put.result) c.in-New.ensures.1 c.put.ensures)
