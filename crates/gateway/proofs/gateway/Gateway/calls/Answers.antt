use Rattle.gateway.specs.GatewayValue.{is_open}
use Rattle.gateway.proofs.gateway.Gateway.calls.Goals as goal

pub returns : goal.returns
unfolding is_open
returns c = rw (← c.self.view_is) c.in_ok-calls.ensures
