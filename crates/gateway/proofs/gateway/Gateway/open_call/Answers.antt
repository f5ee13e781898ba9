use Rattle.gateway.specs.GatewayValue.{gateway_of}
use Rattle.gateway.proofs.StartLemmas.{or_no_memory}
use Rattle.gateway.proofs.gateway.Gateway.open_call.Goals as goal

pub returns-in-Err-clause-answer : goal.returns-in-Err-clause-answer
unfolding gateway_of
returns-in-Err-clause-answer c = or_no_memory _ _ c.in-Err.ensures

pub returns-in-Ok-open_free-clause-answer : goal.returns-in-Ok-open_free-clause-answer
unfolding gateway_of
returns-in-Ok-open_free-clause-answer c = or_no_memory _ _ c.in-Ok.ensures
