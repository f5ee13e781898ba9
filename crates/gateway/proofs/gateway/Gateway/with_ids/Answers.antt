use Rattle.std.proofs.Common.{refl}
use Rattle.gateway.proofs.StartLemmas.{starts_tied, first_is, none_open}
use Rattle.gateway.proofs.gateway.Gateway.with_ids.Goals as goal

pub invariant_of-result : goal.invariant_of-result
invariant_of-result c = starts_tied _ _ c.args.lines.now c.in_ok-connections.ensures.board c.new-2.ensures.empty c.new-3.ensures.empty c.in_ok-holders.ensures

pub returns-clause-gateway : goal.returns-clause-gateway
returns-clause-gateway c = first_is _ _ c.args.lines.now refl c.in_ok-connections.ensures.board c.in_ok-connections.ensures.lines c.new-2.ensures.empty c.in_ok-holders.ensures

pub returns-clause-no_call : goal.returns-clause-no_call
returns-clause-no_call c = none_open _ c.new-2.ensures.empty
