use Rattle.std.proofs.Common.{subst, Option}
use Rattle.requests.specs.Connected.{Connected}
use Rattle.gateway.specs.Standby.{IsStandby}
use Rattle.gateway.proofs.StandbyLemmas.{happened_same}
use Rattle.gateway.proofs.active_and_standby.ActiveAndStandby.happen.Goals as goal

pub invariant_of-self-2 : goal.invariant_of-self-2
invariant_of-self-2 c = happened_same c.args.line.0 c.args.event c.in-Some.standby c.self.inside.active _ _
    (subst (λ (o : Option Connected). IsStandby o c.self.inside.active) c.in-Some.is c.self.invariant)
    c.happen.ensures.board c.happen.ensures.lines c.happen-answer.ensures.board c.happen-answer.ensures.lines
