use Rattle.std.proofs.Common.{◌∙◌, ap, subst, Option}
use Rattle.requests.specs.Connected.{Connected, line_in}
use Rattle.gateway.specs.Standby.{IsStandby}
use Rattle.gateway.proofs.StandbyLemmas.{all_cleared, restarted_same}
use Rattle.gateway.proofs.active_and_standby.ActiveAndStandby.restart.Goals as goal

pub returns-in_default-clause-lines : goal.returns-in_default-clause-lines
returns-in_default-clause-lines c = c.restart.ensures.lines ∙ ap (λ (x : Connected). all_cleared (line_in x)) c.self.view_is

pub returns-clause-lines : goal.returns-clause-lines
returns-clause-lines c = c.restart.ensures.lines ∙ ap (λ (x : Connected). all_cleared (line_in x)) c.self.view_is

pub invariant_of-self-2 : goal.invariant_of-self-2
invariant_of-self-2 c = restarted_same c.in-Some.standby c.self.inside.active _ _
    (subst (λ (o : Option Connected). IsStandby o c.self.inside.active) c.in-Some.is c.self.invariant)
    c.restart-2.ensures.board c.restart-2.ensures.lines c.restart.ensures.board c.restart.ensures.lines
