-- Where the call holds the line, the event can happen exactly where it can on the line.
use Rattle.std.proofs.Common.{sym, subst}
use Rattle.gateway.specs.Answers.{CanHappen}
use Rattle.gateway.specs.GatewayValue.{GatewayValue}
use Rattle.gateway.specs.Holders.{IsHolder}
use Rattle.gateway.proofs.HolderLemmas.{can_happen}
use Rattle.gateway.proofs.gateway.Gateway.can_happen.Goals as goal

pub returns : goal.returns
returns c =
    let v : GatewayValue = record { association = c.self.inside.association.0; connected = c.self.inside.connections; holders = c.self.inside.holders.entries; calls = c.self.inside.calls.entries; creators = c.self.inside.creators.entries } in
    let holder : IsHolder v c.args.line.0 c.args.event c.in-Some.field-0 = subst (λ (w : GatewayValue). IsHolder w c.args.line.0 c.args.event c.in-Some.field-0) (sym c.self.view_is) c.in-Some.ensures in
    subst (λ (w : GatewayValue). CanHappen w c.args.line.0 c.args.event c.can_happen.result) c.self.view_is
    (can_happen v c.args.line.0 c.args.event c.in-Some.field-0 holder c.self.invariant c.can_happen.result c.can_happen.ensures)
