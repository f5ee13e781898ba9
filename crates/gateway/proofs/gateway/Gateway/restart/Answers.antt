use Rattle.std.proofs.Common.{refl}
use Rattle.gateway.proofs.RestartLemmas.{next_is, tied_restarted}
use Rattle.gateway.proofs.gateway.Gateway.restart.Goals as goal

pub returns : goal.returns
returns c = next_is (record { association = c.self.inside.association.0; connected = c.self.inside.connections; holders = c.self.inside.holders.entries; calls = c.self.inside.calls.entries; creators = c.self.inside.creators.entries })
    c.args.self.now
    (record { association = c.in-Some.number; connected = c.restart.new.self; holders = c.self.inside.holders.entries; calls = c.restart-2.new.calls.entries; creators = c.clear.new.self.entries })
    c.self.view_is c.in-Some.ensures.0 c.in-Some.ensures.1 c.restart.ensures.board c.restart.ensures.lines refl c.restart-2.ensures

pub invariant_of-self : goal.invariant_of-self
invariant_of-self c = tied_restarted (record { association = c.self.inside.association.0; connected = c.self.inside.connections; holders = c.self.inside.holders.entries; calls = c.self.inside.calls.entries; creators = c.self.inside.creators.entries })
    _ c.self.invariant c.restart.ensures.board refl c.clear.ensures.empty c.restart-2.ensures
