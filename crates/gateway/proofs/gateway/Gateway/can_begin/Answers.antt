use Rattle.std.proofs.Common.{◌≡◌, ℕ, true, false, Some, None, is_some, Ok, Err, sym, ap, subst}
use Rattle.requests.specs.Connected.{board_in, line_in}
use Rattle.gateway.specs.declared.fault.BeginFault.TheVariants.{UnknownCall, Taken, CannotHappen}
use Rattle.gateway.specs.Beginnings.{CanBegin, is_at_rest}
use Rattle.gateway.specs.Calls.{OpenCall, call_in, is_taken_in}
use Rattle.gateway.specs.GatewayValue.{GatewayValue, AreTied, gateway_of, is_open, is_taken}
use Rattle.gateway.proofs.MayLemmas.{may_begin, may_not}
use Rattle.gateway.proofs.gateway.Gateway.can_begin.Goals as goal

unknown : (v : GatewayValue) (old new : ℕ) → None ≡ call_in v.calls old → CanBegin v old new (Err UnknownCall)
unfolding is_open
unknown v old new none = ap is_some (sym none)

taken : (v : GatewayValue) (old new : ℕ) (c : OpenCall) → Some c ≡ call_in v.calls old → true ≡ is_taken_in v.calls new → CanBegin v old new (Err Taken)
unfolding is_open is_taken
taken v old new c found is = (ap is_some (sym found), sym is)

busy : (v : GatewayValue) (old new : ℕ) (c : OpenCall) → AreTied v → Some c ≡ call_in v.calls old → false ≡ is_taken_in v.calls new
    → false ≡ is_at_rest (board_in v.connected) (line_in v.connected) (gateway_of v).creator old c → CanBegin v old new (Err CannotHappen)
unfolding is_open is_taken
busy v old new c tied found free rest = (ap is_some (sym found), sym free, may_not v old c tied (sym found) (sym rest))

able : (v : GatewayValue) (old new : ℕ) (c : OpenCall) → AreTied v → Some c ≡ call_in v.calls old → false ≡ is_taken_in v.calls new
    → true ≡ is_at_rest (board_in v.connected) (line_in v.connected) (gateway_of v).creator old c → CanBegin v old new (Ok tt)
unfolding is_open is_taken
able v old new c tied found free rest = (ap is_some (sym found), sym free, may_begin v old c tied (sym found) (sym rest))

pub returns-in_default : goal.returns-in_default
returns-in_default c =
    let v : GatewayValue = record { association = c.self.inside.association.0; connected = c.self.inside.connections; holders = c.self.inside.holders.entries; calls = c.self.inside.calls.entries; creators = c.self.inside.creators.entries } in
    subst (λ (w : GatewayValue). CanBegin w c.args.old.0 c.args.new.0 (Err UnknownCall)) c.self.view_is (unknown v c.args.old.0 c.args.new.0 c.in_default.ensures)

pub returns-then-is_taken : goal.returns-then-is_taken
returns-then-is_taken c =
    let v : GatewayValue = record { association = c.self.inside.association.0; connected = c.self.inside.connections; holders = c.self.inside.holders.entries; calls = c.self.inside.calls.entries; creators = c.self.inside.creators.entries } in
    subst (λ (w : GatewayValue). CanBegin w c.args.old.0 c.args.new.0 (Err Taken)) c.self.view_is (taken v c.args.old.0 c.args.new.0 c.in-Some.state.now c.in-Some.ensures c.if-is_taken.ensures)

pub returns-then-not-is_at_rest : goal.returns-then-not-is_at_rest
returns-then-not-is_at_rest c =
    let v : GatewayValue = record { association = c.self.inside.association.0; connected = c.self.inside.connections; holders = c.self.inside.holders.entries; calls = c.self.inside.calls.entries; creators = c.self.inside.creators.entries } in
    subst (λ (w : GatewayValue). CanBegin w c.args.old.0 c.args.new.0 (Err CannotHappen)) c.self.view_is
    (busy v c.args.old.0 c.args.new.0 c.in-Some.state.now c.self.invariant c.in-Some.ensures c.if-is_taken.ensures
    (subst (λ (w : GatewayValue). false ≡ is_at_rest (board_in w.connected) (line_in w.connected) (gateway_of w).creator c.args.old.0 c.in-Some.state.now) (sym c.self.view_is) c.if-not-is_at_rest.ensures))

pub returns : goal.returns
returns c =
    let v : GatewayValue = record { association = c.self.inside.association.0; connected = c.self.inside.connections; holders = c.self.inside.holders.entries; calls = c.self.inside.calls.entries; creators = c.self.inside.creators.entries } in
    subst (λ (w : GatewayValue). CanBegin w c.args.old.0 c.args.new.0 (Ok tt)) c.self.view_is
    (able v c.args.old.0 c.args.new.0 c.in-Some.state.now c.self.invariant c.in-Some.ensures c.if-is_taken.ensures
    (subst (λ (w : GatewayValue). true ≡ is_at_rest (board_in w.connected) (line_in w.connected) (gateway_of w).creator c.args.old.0 c.in-Some.state.now) (sym c.self.view_is) c.if-not-is_at_rest.ensures))
