-- The call holds the line and is open; and where nothing is found the event can't happen.
use Rattle.std.proofs.Common.{◌≡◌, ◌∙◌, ◌+◌, ◌≤◌, true, Some, sym, ap, subst, arith, true≢false}
use Rattle.mg_model.specs.Numbers.{last_number}
use Rattle.mg_model.specs.Gateway.{outcome_of}
use Rattle.line_events.specs.Raising.{is_raised}
use Rattle.requests.specs.Connected.{line_in}
use Rattle.gateway.specs.Answers.{CannotOccur}
use Rattle.gateway.specs.Calls.{call_in, link_of}
use Rattle.gateway.specs.GatewayValue.{GatewayValue}
use Rattle.gateway.specs.Holders.{HasHolder}
use Rattle.gateway.proofs.HappenLemmas.{open_held, cannot_unheld, cannot_full}
use Rattle.gateway.proofs.gateway.Gateway.holder_for.Goals as goal
use Rattle.gateway.proofs.gateway.Gateway.holder_for.Goals.{else-last-via-then-last+else-raises, else-last-via-else-last}

pub returns-in_default : goal.returns-in_default
returns-in_default c =
    let v : GatewayValue = record { association = c.self.inside.association.0; connected = c.self.inside.connections; holders = c.self.inside.holders.entries; calls = c.self.inside.calls.entries; creators = c.self.inside.creators.entries } in
    subst (λ (w : GatewayValue). CannotOccur w c.args.line.0 c.args.event) c.self.view_is (cannot_unheld v c.args.line.0 c.args.event c.in_default.ensures)

pub returns-in_default-call : goal.returns-in_default-call
returns-in_default-call c =
    let v : GatewayValue = record { association = c.self.inside.association.0; connected = c.self.inside.connections; holders = c.self.inside.holders.entries; calls = c.self.inside.calls.entries; creators = c.self.inside.creators.entries } in
    absurd (open_held v c.self.invariant c.args.line.0 c.in-Some.call c.in-Some.ensures (sym c.in_default-call.ensures))

pub returns-then-raises : goal.returns-then-raises
returns-then-raises c =
    let v : GatewayValue = record { association = c.self.inside.association.0; connected = c.self.inside.connections; holders = c.self.inside.holders.entries; calls = c.self.inside.calls.entries; creators = c.self.inside.creators.entries } in
    let link : (link_of (call_in v.calls c.in-Some.call)).notes ≡ c.in-Some-call.state.now.notes = ap (λ o. (link_of o).notes) (sym c.in-Some-call.ensures) in
    let full : last_number ≤ (link_of (call_in v.calls c.in-Some.call)).notes = omega (arith, c.if-last.true, c.notes-last.ensures) in
    subst (λ (w : GatewayValue). CannotOccur w c.args.line.0 c.args.event) c.self.view_is
    (cannot_full v c.args.line.0 c.args.event c.in-Some.call c.in-Some.ensures full (sym c.if-raises.ensures))

pub returns : goal.returns
returns c =
    let v : GatewayValue = record { association = c.self.inside.association.0; connected = c.self.inside.connections; holders = c.self.inside.holders.entries; calls = c.self.inside.calls.entries; creators = c.self.inside.creators.entries } in
    let room : is_raised (outcome_of (line_in v.connected c.args.line.0) c.args.event) ≡ true → c.notes-last.result + 1 ≤ last_number =
    λ raised. elim c.else-last.branch [
      | else-last-via-then-last+else-raises w ↦ absurd (true≢false (sym raised ∙ sym w.if-raises.ensures))
      | else-last-via-else-last w ↦ omega (arith, w.if-last.false, c.notes-last.type_inv)
    ] in
    subst (λ (w : GatewayValue). HasHolder w c.args.line.0 c.args.event (Some (record { call = c.in-Some.call; last = c.notes-last.result }))) c.self.view_is (record {
      state = c.in-Some-call.state.now;
      holds = sym c.in-Some.ensures;
      is_state = sym c.in-Some-call.ensures;
      last_is = c.notes-last.ensures;
      most = omega (arith, c.notes-last.type_inv);
      room = room;
    })
